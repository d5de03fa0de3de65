-- A run of bytes placed in a list: what a writer of text does to a buffer.
use Rattle.std.specs.Prelude.{ℕ, ◌+◌, List, ◌++◌, length, take, drop}

-- a list with the bytes t from a place on, all else as it was
unfoldable pub placed : List ℕ → ℕ → List ℕ → List ℕ
placed l at t = take at l ++ (t ++ drop (at + length t) l)
