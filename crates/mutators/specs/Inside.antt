-- The refusal of a mutator that must be inside, over the memory: theory's rule of what the memory shows.
use Rattle.std.specs.Prelude.{ℕ}
use Rattle.layout.specs.Mem.{Mem}
use Rattle.theory.specs.Calls.{if_inside}
use Rattle.model.specs.Calls.{observe}

-- 2, 4 or 5 unless mutator k is attached and inside, and then what follows
unfoldable pub inside_then : Mem → ℕ → ℕ → ℕ
inside_then m k rest = if_inside (observe m) k rest
