-- The tags of the segments' states, by the number that the segment's record has.
use Rattle.std.specs.Prelude.{ℕ}

abbrev pub free : ℕ
free = 0

abbrev pub part : ℕ
part = 1

abbrev pub held : ℕ
held = 2

abbrev pub full : ℕ
full = 3

-- document 01: condemned; in the collect set of the papers
abbrev pub condemned : ℕ
condemned = 4
