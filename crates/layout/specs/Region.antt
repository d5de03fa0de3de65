-- The regions of the lent slice, by their place in it.
use Rattle.std.specs.Prelude.{ℕ}

-- the phase, the count of the trace stack, the sweep's cursor
abbrev pub control : ℕ
control = 0

-- the mutators' entries
abbrev pub mutators : ℕ
mutators = 1

-- the records
abbrev pub heap : ℕ
heap = 2

-- the segment records
abbrev pub segments : ℕ
segments = 3

-- the stacks of free and of part segments
abbrev pub stacks : ℕ
stacks = 4

abbrev pub bitmaps : ℕ
bitmaps = 5

abbrev pub marks : ℕ
marks = 6

abbrev pub trace : ℕ
trace = 7
