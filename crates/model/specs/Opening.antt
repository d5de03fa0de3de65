-- The opening. Document 01: "An opening stacks the free ones so that segment 0 comes off first. It works on memory of any content, and leaves
-- every segment free, no script attached, the trace stack empty and the phase idle."
use Rattle.std.specs.Prelude.{List, [], ◌∷◌, ◌++◌, ℕ, zero, suc, ◌+◌, ◌-◌, replicate}
use Rattle.layout.specs.declared.Geometry.{Geometry}
use Rattle.layout.specs.Geometry.{len}
use Rattle.layout.specs.Mem.{Mem}
use Rattle.layout.specs.Region as Region

-- n - 1 down to 0: the last put on is segment 0
unfoldable pub down_to0 : ℕ → List ℕ
down_to0 zero = []
down_to0 (suc n) = n ∷ down_to0 n

-- the free stack with every segment, and empty part stacks; what stands past a count is 0
abbrev pub open_stacks : Geometry → List ℕ
open_stacks g = g.segments ∷ down_to0 g.segments ++ replicate (len g Region.stacks - (1 + g.segments)) 0

-- bitmaps, marks, trace entries and heap words stay as they are: nothing binds them
unfoldable pub opened : Geometry → Mem → Mem
opened g m = record {
  control = replicate (len g Region.control) 0;
  mutators = replicate (len g Region.mutators) 0;
  segments = replicate (len g Region.segments) 0;
  stacks = open_stacks g;
  bitmaps = m.bitmaps;
  marks = m.marks;
  trace = m.trace;
  heap = m.heap;
}
