-- `examine_cycle::segment_judged` meets its contract. The loop's invariant: the blocks before `b` are judged, and `at` is the word of block `b`.
use Prim.Native.Nat.{ℕ, ◌≤◌, ◌<◌}
use mathlib.Core.Path.{◌≡◌}
use Rattle.layout.specs.Mem.{mem_of}
use Rattle.model.specs.Records.{header_of}
use Rattle.examine_cycle.specs.Judged.{BlockJudged}
use Rattle.examine_cycle.proofs.segment_judged.Given as goal

abbrev pub invariant-loop-b : goal.invariant-loop-b
invariant-loop-b l =
    (l.b ≤ l.blocks) × (l.at ≡ header_of l.g l.s l.class l.b) × ((j : ℕ) → j < l.b → BlockJudged l.asked l.g (mem_of l.g l.mem) l.bits l.cover l.s (header_of l.g l.s l.class j))
