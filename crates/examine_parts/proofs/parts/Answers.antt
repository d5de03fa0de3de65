-- `examine_parts::parts` meets its contract.
use mathlib.Core.Path.{refl}
use Rattle.basics.specs.Decides.{Decides}
use Rattle.basics.proofs.Both.{first_held, first_failed}
use Rattle.layout.specs.Mem.{mem_of}
use Rattle.model.specs.Consistent.{Behind}
use Rattle.examine_parts.proofs.Tables.{Segments, parts_all}
use Rattle.examine_parts.proofs.parts.Goals as goal
use Rattle.examine_parts.proofs.parts.Goals.{then-segments, else-segments}

pub returns-then-behind : goal.returns-then-behind
returns-then-behind c =
    let g = c.args.g in
    let m = mem_of g c.args.mem.now in
    let d : Decides c.if-segments.value (Segments g m × Behind g m) =
    elim c.if-segments.branch [
      | then-segments w ↦ first_held c.segments.ensures w.if-segments.true w.behind.ensures w.value-is
      | else-segments w ↦ first_failed c.segments.ensures w.if-segments.false w.value-is
    ] in
    parts_all g m _ c.phase.ensures c.if-phase-gt-SWEEP.false (first_held d c.if-behind.true c.mutators.ensures refl)

pub returns-else-behind : goal.returns-else-behind
returns-else-behind c =
    let g = c.args.g in
    let m = mem_of g c.args.mem.now in
    let d : Decides c.if-segments.value (Segments g m × Behind g m) =
    elim c.if-segments.branch [
      | then-segments w ↦ first_held c.segments.ensures w.if-segments.true w.behind.ensures w.value-is
      | else-segments w ↦ first_failed c.segments.ensures w.if-segments.false w.value-is
    ] in
    parts_all g m _ c.phase.ensures c.if-phase-gt-SWEEP.false (first_failed d c.if-behind.false refl)
