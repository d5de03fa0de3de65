-- `examine_summed::summed` meets its contract.
use mathlib.Core.Path.{refl}
use Prim.Native.Nat.{ℕ, ◌<◌}
use Rattle.basics.specs.Decides.{Decides}
use Rattle.basics.proofs.Both.{first_held, first_failed}
use Rattle.layout.specs.Mem.{mem_of}
use Rattle.model.specs.Consistent.{TreeOk, CountsOk}
use Rattle.examine_summed.proofs.Ordered.{all_three}
use Rattle.examine_summed.proofs.summed.Goals as goal
use Rattle.examine_summed.proofs.summed.Goals.{then-trees, else-trees}

pub returns-then-counts : goal.returns-then-counts
returns-then-counts c =
    let g = c.args.g in
    let m = mem_of g c.args.mem.now in
    let d : Decides c.if-trees.value (((s : ℕ) → s < g.segments → TreeOk g m s) × ((s : ℕ) → s < g.segments → CountsOk g m s)) =
    elim c.if-trees.branch [
      | then-trees w ↦ first_held c.trees.ensures w.if-trees.true w.counts.ensures w.value-is
      | else-trees w ↦ first_failed c.trees.ensures w.if-trees.false w.value-is
    ] in
    all_three g m (first_held d c.if-counts.true c.stacks.ensures refl)

pub returns-else-counts : goal.returns-else-counts
returns-else-counts c =
    let g = c.args.g in
    let m = mem_of g c.args.mem.now in
    let d : Decides c.if-trees.value (((s : ℕ) → s < g.segments → TreeOk g m s) × ((s : ℕ) → s < g.segments → CountsOk g m s)) =
    elim c.if-trees.branch [
      | then-trees w ↦ first_held c.trees.ensures w.if-trees.true w.counts.ensures w.value-is
      | else-trees w ↦ first_failed c.trees.ensures w.if-trees.false w.value-is
    ] in
    all_three g m (first_failed d c.if-counts.false refl)
