-- `examine_parts::mutator` meets its contract.
use mathlib.Core.Path.{refl}
use Rattle.basics.specs.Decides.{Decides}
use Rattle.basics.proofs.Both.{first_held, first_failed}
use Rattle.layout.specs.Mem.{mem_of}
use Rattle.examine_parts.specs.Parts.{Entry}
use Rattle.examine_parts.proofs.Tables.{Table, mutator_all}
use Rattle.examine_parts.proofs.mutator.Goals as goal
use Rattle.examine_parts.proofs.mutator.Goals.{then-entry, else-entry}

pub returns-then-holdings : goal.returns-then-holdings
returns-then-holdings c =
    let a = c.args in
    let m = mem_of a.g a.mem.now in
    let d : Decides c.if-entry.value (Entry m a.k × Table a.g m a.k) =
    elim c.if-entry.branch [
      | then-entry w ↦ first_held c.entry.ensures w.if-entry.true w.holdings.ensures w.value-is
      | else-entry w ↦ first_failed c.entry.ensures w.if-entry.false w.value-is
    ] in
    mutator_all a.g m a.k (first_held d c.if-holdings.true c.acknowledged.ensures refl)

pub returns-else-holdings : goal.returns-else-holdings
returns-else-holdings c =
    let a = c.args in
    let m = mem_of a.g a.mem.now in
    let d : Decides c.if-entry.value (Entry m a.k × Table a.g m a.k) =
    elim c.if-entry.branch [
      | then-entry w ↦ first_held c.entry.ensures w.if-entry.true w.holdings.ensures w.value-is
      | else-entry w ↦ first_failed c.entry.ensures w.if-entry.false w.value-is
    ] in
    mutator_all a.g m a.k (first_failed d c.if-holdings.false refl)
