-- `examine_record::is_entered` meets its contract.
use Rattle.layout.specs.Mem.{mem_of}
use Rattle.examine_record.proofs.Testing.{entered_by, tested_small}
use Rattle.examine_record.proofs.is_entered.Goals as goal

pub is_set-requires : goal.is_set-requires
is_set-requires c =
    let a = c.args in
    (c.requires.0, tested_small a.g (mem_of a.g a.mem.now) a.at _ c.requires.1 c.mark_bit.ensures)

pub returns : goal.returns
returns c =
    let a = c.args in
    entered_by a.g (mem_of a.g a.mem.now) a.at _ c.mark_bit.ensures _ c.is_set.ensures
