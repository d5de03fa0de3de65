-- `examine_summed::counts_of` meets its contract.
use Rattle.layout.specs.Mem.{mem_of}
use Rattle.examine_summed.proofs.Counted.{kept_wrong, handed_right}
use Rattle.examine_summed.proofs.counts_of.Goals as goal

pub returns-then-kept-in_use : goal.returns-then-kept-in_use
returns-then-kept-in_use c =
    let a = c.args in
    kept_wrong a.g (mem_of a.g a.mem.now) a.s a.class _ _ c.kept-kept.ensures c.in_use.ensures c.if-kept-in_use.true

pub returns : goal.returns
returns c =
    let a = c.args in
    rw (c.from.ensures, c.from-2.ensures, c.from-3.ensures)
    (handed_right a.g (mem_of a.g a.mem.now) a.s a.class _ _ c.kept-kept.ensures c.in_use.ensures c.if-kept-in_use.false _ _ _
    c.handed.ensures c.place.ensures c.in_use-used.ensures)
