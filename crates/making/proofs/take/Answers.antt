-- `making::take` meets its contract.
use Rattle.layout.specs.Mem.{mem_of}
use Rattle.making.proofs.Taking.{held_none, held_off, held_there}
use Rattle.making.proofs.take.Goals as goal

pub returns-then-held-eq0 : goal.returns-then-held-eq0
returns-then-held-eq0 c =
    held_none c.args.g (mem_of c.args.g c.args.mem.now) c.args.mutator _ _ c.holding-held.ensures c.if-held-eq0.true _ _ c.take_new.ensures

pub returns-then-g-held : goal.returns-then-g-held
returns-then-g-held c =
    held_off c.args.g (mem_of c.args.g c.args.mem.now) c.args.mutator _ _ c.holding-held.ensures c.if-held-eq0.false c.requires.1 c.requires.2 c.if-g-held.true

pub returns : goal.returns
returns c = held_there c.args.g (mem_of c.args.g c.args.mem.now) c.args.mutator _ _ c.holding-held.ensures c.if-held-eq0.false c.if-g-held.false
