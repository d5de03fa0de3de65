-- `stacks::top` meets its contract.
use Rattle.layout.specs.Mem.{mem_of}
use Rattle.stacks.proofs.Stacking.{top_none, top_over, top_there, top_off}
use Rattle.stacks.proofs.top.Goals as goal

pub returns-then-count-eq0 : goal.returns-then-count-eq0
returns-then-count-eq0 c = top_none _ (mem_of c.args.g c.args.mem.now) _ _ _ c.base-at.ensures c.stack-count.ensures c.if-count-eq0.true

pub returns-then-g-count : goal.returns-then-g-count
returns-then-g-count c = top_over _ (mem_of c.args.g c.args.mem.now) _ _ _ c.base-at.ensures c.stack-count.ensures c.if-count-eq0.false c.if-g-count.true

pub returns-then-s-g : goal.returns-then-s-g
returns-then-s-g c =
    top_there _ (mem_of c.args.g c.args.mem.now) _ _ _ c.base-at.ensures c.stack-count.ensures c.if-count-eq0.false
    c.if-g-count.false _ c.stack-s.ensures c.if-s-g.true

pub returns : goal.returns
returns c =
    top_off _ (mem_of c.args.g c.args.mem.now) _ _ _ c.base-at.ensures c.stack-count.ensures c.if-count-eq0.false c.if-g-count.false _ c.stack-s.ensures c.if-s-g.false
