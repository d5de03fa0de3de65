-- `examine_trace::enter` meets its contract.
use Rattle.examine_record.proofs.Testing.{tested_small}
use Rattle.examine_trace.proofs.Entering.{enter_nil, enter_torn, enter_by}
use Rattle.examine_trace.proofs.enter.Goals as goal

pub returns-then-w-eq0 : goal.returns-then-w-eq0
returns-then-w-eq0 c = enter_nil _ _ _ _ _ c.trace-w.ensures c.if-w-eq0.true

pub enter_bit-requires : goal.enter_bit-requires
enter_bit-requires c = let t = c.in-Some.ensures in (c.requires.0, tested_small _ _ _ _ t.0 t.1, c.requires.2)

pub returns-in_default : goal.returns-in_default
returns-in_default c = enter_torn _ _ _ _ _ c.trace-w.ensures c.in_default.ensures

pub returns : goal.returns
returns c =
    let t = c.in-Some.ensures in
    enter_by _ _ _ _ _ c.trace-w.ensures c.if-w-eq0.false t.0 _ t.1 _ _ c.enter_bit.ensures
