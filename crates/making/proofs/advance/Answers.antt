-- `making::advance` meets its contract.
use native.Mathlib.Omega.{arith}
use Rattle.making.proofs.Placing.{block_small}
use Rattle.making.proofs.HandingOut.{more_below, advanced_most, advanced_more, advanced_last, advanced_none, advanced_torn}
use Rattle.making.proofs.advance.Goals as goal

pub returns-then-handed : goal.returns-then-handed
returns-then-handed c = advanced_most _ _ _ _ _ _ c.handed-handed.ensures c.if-handed.true

pub overflow_add-b : goal.overflow_add-b
overflow_add-b c =
    let n = (block_small _ _ _ c.requires.2 (more_below c.next_two.ensures c.in-More.is)).1 in
    omega arith

pub returns-in-More : goal.returns-in-More
returns-in-More c =
    advanced_more _ _ _ _ _ _ c.place-place.ensures _ c.next_two.ensures _ c.handed-handed.ensures _ c.set_handed.ensures _ c.in-More.is _
    c.set_place.ensures

pub returns-in-Last : goal.returns-in-Last
returns-in-Last c =
    advanced_last _ _ _ _ _ _ c.place-place.ensures _ c.next_two.ensures _ c.handed-handed.ensures _ c.set_handed-in-Last.ensures _ c.in-Last.is _ _
    c.write.ensures c.set_holding.ensures

pub returns-in-Nothing : goal.returns-in-Nothing
returns-in-Nothing c = advanced_none _ _ _ _ _ _ c.place-place.ensures _ c.next_two.ensures c.in-Nothing.is

pub returns-in-Torn : goal.returns-in-Torn
returns-in-Torn c = advanced_torn _ _ _ _ _ _ c.place-place.ensures _ c.next_two.ensures c.in-Torn.is
