-- `stepping::answer_outside` meets its contract. The loop's invariant: all mutators outside before the next one have given their acknowledgements.
use mathlib.Core.Path.{refl, sym, ◌∙◌}
use native.Mathlib.Omega.{arith}
use Rattle.layout.proofs.Regions.{resized}
use Rattle.model_laws.proofs.Lengths.{sizes_of}
use Rattle.stepping.proofs.Answering.{nearer, go_on, answered_first, answered_more, answer_hindered, all_answered}
use Rattle.stepping.proofs.answer_outside.Goals as goal

pub loop-next-init : goal.loop-next-init
loop-next-init c = (refl, answered_first _ _ (sizes_of _ _ c.requires) _ c.next_outside-next.ensures)

pub acknowledge-requires : goal.acknowledge-requires
acknowledge-requires c = (resized _ _ _ c.requires c.loop-next.invariant.0, c.loop-next.invariant.1.few _ c.in-Some.is)

pub returns-then-not-acknowledge : goal.returns-then-not-acknowledge
returns-then-not-acknowledge c =
    let t = c.loop-next.invariant.1 in
    let i = c.in-Some.is in
    answer_hindered _ _ (sizes_of _ _ c.requires) _ (t.few _ i) _ (t.is _ i) _ refl (t.next _ i) _ _ c.acknowledge.ensures c.if-not-acknowledge.true

pub overflow_add-k : goal.overflow_add-k
overflow_add-k c = omega (arith, c.loop-next.invariant.1.few _ c.in-Some.is)

pub loop-next-smaller : goal.loop-next-smaller
loop-next-smaller c = nearer _ _ (c.loop-next.invariant.1.few _ c.in-Some.is) _ _ c.in-Some.is c.next_outside-next-in-Some.ensures

pub loop-next-preserved : goal.loop-next-preserved
loop-next-preserved c =
    let t = c.loop-next.invariant.1 in
    let i = c.in-Some.is in
    let s = sizes_of _ _ c.requires in (
      c.acknowledge.auto.mem ∙ c.loop-next.invariant.0,
      go_on _ _ s _ (omega (arith, t.few _ i)) _
          (answered_more _ _ s _ (t.few _ i) _ (t.is _ i) _ refl (t.next _ i) _ _ c.acknowledge.ensures c.if-not-acknowledge.false)
          _ c.next_outside-next-in-Some.ensures,
    )

pub returns : goal.returns
returns c = all_answered _ _ _ _ c.loop-next.invariant.1 c.in_default.not-Some
