-- `tracing::push` meets its contract.
use mathlib.Core.Path.{sym, ◌∙◌}
use Rattle.marks.proofs.Bits.{bit_within}
use Rattle.tracing.proofs.Pushed.{push_nil, push_torn, push_by}
use Rattle.tracing.proofs.push.Goals as goal

pub returns-then-w-eq0 : goal.returns-then-w-eq0
returns-then-w-eq0 c = push_nil _ _ _ c.if-w-eq0.true

pub push_bit-requires : goal.push_bit-requires
push_bit-requires c =
    (c.requires, (bit_within _ _ _ (sym c.in-Some.is ∙ c.record_bit.ensures)).1)

pub returns-in-None : goal.returns-in-None
returns-in-None c =
    push_torn _ _ _ c.if-w-eq0.false (sym c.in-None.is ∙ c.record_bit.ensures)

pub returns-in-Some : goal.returns-in-Some
returns-in-Some c =
    push_by _ _ _ _ _ _ c.if-w-eq0.false (sym c.in-Some.is ∙ c.record_bit.ensures) c.push_bit.ensures
