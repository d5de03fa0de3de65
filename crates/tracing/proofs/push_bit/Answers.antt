-- `tracing::push_bit` meets its contract.
use native.Mathlib.Omega.{arith}
use Rattle.basics.proofs.Deciding.{refuted}
use Rattle.layout.proofs.Sizes.{trace_most}
use Rattle.tracing.proofs.Pushed.{push_old, push_full, push_done}
use Rattle.tracing.proofs.push_bit.Goals as goal

pub returns-then-is_set : goal.returns-then-is_set
returns-then-is_set c = push_old _ _ _ _ (c.is_set.ensures.sound c.if-is_set.true)

pub returns-then-trace_words-count : goal.returns-then-trace_words-count
returns-then-trace_words-count c =
    push_full _ _ _ _ (refuted c.is_set.ensures c.if-is_set.false) _ c.trace_count-count.ensures _
    c.trace_words.ensures c.if-trace_words-count.true

pub set-requires : goal.set-requires
set-requires c =
    (c.requires.0, omega (arith, c.requires.1))

pub overflow_add-count : goal.overflow_add-count
overflow_add-count c =
    let most = trace_most c.args.g c.requires.0.few in
    omega arith

pub returns : goal.returns
returns c =
    push_done _ _ _ _ (refuted c.is_set.ensures c.if-is_set.false) _ c.trace_count-count.ensures _ _ _
    c.set.ensures c.set_trace.ensures c.set_trace_count.ensures
