-- `marking::trace` meets its contract.
use Rattle.model_laws.proofs.Lengths.{sizes_of}
use Rattle.marking.proofs.Tracing.{trace_moved, trace_over, trace_nil, trace_torn, trace_visits}
use Rattle.marking.proofs.trace.Goals as goal

pub returns-then-count-eq0 : goal.returns-then-count-eq0
returns-then-count-eq0 c =
    trace_moved _ _ (sizes_of _ _ c.requires) _ c.trace_count-count.ensures c.if-count-eq0.true _ c.set_phase.ensures

pub returns-then-trace_words-last : goal.returns-then-trace_words-last
returns-then-trace_words-last c =
    trace_over _ _ (sizes_of _ _ c.requires) _ c.trace_count-count.ensures c.if-count-eq0.false _ c.trace_words.ensures c.if-trace_words-last.true _

pub returns-then-w-eq0 : goal.returns-then-w-eq0
returns-then-w-eq0 c =
    trace_nil _ _ (sizes_of _ _ c.requires) _ c.trace_count-count.ensures c.if-count-eq0.false _ c.trace-w.ensures c.if-w-eq0.true _

pub returns-then-heap_words-at : goal.returns-then-heap_words-at
returns-then-heap_words-at c =
    trace_torn _ _ (sizes_of _ _ c.requires) _ c.trace_count-count.ensures c.if-count-eq0.false _ c.trace-w.ensures c.if-w-eq0.false _ c.heap_words.ensures
    c.if-heap_words-at.true _

pub returns : goal.returns
returns c =
    trace_visits _ _ (sizes_of _ _ c.requires) _ c.trace_count-count.ensures c.if-count-eq0.false _ c.trace-w.ensures c.if-w-eq0.false _ _ c.visit.ensures
