-- `examine_summed::segment_counts` meets its contract.
use mathlib.Core.Path.{sym, ◌∙◌}
use mathlib.Core.Bool.{true≢false}
use Rattle.classes.proofs.Every.{class_passed, class_passes}
use Rattle.layout.specs.Mem.{mem_of}
use Rattle.examine_summed.proofs.Counted.{counts_classed, counts_unclassed}
use Rattle.examine_summed.proofs.segment_counts.Goals as goal

pub counts_of-requires-clause-class : goal.counts_of-requires-clause-class
counts_of-requires-clause-class c = class_passed _ (sym c.is_class.ensures ∙ c.if-not-is_class.false)

pub returns-then-not-is_class : goal.returns-then-not-is_class
returns-then-not-is_class c =
    let a = c.args in
    rw c.if-not-is_class.true
    (counts_unclassed a.g (mem_of a.g a.mem.now) a.s _ c.tag-tag.ensures c.if-tag-eq-TAG_FREE.false _ c.class-class.ensures
    (λ k. true≢false (sym (class_passes _ k) ∙ sym c.is_class.ensures ∙ c.if-not-is_class.true)))

pub returns-else-not-is_class : goal.returns-else-not-is_class
returns-else-not-is_class c =
    let a = c.args in
    counts_classed a.g (mem_of a.g a.mem.now) a.s _ c.tag-tag.ensures c.if-tag-eq-TAG_FREE.false _ c.class-class.ensures
    (class_passed _ (sym c.is_class.ensures ∙ c.if-not-is_class.false)) _ c.counts_of.ensures
