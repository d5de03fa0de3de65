-- `examine_parts::segment` meets its contract.
use mathlib.Core.Path.{sym, ◌∙◌}
use mathlib.Core.Bool.{true≢false}
use Rattle.classes.proofs.Every.{class_passed, class_passes}
use Rattle.layout.specs.Mem.{mem_of}
use Rattle.examine_parts.proofs.Records.{segment_unclassed, segment_used}
use Rattle.examine_parts.proofs.segment.Goals as goal

pub used-requires-clause-class : goal.used-requires-clause-class
used-requires-clause-class c = class_passed _ (sym c.is_class.ensures ∙ c.if-is_class.true)

pub returns-then-is_class : goal.returns-then-is_class
returns-then-is_class c =
    let a = c.args in
    let k = class_passed _ (sym c.is_class.ensures ∙ c.if-is_class.true) in
    segment_used a.g (mem_of a.g a.mem.now) a.s _ c.tag-tag.ensures c.if-tag-eq-TAG_FREE.false _
    c.class-class.ensures c.if-tag-gt-TAG_CONDEMNED.false k.0 k.1 _ c.used.ensures

pub returns-else-is_class : goal.returns-else-is_class
returns-else-is_class c =
    let a = c.args in
    rw c.if-is_class.false
    (segment_unclassed a.g (mem_of a.g a.mem.now) a.s _ c.tag-tag.ensures c.if-tag-eq-TAG_FREE.false _ c.class-class.ensures
    (λ k. true≢false (sym (class_passes _ k) ∙ sym c.is_class.ensures ∙ c.if-is_class.false)))
