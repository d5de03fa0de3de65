-- `sweeping::sweep_segment` meets its contract. The record is read where `told` is, its class found to be one where `known` is, and its counts to tell no
-- more blocks than there are where `few` is; the tree is written where `written` is, and the counts where `counted` is.
use mathlib.Core.Path.{◌≡◌, sym, ap₂, ◌∙◌}
use Prim.Native.Nat.{ℕ, ◌+◌}
use native.Mathlib.Omega.{arith}
use Rattle.classes.proofs.Every.{class_passed}
use Rattle.layout.specs.Mem.{mem_of}
use Rattle.layout.proofs.Regions.{resized}
use Rattle.bitmaps.proofs.Unset.{unset_fresh, unset_ones}
use Rattle.sweeping.proofs.Sweeping.{swept_no_class, swept_too_many, swept_finished, condemned_read}
use Rattle.sweeping.proofs.sweep_segment.Goals as goal

-- a sum of equals
sum_of : {a b c d : ℕ} → a ≡ c → b ≡ d → a + b ≡ c + d
sum_of e f = ap₂ (λ (x y : ℕ). x + y) e f

pub returns-then-used-blocks : goal.returns-then-used-blocks
returns-then-used-blocks c =
    let a = c.args in
    let m = mem_of a.g a.mem.now in
    let is = c.condemned_class-class.ensures _ _ (condemned_read m a.s _ c.read-segment.ensures.0 c.requires.s_value) in
    swept_too_many a.g m a.s _ is (sym c.is_class.ensures ∙ c.if-is_class.true) _
    (sum_of c.read-segment.ensures.1 c.read-segment.ensures.2) (omega arith) _

pub fresh-requires : goal.fresh-requires
fresh-requires c =
    record {
      sized = c.requires.sized;
      class = class_passed _ (sym c.is_class.ensures ∙ c.if-is_class.true);
    }

pub write_counts-requires : goal.write_counts-requires
write_counts-requires c =
    (resized _ _ _ c.requires.sized.0 c.fresh.auto.mem, c.requires.sized.1)

pub finish-requires : goal.finish-requires
finish-requires c =
    record {
      sized = (resized _ _ _ (resized _ _ _ c.requires.sized.0 c.fresh.auto.mem) c.write_counts.auto.mem, c.requires.sized.1);
      class = class_passed _ (sym c.is_class.ensures ∙ c.if-is_class.true);
    }

pub returns-then-unmarked : goal.returns-then-unmarked
returns-then-unmarked c =
    let a = c.args in
    let m = mem_of a.g a.mem.now in
    let u = c.unmarked.ensures c.if-unmarked.true in
    let k = class_passed _ (sym c.is_class.ensures ∙ c.if-is_class.true) in
    let is = c.condemned_class-class.ensures _ _ (condemned_read m a.s _ c.read-segment.ensures.0 c.requires.s_value) in
    swept_finished a.g m a.s _ is (sym c.is_class.ensures ∙ c.if-is_class.true) _
    (sum_of c.read-segment.ensures.1 c.read-segment.ensures.2) (omega arith) 0 _ (c.fresh.ensures ∙ unset_fresh a.g m a.s _ k u)
    (unset_ones a.g m a.s _ k u) _ c.write_counts.ensures _ _ c.finish.ensures

pub adopt-kept-requires : goal.adopt-kept-requires
adopt-kept-requires c =
    record {
      sized = c.requires.sized;
      class = class_passed _ (sym c.is_class.ensures ∙ c.if-is_class.true);
    }

pub write_counts-requires-then-is_class : goal.write_counts-requires-then-is_class
write_counts-requires-then-is_class c =
    (resized _ _ _ c.requires.sized.0 c.adopt-kept.auto.mem, c.requires.sized.1)

pub finish-requires-then-is_class : goal.finish-requires-then-is_class
finish-requires-then-is_class c =
    record {
      sized = (resized _ _ _ (resized _ _ _ c.requires.sized.0 c.adopt-kept.auto.mem) c.write_counts-then-is_class.auto.mem, c.requires.sized.1);
      class = class_passed _ (sym c.is_class.ensures ∙ c.if-is_class.true);
    }

pub returns-then-is_class : goal.returns-then-is_class
returns-then-is_class c =
    let a = c.args in
    let m = mem_of a.g a.mem.now in
    let is = c.condemned_class-class.ensures _ _ (condemned_read m a.s _ c.read-segment.ensures.0 c.requires.s_value) in
    swept_finished a.g m a.s _ is (sym c.is_class.ensures ∙ c.if-is_class.true) _
    (sum_of c.read-segment.ensures.1 c.read-segment.ensures.2) (omega arith) _ _ c.adopt-kept.ensures.mem_after c.adopt-kept.ensures.ones _
    c.write_counts-then-is_class.ensures _ _ c.finish-then-is_class.ensures

pub returns : goal.returns
returns c =
    let a = c.args in
    let m = mem_of a.g a.mem.now in
    let is = c.condemned_class-class.ensures _ _ (condemned_read m a.s _ c.read-segment.ensures.0 c.requires.s_value) in
    swept_no_class a.g m a.s _ is (sym c.is_class.ensures ∙ c.if-is_class.false) _
