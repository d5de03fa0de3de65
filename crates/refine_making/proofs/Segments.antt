-- Every segment is in order after a make: the one it took its block from, held or now full, and the others.
use mathlib.Core.Path.{◌≡◌, sym, ◌∙◌, ap, subst}
use mathlib.Core.Logic.{◌⊎◌, inl, inr, ⊎_elim}
use mathlib.Core.List.{List}
use Prim.Native.Nat.{ℕ, suc, ◌≤◌, ◌<◌}
use native.Mathlib.Omega.{arith}
use Rattle.basics.proofs.Order.{same_or_not}
use Rattle.words.specs.Bits.{bit_at}
use Rattle.classes.specs.declared.RecordShape.{RecordShape}
use Rattle.layout.specs.declared.Geometry.{Geometry}
use Rattle.layout.specs.Geometry.{mutator_count, blocks_in}
use Rattle.layout.specs.Mem.{Mem}
use Rattle.model.specs.Fields.{state, holding, tag, class, owner}
use Rattle.classes.specs.Class.{IsClass}
use Rattle.model.specs.Consistent.{SegmentOk, Occupied, TreeOk, CountsOk}
use Rattle.refine_view.specs.Refines.{Ordered, EachOccupied}
use Rattle.model_laws.proofs.Segments.{segment_same, tree_same, counts_by, occupied_by}
use Rattle.refine_making.proofs.Request.{Request}
use Rattle.refine_making.proofs.Result.{StillHeld, NowFull, Result}
use Rattle.refine_making.proofs.Counting.{counts_there}
use Rattle.refine_making.proofs.Standing as standing
use Rattle.model.specs.Tag as Tag

module _ (g : Geometry) (m : Mem) (c : Ordered g m) (m' : Mem) (k d cl r b : ℕ) (shape : RecordShape) (q : Request g m k d cl r b shape) (a : Result g m m' k d cl r b shape) where
  -- ---- another segment

  module _ (x : ℕ) (l : x < g.segments) (f : x ≡ r → ⊥) where
    ok : SegmentOk g m x
    ok = c.segments x l

    held_on : tag m x ≡ Tag.held → holding m' (owner m x) (class m x) ≡ suc x
    held_on e = standing.holding_same g m m' k d cl r b shape q a (owner m x) (class m x) (ok.classes (λ z. omega arith)) other ∙ (ok.held e).2
      where
        other : owner m x ≡ k → class m x ≡ cl → ⊥
        other y z =
            let u : holding m k cl ≡ suc x = ap (λ w. holding m w cl) (sym y) ∙ ap (holding m (owner m x)) (sym z) ∙ (ok.held e).2 in
            let v = q.holds in
            f (omega arith)

    other_ok : SegmentOk g m' x
    other_ok =
        segment_same g m m' x ok (a.others x f) (standing.bitmap_same g m m' k d cl r b shape q a x)
        (λ e. (λ y. (ok.held e).1 (sym (standing.state_same g m m' k d cl r b shape q a (owner m x)) ∙ y), held_on e))

  -- ---- the segment of the block

  class_there : IsClass (class m' r)
  class_there = subst IsClass (sym (standing.class_there g m m' k d cl r b shape q a)) q.is_class

  same_segment : StillHeld g m m' k cl r b ⊎ NowFull g m m' k cl r b → SegmentOk g m' r
  same_segment (inl x) =
      let o = x.recorded in
      let t = o.tag in
      record {
        tags = omega arith;
        free = λ e. absurd (omega arith);
        unowned = λ h. absurd (h t);
        classes = λ h. class_there;
        remains =
            λ u v. (
              x.next,
              subst (λ z. z ≤ x.next) (sym o.place) x.after,
              subst (λ z. x.next < blocks_in g z) (sym o.class) x.below,
              ap (λ (ws : List ℕ). bit_at ws x.next) (standing.bitmap_same g m m' k d cl r b shape q a r) ∙ x.unused,
            );
        full = λ u. absurd (omega arith);
        condemned = λ u. absurd (omega arith);
        held = λ e. (
          subst (λ w. w < mutator_count) (sym o.owner) q.few,
          λ y. q.attached (sym (standing.state_same g m m' k d cl r b shape q a k) ∙ ap (state m') (sym o.owner) ∙ y),
          ap (λ w. holding m' w (class m' r)) o.owner ∙ ap (holding m' k) o.class ∙ x.held,
        );
      }
  same_segment (inr x) =
      let o = x.recorded in
      let t = o.tag in
      record {
        tags = omega arith;
        free = λ e. absurd (omega arith);
        unowned = λ h. o.owner;
        classes = λ h. class_there;
        remains = λ u v. absurd (omega arith);
        full = λ u. o.place ∙ ap (blocks_in g) (sym o.class);
        condemned = λ u. absurd (omega arith);
        held = λ e. absurd (omega arith);
      }

  pub segments_ok : (x : ℕ) → x < g.segments → SegmentOk g m' x
  segments_ok x l = ⊎_elim (λ e. subst (SegmentOk g m') (sym e) (same_segment a.segment)) (other_ok x l) (same_or_not x r)

  pub trees_ok : (x : ℕ) → x < g.segments → TreeOk g m' x
  trees_ok x l = tree_same g m m' x (c.summed.trees x l) free_on (standing.class_same g m m' k d cl r b shape q a x) (standing.bitmap_same g m m' k d cl r b shape q a x)
    where
      free_on : tag m x ≡ Tag.free → tag m' x ≡ Tag.free
      free_on e = (a.others x (λ f. let y : tag m r ≡ Tag.free = ap (tag m) (sym f) ∙ e in let z = q.is_held in omega arith)).tag ∙ e

  pub counts_ok : (x : ℕ) → x < g.segments → CountsOk g m' x
  counts_ok x l =
      ⊎_elim (λ e. subst (CountsOk g m') (sym e) (counts_there g m m' k d cl r b shape q a (c.summed.counts r q.inside)))
      (λ f. counts_by g m m' x (c.summed.counts x l) (a.others x f) (standing.bitmap_same g m m' k d cl r b shape q a x)) (same_or_not x r)

  -- the block handed out is in use, and the other segments are as they were
  pub occupied_ok : ((x : ℕ) → x < g.segments → (x ≡ r → ⊥) → Occupied g m x) → EachOccupied g m'
  occupied_ok u x l = ⊎_elim (λ e. subst (Occupied g m') (sym e) there) (λ f. occupied_by g m m' x (u x l f) (a.others x f) (standing.bitmap_same g m m' k d cl r b shape q a x)) (same_or_not x r)
    where
      there : Occupied g m' r
      there _ _ = (b, subst (λ z. b < blocks_in g z) (sym (standing.class_there g m m' k d cl r b shape q a)) q.below, standing.used_there g m m' k d cl r b shape q a)
