-- Which segments a start condemns: the full ones, and by request No. 5 the part ones. Such a segment is in order as a condemned one too, with its
-- class and its place as they are.
use mathlib.Core.Path.{◌≡◌, refl, sym, ◌∙◌, subst}
use mathlib.Core.Bool.{Bool, true, false, ◌||◌}
use mathlib.Core.Logic.{◌⊎◌, inl, inr}
use Prim.Native.Nat.{ℕ, ◌≤◌, ◌<◌}
use native.Mathlib.Omega.{arith}
use lib.Dec.{eqb}
use borrow.Author.Tests.{eqb-true, eq-eqb, ne_eqb}
use Rattle.words.specs.Bits.{bit_at}
use Rattle.classes.specs.Class.{IsClass}
use Rattle.layout.specs.declared.Geometry.{Geometry}
use Rattle.layout.specs.Geometry.{blocks_in}
use Rattle.layout.specs.Mem.{Mem}
use Rattle.model.specs.Fields.{tag, class, place, owner}
use Rattle.model.specs.Segments.{bitmap}
use Rattle.model.specs.Collector.{full_or_part, collects}
use Rattle.model.specs.Consistent.{SegmentOk}
use Rattle.model.specs.Tag as Tag

pub collects_is : (m : Mem) (s : ℕ) → collects m s ≡ full_or_part m s
unfolding collects
collects_is m s = refl

module _ (m : Mem) (s : ℕ) where
  -- by the tag, both ways
  pub collected_tag : collects m s ≡ true → (tag m s ≡ Tag.full) ⊎ (tag m s ≡ Tag.part)
  collected_tag e = go (eqb (tag m s) Tag.full) refl (sym (collects_is m s) ∙ e)
    where
      go : (b : Bool) → eqb (tag m s) Tag.full ≡ b → (b || eqb (tag m s) Tag.part) ≡ true → (tag m s ≡ Tag.full) ⊎ (tag m s ≡ Tag.part)
      go true f _ = inl (eqb-true _ _ f)
      go false _ p = inr (eqb-true _ _ p)

  pub collected_used : collects m s ≡ true → tag m s ≡ Tag.free → ⊥
  collected_used e f = go (collected_tag e)
    where
      go : (tag m s ≡ Tag.full) ⊎ (tag m s ≡ Tag.part) → ⊥
      go (inl a) = omega arith
      go (inr a) = omega arith

  pub full_collected : tag m s ≡ Tag.full → collects m s ≡ true
  full_collected e = collects_is m s ∙ rw (eq-eqb _ _ e) refl

  pub unless_full : (tag m s ≡ Tag.full → ⊥) → collects m s ≡ eqb (tag m s) Tag.part
  unless_full f = collects_is m s ∙ rw (ne_eqb _ _ f) refl

  pub part_collected : tag m s ≡ Tag.part → collects m s ≡ true
  part_collected e = unless_full (λ f. omega arith) ∙ eq-eqb _ _ e

  pub other_spared : (tag m s ≡ Tag.full → ⊥) → (tag m s ≡ Tag.part → ⊥) → collects m s ≡ false
  other_spared f p = unless_full f ∙ ne_eqb _ _ p

-- the place of a full segment is its number of blocks, and that of a part one lies at or before a free block
module _ (g : Geometry) (m m' : Mem) (s : ℕ) (o : SegmentOk g m s) (e : collects m s ≡ true) where
  place_within : (tag m s ≡ Tag.full) ⊎ (tag m s ≡ Tag.part) → place m s ≤ blocks_in g (class m s)
  place_within (inl f) = let q = o.full f in omega arith
  place_within (inr p) = before (o.remains (omega arith) (omega arith))
    where
      before : (b : ℕ) × (place m s ≤ b) × (b < blocks_in g (class m s)) × (bit_at (bitmap g m s) b ≡ 0) → place m s ≤ blocks_in g (class m s)
      before (b, l, h, _) = omega arith

  pub condemned_ok : tag m' s ≡ Tag.condemned → class m' s ≡ class m s → place m' s ≡ place m s → owner m' s ≡ owner m s → SegmentOk g m' s
  condemned_ok t c p k = go (collected_tag m s e)
    where
      go : (tag m s ≡ Tag.full) ⊎ (tag m s ≡ Tag.part) → SegmentOk g m' s
      go q = record {
        tags = omega arith;
        free = λ a. absurd (omega arith);
        unowned = λ _. k ∙ o.unowned (not_held q);
        classes = λ _. subst IsClass (sym c) (o.classes (not_free q));
        remains = λ a b. absurd (omega arith);
        full = λ a. absurd (omega arith);
        condemned = λ _. subst (λ x. place m' s ≤ blocks_in g x) (sym c) (subst (λ x. x ≤ blocks_in g (class m s)) (sym p) (place_within q));
        held = λ a. absurd (omega arith);
      }
        where
          not_held : (tag m s ≡ Tag.full) ⊎ (tag m s ≡ Tag.part) → tag m s ≡ Tag.held → ⊥
          not_held (inl f) a = omega arith
          not_held (inr f) a = omega arith

          not_free : (tag m s ≡ Tag.full) ⊎ (tag m s ≡ Tag.part) → tag m s ≡ Tag.free → ⊥
          not_free (inl f) a = omega arith
          not_free (inr f) a = omega arith
