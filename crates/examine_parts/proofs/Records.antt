-- A segment's record, one return at a time: what its tag asks of its other words and of its bits.
use mathlib.Core.Path.{◌≡◌, sym, ◌∙◌, ap, subst}
use mathlib.Core.Bool.{Bool, false, not}
use mathlib.Core.Logic.{◌⊎◌, inl, inr}
use Prim.Native.Nat.{ℕ, ◌+◌, ◌≤◌, ◌<◌}
use native.Mathlib.Omega.{arith}
use lib.Dec.{eqb}
use borrow.Author.Tests.{lt-ltb, le-ltb}
use Rattle.basics.specs.Decides.{Decides}
use Rattle.basics.specs.Pick.{pick}
use Rattle.basics.proofs.Deciding.{fails, via}
use Rattle.basics.proofs.Order.{le_or_lt}
use Rattle.words.specs.Bits.{bit_at, ones_among}
use Rattle.words.proofs.Counts.{zero_less, one_missing, one_there, none_one}
use Rattle.classes.specs.Class.{IsClass, first_class, class_count}
use Rattle.layout.specs.declared.Geometry.{Geometry}
use Rattle.layout.specs.Geometry.{blocks_in}
use Rattle.layout.specs.Mem.{Mem}
use Rattle.model.specs.Fields.{tag, class, place}
use Rattle.model.specs.Segments.{bitmap, used_bit}
use Rattle.model.specs.Consistent.{SegmentOk, Occupied}
use Rattle.model_laws.proofs.Segments.{used_small}
use Rattle.bitmaps.specs.Given.{used_bits}
use Rattle.examine_parts.specs.Parts.{Open, Owned, Used, SegmentParts}
use Rattle.examine_parts.proofs.Tests.{ne_decides}
use Rattle.model.specs.Tag as Tag

-- ---- a free block and one in use; u blocks of n are in use

module _ (g : Geometry) (m : Mem) (s c p u n : ℕ) (x : p ≡ place m s) (y : u ≡ ones_among (used_bits (bit_at (bitmap g m s)) p) (blocks_in g c)) (z : n ≡ blocks_in g c) where
  among : u ≡ ones_among (used_bit g m s) (blocks_in g c)
  among = y ∙ ap (λ v. ones_among (used_bits (bit_at (bitmap g m s)) v) (blocks_in g c)) x

  -- a free block lies at or after the place, and its bit is 0
  free_bit : (b : ℕ) → used_bit g m s b ≡ 0 → (place m s ≤ b) × (bit_at (bitmap g m s) b ≡ 0)
  free_bit b e = go (le_or_lt (place m s) b)
    where
      go : (place m s ≤ b) ⊎ (b < place m s) → (place m s ≤ b) × (bit_at (bitmap g m s) b ≡ 0)
      go (inl l) = (l, sym (ap (λ t. pick t 1 (bit_at (bitmap g m s) b)) (le-ltb b (place m s) l)) ∙ e)
      go (inr l) = let q : ◌≡◌ {A = ℕ} 1 0 = sym (ap (λ t. pick t 1 (bit_at (bitmap g m s) b)) (lt-ltb b (place m s) l)) ∙ e in absurd (omega arith)

  bit_free : (b : ℕ) → place m s ≤ b → bit_at (bitmap g m s) b ≡ 0 → used_bit g m s b ≡ 0
  bit_free b l e = ap (λ t. pick t 1 (bit_at (bitmap g m s) b)) (le-ltb b (place m s) l) ∙ e

  pub open_none : u ≡ 0 → Decides false (Open g m s c)
  open_none e = fails (λ q. let o = q.occupied in let w = none_one (used_bit g m s) (blocks_in g c) (sym among ∙ e) o.0 o.1 in let v = o.2 in omega arith)

  pub open_some : (u ≡ 0 → ⊥) → Decides (not (eqb u n)) (Open g m s c)
  open_some f = via to from (ne_decides u n)
    where
      to : (u ≡ n → ⊥) → Open g m s c
      to h =
          let r = one_missing (used_bit g m s) (used_small g m s) (blocks_in g c) (λ e. h (among ∙ e ∙ sym z)) in
          let w = free_bit r.0 r.2 in
          record { remains = (r.0, w.0, r.1, w.1); occupied = one_there (used_bit g m s) (used_small g m s) (blocks_in g c) (λ e. f (among ∙ e)) }

      from : Open g m s c → u ≡ n → ⊥
      from q e =
          let r = q.remains in
          let w = zero_less (used_bit g m s) (used_small g m s) (blocks_in g c) r.0 r.2 (bit_free r.0 r.1 r.3) in
          let a = among in
          omega arith

-- ---- a segment; t is its tag

module _ (g : Geometry) (m : Mem) (s t : ℕ) (x : t ≡ tag m s) where
  module _ (used : t ≡ Tag.free → ⊥) (c : ℕ) (y : c ≡ class m s) where
    pub segment_unclassed : (IsClass c → ⊥) → Decides false (SegmentParts g m s)
    segment_unclassed f = fails (λ q. f (subst IsClass (sym y) (q.0.classes (λ e. used (x ∙ e)))))

    pub segment_used : t ≤ Tag.condemned → first_class ≤ c → c < first_class + class_count → (r : Bool) → Decides r (Used g m s t c) → Decides r (SegmentParts g m s)
    segment_used l a b r d = via (λ q. (ok q, occ q)) from d
      where
        at : (P : ℕ → Type 0) → P c → P (class m s)
        at P = subst P y

        back : (P : ℕ → Type 0) → P (class m s) → P c
        back P = subst P (sym y)

        ok : Used g m s t c → SegmentOk g m s
        ok q = record {
          tags = omega arith;
          free = λ e. absurd (used (x ∙ e));
          unowned = λ f. q.unowned (λ e. f (sym x ∙ e));
          classes = λ _. (omega arith, omega arith);
          remains = λ i j. at (λ v. (b : ℕ) × (place m s ≤ b) × (b < blocks_in g v) × (bit_at (bitmap g m s) b ≡ 0)) (q.opened (omega arith)).remains;
          full = λ e. at (λ v. place m s ≡ blocks_in g v) (q.filled (x ∙ e));
          condemned = λ e. at (λ v. place m s ≤ blocks_in g v) (q.within (omega arith));
          held = λ e. at (λ v. Owned m s v) (q.held (x ∙ e));
        }

        occ : Used g m s t c → Occupied g m s
        occ q i j = at (λ v. (b : ℕ) × (b < blocks_in g v) × (used_bit g m s b ≡ 1)) (q.opened (omega arith)).occupied

        part_or : (t ≤ Tag.held) → (Tag.part ≤ tag m s) × (tag m s ≤ Tag.held)
        part_or h = (omega arith, omega arith)

        from : SegmentParts g m s → Used g m s t c
        from q = record {
          held = λ e. back (λ v. Owned m s v) (q.0.held (sym x ∙ e));
          unowned = λ f. q.0.unowned (λ e. f (x ∙ e));
          opened = λ h. record {
            remains = back (λ v. (b : ℕ) × (place m s ≤ b) × (b < blocks_in g v) × (bit_at (bitmap g m s) b ≡ 0)) (q.0.remains (part_or h).0 (part_or h).1);
            occupied = back (λ v. (b : ℕ) × (b < blocks_in g v) × (used_bit g m s b ≡ 1)) (q.1 (part_or h).0 (part_or h).1);
          };
          filled = λ e. back (λ v. place m s ≡ blocks_in g v) (q.0.full (sym x ∙ e));
          within = λ h. back (λ v. place m s ≤ blocks_in g v) (q.0.condemned (omega arith));
        }
