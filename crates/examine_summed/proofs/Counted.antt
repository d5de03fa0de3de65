-- The two counts of a segment, decided: what is in use without a place is what was kept, and what the place adds was handed out since.
use mathlib.Core.Path.{◌≡◌, refl, sym, ◌∙◌, ap, subst}
use mathlib.Core.Bool.{Bool, true, false}
use Prim.Native.Nat.{ℕ, ◌+◌}
use native.Mathlib.Omega.{arith}
use lib.Dec.{eqb}
use borrow.Author.Tests.{le-ltb, eqb-true, eq-eqb}
use Rattle.basics.specs.Decides.{Decides}
use Rattle.basics.proofs.Deciding.{holds, fails, via}
use Rattle.words.specs.Bits.{bit_at, ones_among}
use Rattle.words.proofs.Ones.{among_same, among_sum}
use Rattle.classes.specs.Class.{IsClass}
use Rattle.layout.specs.declared.Geometry.{Geometry}
use Rattle.layout.specs.Geometry.{blocks_in}
use Rattle.layout.specs.Mem.{Mem}
use Rattle.model.specs.Fields.{tag, class, place, kept_count, handed_count}
use Rattle.model.specs.Segments.{bitmap, used_bit, handed_bit}
use Rattle.model.specs.Consistent.{CountsOk}
use Rattle.model.proofs.InUse.{used_sum}
use Rattle.bitmaps.specs.Given.{used_bits}
use Rattle.examine_summed.specs.Counted.{CountedAs}
use Rattle.model.specs.Tag as Tag

-- a test for equality
equal? : (a b : ℕ) → Decides (eqb a b) (a ≡ b)
equal? a b = record { sound = eqb-true a b; complete = eq-eqb a b }

-- ---- of a class c: k and h are the counts, z the blocks in use without a place, u those with it

module _ (g : Geometry) (m : Mem) (s c k z : ℕ) (ek : k ≡ kept_count m s) (ez : z ≡ ones_among (used_bits (bit_at (bitmap g m s)) 0) (blocks_in g c)) where
  abbrev bit : ℕ → ℕ
  bit = bit_at (bitmap g m s)

  ones : z ≡ ones_among bit (blocks_in g c)
  ones = ez ∙ among_same (used_bits bit 0) bit (blocks_in g c) (λ b l. rw (le-ltb b 0 (omega arith)) refl)

  pub kept_wrong : (k ≡ z → ⊥) → Decides false (CountedAs g m s c)
  kept_wrong f = fails (λ o. f (ek ∙ o.0 ∙ sym ones))

  module _ (e : k ≡ z) (h p u : ℕ) (eh : h ≡ handed_count m s) (ep : p ≡ place m s) (eu : u ≡ ones_among (used_bits bit p) (blocks_in g c)) where
    both : u ≡ ones_among bit (blocks_in g c) + ones_among (handed_bit g m s) (blocks_in g c)
    both = eu ∙ ap (λ x. ones_among (used_bits bit x) (blocks_in g c)) ep ∙ among_sum (used_bit g m s) bit (handed_bit g m s) (blocks_in g c) (λ b l. used_sum g m s b)

    pub handed_right : Decides (eqb (h + k) u) (CountedAs g m s c)
    handed_right = via (λ q. (sym ek ∙ e ∙ ones, sym eh ∙ less q)) (λ o. more o.1) (equal? (h + k) u)
      where
        less : h + k ≡ u → h ≡ ones_among (handed_bit g m s) (blocks_in g c)
        less q = let a = both in let b = ones in omega arith

        more : handed_count m s ≡ ones_among (handed_bit g m s) (blocks_in g c) → h + k ≡ u
        more q = let a = both in let b = ones in omega arith

-- ---- of a segment: t is its tag

module _ (g : Geometry) (m : Mem) (s t : ℕ) (et : t ≡ tag m s) where
  module _ (n : t ≡ Tag.free → ⊥) (c : ℕ) (ec : c ≡ class m s) where
    used : tag m s ≡ Tag.free → ⊥
    used e = n (et ∙ e)

    pub counts_classed : IsClass c → (r : Bool) → Decides r (CountedAs g m s c) → Decides r (CountsOk g m s)
    counts_classed i r d = via
        (λ q. let w = subst (CountedAs g m s) ec q in record { free = λ e. absurd (used e); kept = λ _ _. w.0; handed = λ _ _. w.1 })
        (λ o. let k = subst IsClass ec i in subst (CountedAs g m s) (sym ec) (o.kept used k, o.handed used k)) d

    pub counts_unclassed : (IsClass c → ⊥) → Decides true (CountsOk g m s)
    counts_unclassed f =
        let none : IsClass (class m s) → ⊥ = λ k. f (subst IsClass (sym ec) k) in
        holds (record { free = λ e. absurd (used e); kept = λ _ k. absurd (none k); handed = λ _ k. absurd (none k) })
