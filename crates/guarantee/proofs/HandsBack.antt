-- What a detach hands back: class by class, the segment that the mutator's entry names is one that it holds, and it has two blocks at least.
use mathlib.Core.Path.{◌≡◌, refl, sym, ◌∙◌, ap, subst}
use mathlib.Core.Logic.{◌⊎◌, inl, inr}
use mathlib.Core.Bool.{Bool, true, false}
use mathlib.Core.List.{List, [], ◌∷◌, ◌++◌}
use Prim.Native.Nat.{ℕ, zero, suc, ◌+◌, ◌≤◌, ◌<◌}
use native.Mathlib.Omega.{arith}
use lib.Dec.{leb, eqb}
use lib.ListN.{length, get_or, length-append, get_or-append}
use lib.Seq.{get_or-append-add}
use borrow.Author.Tests.{le-leb, eq-eqb, ne_eqb}
use Rattle.basics.specs.Pick.{pick, one_if}
use Rattle.basics.proofs.Order.{same_or_not}
use Rattle.words.specs.Bits.{ones_among}
use Rattle.classes.specs.Class.{first_class, class_count, IsClass}
use Rattle.classes.specs.Shape.{blocks_of}
use Rattle.layout.specs.declared.Geometry.{Geometry}
use Rattle.layout.specs.Geometry.{large_kib, segment_bytes, mutator_count, blocks_in}
use Rattle.layout.specs.Mem.{Mem, mem_of, set_run, Sizes}
use Rattle.layout.proofs.Regions.{sized}
use Rattle.layout.proofs.Sizes.{large_bytes, small_bytes}
use Rattle.theory.specs.Phases.{in_handshake}
use Rattle.theory.specs.Calls.{c_detach, a_ok, refusal, refuse, unless}
use Rattle.theory.proofs.Refusals.{by_ok}
use Rattle.model.specs.Fields.{phase, holding, class, place, owner}
use Rattle.model.specs.Mutators.{released, detached}
use Rattle.model.specs.Calls.{observe, act, exec}
use Rattle.model.specs.Consistent.{Consistent}
use Rattle.model.proofs.InUse.{two_blocks}
use Rattle.model_laws.proofs.Lengths.{sizes_of}
use Rattle.model_laws.proofs.Words.{Recorded, Untouched, untouched_as, recorded_as}
use Rattle.model_laws.proofs.Releasing.{Gone, Releasing, held_range}
use Rattle.model_laws.proofs.Released.{releasing, releasable}
use Rattle.guarantee.specs.HandsBack.{Shared, named_by, named_in, handed_back, StandsIn, HeldBy, HandsBack, EveryHandsBack}
use Rattle.guarantee.proofs.Refused.{result}
use Rattle.model.specs.Tag as Tag

-- by counting at each size
pub shared_classes : Shared
unfolding ones_among
shared_classes g = go (same_or_not g.kib large_kib)
  where
    among : ℕ → ℕ
    among z = ones_among (λ i. one_if (leb 2 (blocks_of z (first_class + i)))) class_count

    go : (g.kib ≡ large_kib) ⊎ (g.kib ≡ large_kib → ⊥) → among (segment_bytes g) ≡ pick (eqb g.kib large_kib) 12 11
    go (inl e) = ap among (large_bytes g e) ∙ ap (λ b. pick b 12 11) (sym (eq-eqb g.kib large_kib e))
    go (inr f) = ap among (small_bytes g f) ∙ ap (λ b. pick b 12 11) (sym (ne_eqb g.kib large_kib f))

-- ---- places of a list that is put together

-- a place of the whole is one of the first part or of the second
abbrev PlaceIn : List ℕ → List ℕ → ℕ → Type 0
PlaceIn xs ys i =
    ((i < length xs) × (get_or (xs ++ ys) i 0 ≡ get_or xs i 0)) ⊎ ((j : ℕ) × (i ≡ length xs + j) × (j < length ys) × (get_or (xs ++ ys) i 0 ≡ get_or ys j 0))

place_of : (xs ys : List ℕ) (i : ℕ) → i < length (xs ++ ys) → PlaceIn xs ys i
place_of [] ys i l = inr (i, omega arith, l, refl)
place_of (x ∷ xs) ys zero l = inl (omega arith, refl)
place_of (x ∷ xs) ys (suc i) l = go (place_of xs ys i (omega arith))
  where
    go : PlaceIn xs ys i → PlaceIn (x ∷ xs) ys (suc i)
    go (inl h) = let a = h.0 in inl (omega arith, h.1)
    go (inr (j, e, h, q)) = inr (j, omega arith, h, q)

stands_before : (s : ℕ) (xs ys : List ℕ) → StandsIn s xs → StandsIn s (xs ++ ys)
stands_before s xs ys (i, l, e) = let n = length-append xs ys in (i, omega arith, get_or-append xs ys 0 i l ∙ e)

stands_last : (s w : ℕ) (xs : List ℕ) → w ≡ suc s → StandsIn s (xs ++ named_by w)
stands_last s w xs e = subst (λ v. StandsIn s (xs ++ named_by v)) (sym e) (let n = length-append xs (s ∷ []) in (length xs + 0, omega arith, get_or-append-add xs (s ∷ []) 0 0))

-- a word names one segment at most
named_one : (w : ℕ) → length (named_by w) ≤ 1
named_one zero = omega arith
named_one (suc s) = omega arith

named_at : (w j : ℕ) → j < length (named_by w) → w ≡ suc (get_or (named_by w) j 0)
named_at zero j l = absurd (omega arith)
named_at (suc s) zero l = refl
named_at (suc s) (suc j) l = absurd (omega arith)

-- ---- the entry of a mutator, class by class

module _ (g : Geometry) (m : Mem) (s : Sizes g m) (c : Consistent g m) (k : ℕ) (few : k < mutator_count) where
  -- of one of the first n classes, held by the mutator
  abbrev HeldIn : ℕ → ℕ → Type 0
  HeldIn n x = HeldBy g m k x × (class m x < first_class + n)

  names : (n : ℕ) → n < class_count → (x : ℕ) → holding m k (first_class + n) ≡ suc x → HeldBy g m k x × (class m x ≡ first_class + n)
  names n l x e = let h = (c.sound.mutators k few).holds (first_class + n) x (omega arith, omega arith) e in ((h.0, h.1, h.3), h.2)

  class_of : (x : ℕ) → HeldBy g m k x → IsClass (class m x)
  class_of x h = let t = h.1 in (c.sound.segments x h.0).classes (λ e. omega arith)

  -- the word of one class
  abbrev named : ℕ → List ℕ
  named n = named_by (holding m k (first_class + n))

  stands_held : (n : ℕ) → n ≤ class_count → (x : ℕ) → StandsIn x (named_in m k n) → HeldIn n x
  stands_held zero l x (i, h, e) = absurd (omega arith)
  stands_held (suc n) l x (i, h, e) = go (λ q. stands_held n (omega arith) x (q.0, q.1, q.2)) (place_of (named_in m k n) (named n) i h)
    where
      go : (StandsIn x (named_in m k n) → HeldIn n x) → PlaceIn (named_in m k n) (named n) i → HeldIn (suc n) x
      go before (inl q) = let z = before (i, q.0, sym q.1 ∙ e) in let y = z.1 in (z.0, omega arith)
      go before (inr (j, a, b, q)) =
          let z = names n (omega arith) x (named_at (holding m k (first_class + n)) j b ∙ ap suc (sym q ∙ e)) in
          let y = z.1 in (z.0, omega arith)

  held_stands : (n : ℕ) (x : ℕ) → HeldIn n x → StandsIn x (named_in m k n)
  held_stands zero x (h, l) = let z = (class_of x h).0 in absurd (omega arith)
  held_stands (suc n) x (h, l) = go (λ f. held_stands n x (h, omega arith)) (same_or_not (class m x) (first_class + n))
    where
      go : ((class m x ≡ first_class + n → ⊥) → StandsIn x (named_in m k n)) → (class m x ≡ first_class + n) ⊎ (class m x ≡ first_class + n → ⊥)
          → StandsIn x (named_in m k (suc n))
      go before (inl e) =
          let z : holding m k (first_class + n) ≡ suc x =
          ap (λ o. holding m o (first_class + n)) (sym h.2) ∙ ap (holding m (owner m x)) (sym e) ∙ ((c.sound.segments x h.0).held h.1).2 in
          stands_last x (holding m k (first_class + n)) (named_in m k n) z
      go before (inr f) = stands_before x (named_in m k n) (named n) (before f)

  -- ---- few: a held segment has two blocks at least

  abbrev shared : ℕ → ℕ
  shared i = one_if (leb 2 (blocks_in g (first_class + i)))

  shared_one : (n : ℕ) → n < class_count → (x : ℕ) → holding m k (first_class + n) ≡ suc x → shared n ≡ 1
  shared_one n l x e =
      let h = names n l x e in
      let t = h.0.1 in
      let b = two_blocks g m x (c.sound.segments x h.0.0) (c.sound.occupied x h.0.0) (omega arith) (omega arith) in
      ap one_if (le-leb 2 (blocks_in g (first_class + n)) (subst (λ z. 2 ≤ blocks_in g z) h.1 b))

  one_class : (n : ℕ) → n < class_count → length (named n) ≤ shared n
  one_class n l = go (holding m k (first_class + n)) refl
    where
      go : (w : ℕ) → holding m k (first_class + n) ≡ w → length (named_by w) ≤ shared n
      go zero e = omega arith
      go (suc x) e = let z = shared_one n l x e in omega arith

  first_few : (n : ℕ) → n ≤ class_count → length (named_in m k n) ≤ ones_among (λ i. shared i) n
  unfolding ones_among
  first_few zero l = omega arith
  first_few (suc n) l =
      let a = first_few n (omega arith) in
      let b = one_class n (omega arith) in
      let e = length-append (named_in m k n) (named n) in
      omega arith

  -- ---- once: those of two classes are two

  first_once : (n : ℕ) → n ≤ class_count → (i j : ℕ) → i < j → j < length (named_in m k n) → get_or (named_in m k n) i 0 ≡ get_or (named_in m k n) j 0 → ⊥
  first_once zero l i j a b e = omega arith
  first_once (suc n) l i j a b e = go (first_once n (omega arith) i j a) (place_of (named_in m k n) (named n) j b) (place_of (named_in m k n) (named n) i (omega arith))
    where
      go : (j < length (named_in m k n) → get_or (named_in m k n) i 0 ≡ get_or (named_in m k n) j 0 → ⊥) → PlaceIn (named_in m k n) (named n) j → PlaceIn (named_in m k n) (named n) i → ⊥
      go earlier (inl p) (inl q) = earlier p.0 (sym q.1 ∙ e ∙ p.1)
      go earlier (inl p) (inr (o, x, y, z)) = let w = p.0 in omega arith
      go earlier (inr (o, x, y, z)) (inl q) =
          let last = (names n (omega arith) (get_or (named n) o 0) (named_at (holding m k (first_class + n)) o y)).1 in
          let before = (stands_held n (omega arith) (get_or (named n) o 0) (i, q.0, sym q.1 ∙ e ∙ z)).1 in
          omega arith
      go earlier (inr (o, x, y, z)) (inr (o', x', y', z')) = let w = named_one (holding m k (first_class + n)) in omega arith

  -- ---- the memory that a detach leaves

  parted : Releasing g m (released g m k class_count) k class_count
  parted = releasing g m s (releasable g m c) k few class_count (omega arith)

  gone_of : (x : ℕ) → StandsIn x (handed_back m k) → Gone m k class_count x
  gone_of x h = let z = stands_held class_count (omega arith) x h in (z.0.1, z.0.2, z.1)

  stands_gone : (x : ℕ) → HeldBy g m k x → StandsIn x (handed_back m k)
  stands_gone x h = held_stands class_count x (h, (class_of x h).1)

  gone : (x : ℕ) → StandsIn x (handed_back m k) → Recorded (detached g m k) x Tag.part (class m x) (place m x) 0
  unfolding detached set_run
  gone x h = recorded_as (released g m k class_count) (detached g m k) x Tag.part (class m x) (place m x) 0 refl (parted.gone x (gone_of x h))

  stay : (x : ℕ) → (StandsIn x (handed_back m k) → ⊥) → Untouched m (detached g m k) x
  unfolding detached set_run
  stay x f = untouched_as refl (parted.stay x (λ z. f (stands_gone x (held_range g m s (releasable g m c) x z.0, z.0, z.1))))

  hands_back : HandsBack g m (detached g m k) k
  hands_back = record {
    few = first_few class_count (omega arith);
    once = first_once class_count (omega arith);
    exactly = λ x. (λ h. (stands_held class_count (omega arith) x h).0, stands_gone x);
    parts = λ x h. let r = gone x h in (r.tag, r.class, r.place, r.owner);
    others = λ x f. let r = stay x f in (r.tag, r.class, r.place, r.owner);
  }

-- ---- the call

detach_is : (g : Geometry) (m : Mem) (k : ℕ) → (exec g m (c_detach k)).0 ≡ a_ok → (k < mutator_count) × ((exec g m (c_detach k)).1 ≡ detached g m k)
unfolding exec act
detach_is g m k e = go (refusal (observe m) (c_detach k)) refl e
  where
    on : refusal (observe m) (c_detach k) ≡ 0 → (b : Bool) → (unless b 11 m (detached g m k)).0 ≡ a_ok → (k < mutator_count) × ((unless b 11 m (detached g m k)).1 ≡ detached g m k)
    on z true e = result a_ok 11 refl (sym e)
    on z false e = ((by_ok (observe m) k 0 z).0, refl)

    go : (x : ℕ) → refusal (observe m) (c_detach k) ≡ x → (refuse x m (unless (in_handshake (phase m)) 11 m (detached g m k))).0 ≡ a_ok
        → (k < mutator_count) × ((refuse x m (unless (in_handshake (phase m)) 11 m (detached g m k))).1 ≡ detached g m k)
    go zero z e = on z (in_handshake (phase m)) e
    go (suc x) z e = result a_ok (suc x) refl (sym e)

pub every_hands_back : EveryHandsBack
every_hands_back g words after k a =
    let q = a.meets.exact a.sized a.consistent in
    let z = detach_is g (mem_of g words) k (sym q.0) in
    subst (λ x. HandsBack g (mem_of g words) x k) (sym (q.1 ∙ z.1))
    (hands_back g (mem_of g words) (sizes_of g words (sized g (length words) a.sized)) a.consistent k z.0)
