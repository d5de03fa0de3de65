-- One segment's record changes: what becomes of the other segments, and which ones are free or part.
use mathlib.Core.Path.{◌≡◌, sym, ◌∙◌, ap, subst}
use mathlib.Core.Logic.{◌⊎◌, inl, inr, ⊎_elim}
use mathlib.Core.Bool.{Bool, true, false, ◌&&◌}
use Prim.Native.Nat.{ℕ, suc, ◌-◌, ◌≤◌, ◌<◌}
use native.Mathlib.Omega.{arith}
use lib.Dec.{eqb, ltb}
use lib.ListN.{get_or-eq_default}
use borrow.Author.Tests.{eq-eqb, ne_eqb}
use Rattle.basics.specs.Pick.{pick}
use Rattle.basics.proofs.Order.{same_or_not, le_or_lt}
use Rattle.words.specs.Bits.{bit_at, ones_among}
use Rattle.words.proofs.Lists.{at_lt}
use Rattle.words.proofs.Ones.{among_le, among_same}
use Rattle.words.specs.Tree.{Tree}
use Rattle.layout.specs.declared.Geometry.{Geometry}
use Rattle.layout.specs.Geometry.{mutator_count, blocks_in}
use Rattle.layout.specs.Mem.{Mem, Sizes}
use Rattle.model.specs.Fields.{absent, state, holding, tag, class, place, owner}
use Rattle.model.specs.Segments.{above, bitmap, used_bit, handed_bit, in_use}
use Rattle.classes.specs.Class.{IsClass}
use Rattle.model.specs.Consistent.{SegmentOk, Occupied, TreeOk, CountsOk, is_free, is_part}
use Rattle.model_laws.proofs.Bools.{and_both}
use Rattle.model_laws.proofs.Words.{Recorded, CountsStay, Untouched, untouched_state}
use Rattle.model.specs.Tag as Tag

-- only a segment of the memory has a tag that is not 0
pub in_range : (g : Geometry) (m : Mem) → Sizes g m → (q : ℕ) → (tag m q ≡ Tag.free → ⊥) → q < g.segments
in_range g m s q f = ⊎_elim (λ l. let z = s.segments in absurd (f (get_or-eq_default m.segments 0 (omega arith)))) (λ l. l) (le_or_lt g.segments q)

pub used_same : (g : Geometry) (m m' : Mem) (q b : ℕ) → place m' q ≡ place m q → bitmap g m' q ≡ bitmap g m q → used_bit g m' q b ≡ used_bit g m q b
used_same g m m' q b p e = ap (λ z. pick (ltb b z) 1 (bit_at (bitmap g m' q) b)) p ∙ ap (λ l. pick (ltb b (place m q)) 1 (bit_at l b)) e

pub used_small : (g : Geometry) (m : Mem) (s b : ℕ) → used_bit g m s b < 2
used_small g m s b = go (ltb b (place m s))
  where
    go : (x : Bool) → pick x 1 (bit_at (bitmap g m s) b) < 2
    go true = omega arith
    go false = at_lt (bitmap g m s) b

-- no more blocks are in use than there are
pub in_use-le : (g : Geometry) (m : Mem) (s : ℕ) → in_use g m s ≤ blocks_in g (class m s)
in_use-le g m s = go (eqb (tag m s) Tag.free)
  where
    go : (x : Bool) → pick x 0 (ones_among (used_bit g m s) (blocks_in g (class m s))) ≤ blocks_in g (class m s)
    go true = omega arith
    go false = among_le (used_bit g m s) (used_small g m s) (blocks_in g (class m s))

-- as many as before, where the record and the bitmap stay
pub in_use-by : (g : Geometry) (m m₁ : Mem) (q : ℕ) → Untouched m m₁ q → bitmap g m₁ q ≡ bitmap g m q → in_use g m₁ q ≡ in_use g m q
in_use-by g m m₁ q x e =
    ap (λ t. pick (eqb t Tag.free) 0 (ones_among (used_bit g m₁ q) (blocks_in g (class m₁ q)))) x.tag
    ∙ ap (λ c. pick (eqb (tag m q) Tag.free) 0 (ones_among (used_bit g m₁ q) (blocks_in g c))) x.class
    ∙ ap (pick (eqb (tag m q) Tag.free) 0) (among_same (used_bit g m₁ q) (used_bit g m q) (blocks_in g (class m q)) (λ b l. used_same g m m₁ q b x.place e))

-- if it was held, its mutator is attached and holds it
abbrev StaysHeld : Mem → Mem → ℕ → Type 0
StaysHeld m m₁ q = tag m q ≡ Tag.held → (state m₁ (owner m q) ≡ absent → ⊥) × (holding m₁ (owner m q) (class m q) ≡ suc q)

-- a segment is in order by its state and its blocks' bits: where these stay it is so as before, once its mutator still holds it
pub segment_by : (g : Geometry) (m m₁ : Mem) (q : ℕ) → SegmentOk g m q → Recorded m₁ q (tag m q) (class m q) (place m q) (owner m q)
    → ((b : ℕ) → (tag m q ≡ Tag.free → ⊥) → b < blocks_in g (class m q) → bit_at (bitmap g m₁ q) b ≡ bit_at (bitmap g m q) b) → StaysHeld m m₁ q → SegmentOk g m₁ q
segment_by g m m₁ q o x e h = record {
  tags = let y = x.tag in let z = o.tags in omega arith;
  free = λ f. let y = o.free (sym x.tag ∙ f) in (x.class ∙ y.0, x.place ∙ y.1, x.owner ∙ y.2);
  unowned = λ f. x.owner ∙ o.unowned (λ y. f (x.tag ∙ y));
  classes = λ f. subst IsClass (sym x.class) (o.classes (λ y. f (x.tag ∙ y)));
  remains = λ a b. let y = x.tag in remain (λ z. omega arith) (o.remains (omega arith) (omega arith));
  full = λ a. x.place ∙ o.full (sym x.tag ∙ a) ∙ ap (blocks_in g) (sym x.class);
  condemned = λ a. subst (λ z. place m₁ q ≤ blocks_in g z) (sym x.class) (subst (λ z. z ≤ blocks_in g (class m q)) (sym x.place) (o.condemned (sym x.tag ∙ a)));
  held = λ f. let y : tag m q ≡ Tag.held = sym x.tag ∙ f in (
    subst (λ z. z < mutator_count) (sym x.owner) (o.held y).0,
    λ z. (h y).0 (ap (state m₁) (sym x.owner) ∙ z),
    ap (λ z. holding m₁ z (class m₁ q)) x.owner ∙ ap (holding m₁ (owner m q)) x.class ∙ (h y).1,
  );
}
  where
    remain : (tag m q ≡ Tag.free → ⊥) → (b : ℕ) × (place m q ≤ b) × (b < blocks_in g (class m q)) × (bit_at (bitmap g m q) b ≡ 0)
        → (b : ℕ) × (place m₁ q ≤ b) × (b < blocks_in g (class m₁ q)) × (bit_at (bitmap g m₁ q) b ≡ 0)
    remain u (b, l, k, z) = (b, subst (λ w. w ≤ b) (sym x.place) l, subst (λ w. b < blocks_in g w) (sym x.class) k, e b u k ∙ z)

-- a segment whose record and bitmap stay is in order as before, once its mutator still holds it
pub segment_same : (g : Geometry) (m m₁ : Mem) (q : ℕ) → SegmentOk g m q → Untouched m m₁ q → bitmap g m₁ q ≡ bitmap g m q → StaysHeld m m₁ q → SegmentOk g m₁ q
segment_same g m m₁ q o x e h = segment_by g m m₁ q o (untouched_state x) (λ b u l. ap (λ w. bit_at w b) e) h

-- a segment whose class and bitmap stay, and that is free if it was, keeps its bitmap's tree
pub tree_same : (g : Geometry) (m m₁ : Mem) (q : ℕ) → TreeOk g m q → (tag m q ≡ Tag.free → tag m₁ q ≡ Tag.free) → class m₁ q ≡ class m q → bitmap g m₁ q ≡ bitmap g m q → TreeOk g m₁ q
tree_same g m m₁ q t u c e f = subst (λ z. Tree (above g z) (blocks_in g z) (bitmap g m₁ q)) (sym c) (subst (Tree (above g (class m q)) (blocks_in g (class m q))) (sym e) (t (λ y. f (u y))))

-- a segment whose class, place, counts and bitmap stay, and that is free exactly if it was, keeps its counts right
pub counts_same : (g : Geometry) (m m₁ : Mem) (q : ℕ) → CountsOk g m q → (tag m₁ q ≡ Tag.free → tag m q ≡ Tag.free) → (tag m q ≡ Tag.free → tag m₁ q ≡ Tag.free)
    → class m₁ q ≡ class m q → place m₁ q ≡ place m q → CountsStay m m₁ q → bitmap g m₁ q ≡ bitmap g m q → CountsOk g m₁ q
counts_same g m m₁ q o back on c p x e = record {
  free = λ f. let y = o.free (back f) in (x.kept ∙ y.0, x.handed ∙ y.1);
  kept = λ f i. x.kept ∙ o.kept (λ z. f (on z)) (subst IsClass c i) ∙ sym (class_as (bit_at (bitmap g m q)) (bit_at (bitmap g m₁ q)) (λ b. ap (λ l. bit_at l b) e));
  handed = λ f i. x.handed ∙ o.handed (λ z. f (on z)) (subst IsClass c i) ∙ sym (class_as (handed_bit g m q) (handed_bit g m₁ q) handed_as);
}
  where
    handed_as : (b : ℕ) → handed_bit g m₁ q b ≡ handed_bit g m q b
    handed_as b = ap (λ z. pick (ltb b z) (1 - bit_at (bitmap g m₁ q) b) 0) p ∙ ap (λ l. pick (ltb b (place m q)) (1 - bit_at l b) 0) e

    class_as : (bit cit : ℕ → ℕ) → ((b : ℕ) → cit b ≡ bit b) → ones_among cit (blocks_in g (class m₁ q)) ≡ ones_among bit (blocks_in g (class m q))
    class_as bit cit same = among_same cit bit (blocks_in g (class m₁ q)) (λ b l. same b) ∙ ap (λ z. ones_among bit (blocks_in g z)) c

-- a segment whose record and bitmap stay keeps its counts right
pub counts_by : (g : Geometry) (m m₁ : Mem) (q : ℕ) → CountsOk g m q → Untouched m m₁ q → bitmap g m₁ q ≡ bitmap g m q → CountsOk g m₁ q
counts_by g m m₁ q o x e = counts_same g m m₁ q o (λ z. sym x.tag ∙ z) (λ z. x.tag ∙ z) x.class x.place x.counts e

-- a segment whose class, place and bitmap stay, and that was part or held if it is, has a block in use as before
pub occupied_same : (g : Geometry) (m m₁ : Mem) (q : ℕ) → Occupied g m q
    → (Tag.part ≤ tag m₁ q → tag m₁ q ≤ Tag.held → (Tag.part ≤ tag m q) × (tag m q ≤ Tag.held)) → class m₁ q ≡ class m q
    → place m₁ q ≡ place m q → bitmap g m₁ q ≡ bitmap g m q → Occupied g m₁ q
occupied_same g m m₁ q o t c p e l h = let y = t l h in let b = o y.0 y.1 in (b.0, subst (λ z. b.0 < blocks_in g z) (sym c) b.1, used_same g m m₁ q b.0 p e ∙ b.2)

-- a segment whose record and bitmap stay has a block in use as before
pub occupied_by : (g : Geometry) (m m₁ : Mem) (q : ℕ) → Occupied g m q → Untouched m m₁ q → bitmap g m₁ q ≡ bitmap g m q → Occupied g m₁ q
occupied_by g m m₁ q o x e = let y = x.tag in occupied_same g m m₁ q o (λ l h. (omega arith, omega arith)) x.class x.place e

-- ---- free and part

pub is_part_lem : (m : Mem) (d r : ℕ) → tag m r ≡ Tag.part → class m r ≡ d → is_part m d r ≡ true
is_part_lem m d r t c = and_both _ _ (eq-eqb _ _ t) (eq-eqb _ _ c)

pub not_free : (m : Mem) (r : ℕ) → (tag m r ≡ Tag.free → ⊥) → is_free m r ≡ false
not_free m r f = ne_eqb _ _ f

pub not_part : (m : Mem) (d r : ℕ) → (tag m r ≡ Tag.part → class m r ≡ d → ⊥) → is_part m d r ≡ false
not_part m d r f = go (same_or_not (tag m r) 1)
  where
    go : (tag m r ≡ Tag.part) ⊎ (tag m r ≡ Tag.part → ⊥) → is_part m d r ≡ false
    go (inl e) = ap (λ z. z && eqb (class m r) d) (eq-eqb _ _ e) ∙ ne_eqb _ _ (f e)
    go (inr n) = ap (λ z. z && eqb (class m r) d) (ne_eqb _ _ n)

pub part_same : (m m' : Mem) (d i : ℕ) → eqb (tag m' i) Tag.part ≡ eqb (tag m i) Tag.part → class m' i ≡ class m i → is_part m' d i ≡ is_part m d i
part_same m m' d i t c = ap (λ z. z && eqb (class m' i) d) t ∙ ap (λ z. eqb (tag m i) Tag.part && eqb z d) c

module _ (m m' : Mem) (r : ℕ) (other : (i : ℕ) → (i ≡ r → ⊥) → Untouched m m' i) where
  pub free_other : (i : ℕ) → (i ≡ r → ⊥) → is_free m' i ≡ is_free m i
  free_other i n = ap (λ z. eqb z 0) (other i n).tag

  pub part_other : (d i : ℕ) → (i ≡ r → ⊥) → is_part m' d i ≡ is_part m d i
  part_other d i n = part_same m m' d i (ap (λ z. eqb z 1) (other i n).tag) (other i n).class

  -- a segment that is not freed, and was not free, leaves the free ones as they were
  pub free_left : (tag m r ≡ Tag.free → ⊥) → (tag m' r ≡ Tag.free → ⊥) → (i : ℕ) → is_free m' i ≡ is_free m i
  free_left f h i = ⊎_elim (λ e. ap (is_free m') e ∙ not_free m' r h ∙ sym (not_free m r f) ∙ sym (ap (is_free m) e)) (free_other i) (same_or_not i r)

  -- a segment that is not made part of a class, and was not, leaves the part ones of the class as they were
  pub part_left : (d : ℕ) → (tag m r ≡ Tag.part → class m r ≡ d → ⊥) → (tag m' r ≡ Tag.part → class m' r ≡ d → ⊥) → (i : ℕ) → is_part m' d i ≡ is_part m d i
  part_left d f h i = ⊎_elim (λ e. ap (is_part m' d) e ∙ not_part m' d r h ∙ sym (not_part m d r f) ∙ sym (ap (is_part m d) e)) (part_other d i) (same_or_not i r)
