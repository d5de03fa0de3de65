-- What consistency says of a segment's blocks in use: its two counts add up to them. By its state: all blocks of a
-- full one; of a part or held one some and not all, so that it has two blocks at least.
use mathlib.Core.Path.{◌≡◌, sym, ◌∙◌, ap, ap₂}
use mathlib.Core.Bool.{Bool, true, false}
use mathlib.Core.Logic.{◌⊎◌, inl, inr, ⊎_elim}
use Prim.Native.Nat.{ℕ, ◌+◌, ◌-◌, ◌≤◌, ◌<◌}
use native.Mathlib.Omega.{arith}
use lib.Dec.{ltb}
use borrow.Author.Tests.{eq-eqb, ne_eqb, lt-ltb, le-ltb}
use Rattle.basics.specs.Pick.{pick}
use Rattle.basics.proofs.Order.{same_or_not}
use Rattle.words.specs.Bits.{bit_at, ones_among}
use Rattle.words.proofs.Lists.{at_lt}
use Rattle.words.proofs.Ones.{among_sum}
use Rattle.classes.specs.Class.{IsClass}
use Rattle.layout.specs.declared.Geometry.{Geometry}
use Rattle.layout.specs.Geometry.{blocks_in}
use Rattle.layout.specs.Mem.{Mem}
use Rattle.model.specs.Fields.{tag, class, place, kept_count, handed_count}
use Rattle.model.specs.Segments.{bitmap, used_bit, handed_bit, in_use}
use Rattle.model.specs.Consistent.{SegmentOk, Occupied, CountsOk}
use Rattle.model.specs.Tag as Tag

module _ (g : Geometry) (m : Mem) (s : ℕ) where
  -- "A block is in use when it lies before the place or its bit is 1."
  pub used_before : (b : ℕ) → b < place m s → used_bit g m s b ≡ 1
  used_before b l = ap (λ (t : Bool). pick t 1 (bit_at (bitmap g m s) b)) (lt-ltb b (place m s) l)

  pub used_after : (b : ℕ) → place m s ≤ b → used_bit g m s b ≡ bit_at (bitmap g m s) b
  used_after b l = ap (λ (t : Bool). pick t 1 (bit_at (bitmap g m s) b)) (le-ltb b (place m s) l)

  -- a block in use was kept or handed out since
  pub used_sum : (b : ℕ) → used_bit g m s b ≡ bit_at (bitmap g m s) b + handed_bit g m s b
  used_sum b = go (ltb b (place m s))
    where
      go : (t : Bool) → pick t 1 (bit_at (bitmap g m s) b) ≡ bit_at (bitmap g m s) b + pick t (1 - bit_at (bitmap g m s) b) 0
      go true = let l = at_lt (bitmap g m s) b in omega arith
      go false = omega arith

  -- request No. 3: the two counts of a segment
  pub counts_in_use : CountsOk g m s → ((tag m s ≡ Tag.free → ⊥) → IsClass (class m s)) → in_use g m s ≡ kept_count m s + handed_count m s
  counts_in_use o k = go (same_or_not (tag m s) Tag.free)
    where
      ones : ℕ
      ones = ones_among (used_bit g m s) (blocks_in g (class m s))

      go : (tag m s ≡ Tag.free) ⊎ (tag m s ≡ Tag.free → ⊥) → in_use g m s ≡ kept_count m s + handed_count m s
      go (inl e) = let z = o.free e in let a = z.0 in let b = z.1 in ap (λ (t : Bool). pick t 0 ones) (eq-eqb (tag m s) Tag.free e) ∙ omega arith
      go (inr f) =
          ap (λ (t : Bool). pick t 0 ones) (ne_eqb (tag m s) Tag.free f)
          ∙ among_sum (used_bit g m s) (bit_at (bitmap g m s)) (handed_bit g m s) (blocks_in g (class m s)) (λ b l. used_sum b)
          ∙ ap₂ (λ (x y : ℕ). x + y) (sym (o.kept f (k f))) (sym (o.handed f (k f)))

  module _ (o : SegmentOk g m s) where
    pub full_used : tag m s ≡ Tag.full → (b : ℕ) → b < blocks_in g (class m s) → used_bit g m s b ≡ 1
    full_used t b l = let e = o.full t in used_before b (omega arith)

    pub some_unused : Tag.part ≤ tag m s → tag m s ≤ Tag.held → (b : ℕ) × (b < blocks_in g (class m s)) × (used_bit g m s b ≡ 0)
    some_unused l h = let b = o.remains l h in (b.0, b.2, used_after b.0 b.1 ∙ b.3)

    pub two_blocks : Occupied g m s → Tag.part ≤ tag m s → tag m s ≤ Tag.held → 2 ≤ blocks_in g (class m s)
    two_blocks u l h = apart (u l h) (some_unused l h)
      where
        apart : (b : ℕ) × (b < blocks_in g (class m s)) × (used_bit g m s b ≡ 1) → (b : ℕ) × (b < blocks_in g (class m s)) × (used_bit g m s b ≡ 0) → 2 ≤ blocks_in g (class m s)
        apart (x, i, e) (y, j, z) = ⊎_elim (λ q. absurd (let w : used_bit g m s x ≡ used_bit g m s y = ap (used_bit g m s) q in omega arith)) (λ q. omega arith) (same_or_not x y)
