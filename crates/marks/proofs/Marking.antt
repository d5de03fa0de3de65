-- One bit of the marks tested and set, by the word that has it; and the marks as a part of the slice, of which the bits that are 1 are counted.
use mathlib.Core.Path.{◌≡◌, refl, sym, ap, ◌∙◌}
use mathlib.Core.Logic.{◌⊎◌, inl, inr}
use mathlib.Core.List.{List}
use Prim.Native.Nat.{ℕ, ◌+◌, ◌-◌, ◌*◌, ◌/◌, ◌%◌, ◌^◌, ◌≤◌}
use native.Mathlib.Omega.{arith}
use lib.Dec.{eqb}
use lib.ListN.{length, get_or}
use lib.Pow.{pow_pos}
use lib.Seq.{take_all}
use borrow.Author.Tests.{eq-eqb, eqb-true}
use borrow.Rule.Slice.PartMut.{mid_of}
use Rattle.basics.specs.Decides.{Decides}
use Rattle.basics.proofs.Order.{same_or_not}
use Rattle.words.specs.Bits.{bit_of, bit_at, with_bit, set_bit, ones_among}
use Rattle.words.specs.Levels.{words_for}
use Rattle.words.proofs.Word.{bit_lt, zero_of_not_one}
use Rattle.words.proofs.Lists.{bit_split}
use Rattle.layout.specs.declared.Geometry.{Geometry}
use Rattle.layout.specs.Geometry.{Sized, len, from, mark_words, most_blocks}
use Rattle.layout.specs.Mem.{Mem, mem_of, mark_word, set_mark_word}
use Rattle.layout.proofs.Regions.{read_at}
use Rattle.layout.proofs.Sizes.{marks_are}
use Rattle.model_laws.proofs.Lengths.{sizes_of}
use Rattle.marks.specs.Bits.{with_mark}
use Rattle.layout.specs.Region as Region

-- ---- a word whose bit i is set is itself with it, and no other is

module _ (x i : ℕ) where
  same_set : with_bit x i ≡ x → bit_of x i ≡ 1
  unfolding with_bit
  same_set e = go (same_or_not (bit_of x i) 1)
    where
      go : (bit_of x i ≡ 1) ⊎ (bit_of x i ≡ 1 → ⊥) → bit_of x i ≡ 1
      go (inl q) = q
      go (inr f) =
          let z : bit_of x i ≡ 0 = zero_of_not_one _ (bit_lt x i) f in
          let y : (1 - bit_of x i) * 2 ^ i ≡ 1 * 2 ^ i = ap (λ b. (1 - b) * 2 ^ i) z in
          absurd (omega (arith, pow_pos i))

  set_same : bit_of x i ≡ 1 → with_bit x i ≡ x
  unfolding with_bit
  set_same q =
      let y : (1 - bit_of x i) * 2 ^ i ≡ 0 * 2 ^ i = ap (λ b. (1 - b) * 2 ^ i) q in
      omega arith

-- ---- w is the word that has bit k, y what it is with the bit

pub bit_tested : (ws : List ℕ) (k w y : ℕ) → w ≡ get_or ws (k / 32) 0 → y ≡ with_bit w (k % 32) → Decides (eqb y w) (bit_at ws k ≡ 1)
bit_tested ws k w y ew ey = record {
  sound = λ t. bit_is ∙ same_set w (k % 32) (sym ey ∙ eqb-true y w t);
  complete = λ q. eq-eqb y w (ey ∙ set_same w (k % 32) (sym bit_is ∙ q));
}
  where
    bit_is : bit_at ws k ≡ bit_of w (k % 32)
    bit_is = bit_split ws k ∙ ap (λ z. bit_of z (k % 32)) (sym ew)

pub bit_written : (m : Mem) (k w y : ℕ) → w ≡ mark_word m (k / 32) → y ≡ with_bit w (k % 32) → (m' : Mem) → m' ≡ set_mark_word m (k / 32) y → m' ≡ with_mark m k
unfolding with_mark set_bit set_mark_word
bit_written m k w y ew ey m' e = e ∙ rw (ey, ew) refl

-- ---- the marks as a part of the slice

module _ (g : Geometry) (l : List ℕ) (z : Sized g (length l)) (a b most : ℕ) (em : most ≡ len g Region.trace) (ea : a ≡ from g Region.marks + 0 * mark_words g) (eb : b ≡ length l - most) where
  pub part_ends : (b ≡ a + len g Region.marks) × (b ≤ length l) × (most ≤ length l)
  part_ends = let t = z.is in (omega arith, omega arith, omega arith)

  part_is : mid_of a (b - a) l ≡ (mem_of g l).marks
  part_is =
      read_at g l Region.marks 0 (len g Region.marks) a b (omega arith, part_ends.0, omega arith, omega arith)
      ∙ take_all (len g Region.marks) (mem_of g l).marks (let q = (sizes_of g l z).marks in omega arith)

  pub part_room : words_for most ≤ length (mid_of a (b - a) l)
  part_room = rw part_is (let q = (sizes_of g l z).marks in let w = marks_are g g.segments in omega arith)

  pub part_count : (r : ℕ) → r ≡ ones_among (bit_at (mid_of a (b - a) l)) most → r ≡ ones_among (bit_at (mem_of g l).marks) (g.segments * most_blocks g)
  part_count r e = e ∙ ap (λ (y : List ℕ). ones_among (bit_at y) most) part_is ∙ ap (ones_among (bit_at (mem_of g l).marks)) em
