-- Blocks and the words of their headers: segment, block and bit of a header, and back.
use mathlib.Core.Path.{◌≡◌, sym, ◌∙◌, ap, subst}
use mathlib.Core.Bool.{Bool}
use lib.Dec.{eqb, eqb→eq}
use Prim.Native.Nat.{ℕ, suc, ◌+◌, ◌*◌, ◌/◌, ◌%◌, ◌≤◌, ◌<◌}
use native.Mathlib.Nat.{mod-lt, div-lt_iff_lt-mul, div-add-mod', mul-div_cancel, mul-mod_left, suc-mul, mul-le-mul_right, mul_assoc}
use native.Mathlib.Omega.{arith}
use lib.Arith.{digits_div, digits_mod}
use Rattle.classes.proofs.Filling.{two_words}
use Rattle.layout.specs.declared.Geometry.{Geometry}
use Rattle.layout.specs.Geometry.{segment_words, most_blocks, blocks_in, segment_of, mark_bit}
use Rattle.layout.specs.Mem.{Mem}
use Rattle.layout.proofs.Sizes.{marks_words, whole, words_some}
use Rattle.model.specs.Fields.{class}
use Rattle.model.specs.Records.{block_of, header_of}
use Rattle.model.specs.Consistent.{bit_word}
use Rattle.classes.specs.Class.{IsClass, block_words}
use Rattle.classes.proofs.Every.{at_class}

-- the words of a block are those of some smallest blocks
even_words : ℕ → Bool
even_words c = eqb (block_words c) (block_words c / 2 * 2)

pub even_words_lem : (c : ℕ) → IsClass c → block_words c ≡ block_words c / 2 * 2
unfolding even_words
even_words_lem c k = eqb→eq _ _ (at_class even_words tt c k)

module _ (g : Geometry) (c : ℕ) (k : IsClass c) where
  pub blocks_words : blocks_in g c * block_words c ≡ segment_words g
  blocks_words = (whole g c k).words

  -- a segment's mark bits, as many as the smallest blocks, are shared out among its blocks
  pub blocks_step : blocks_in g c * (block_words c / 2) ≡ most_blocks g
  blocks_step =
      let w = blocks_words in
      let e : blocks_in g c * block_words c ≡ blocks_in g c * (block_words c / 2) * 2 = ap (λ z. blocks_in g c * z) (even_words_lem c k) ∙ sym (mul_assoc (blocks_in g c) (block_words c / 2) 2) in
      let m = marks_words g 1 in
      omega arith

  pub blocks_most : blocks_in g c ≤ most_blocks g
  blocks_most = (whole g c k).most

  pub blocks_some : 1 ≤ blocks_in g c
  blocks_some = (whole g c k).some

  words_pos : 0 < block_words c
  words_pos = let l = two_words c k in omega arith

  -- a word of a segment is of one of its blocks
  pub block_below : (w : ℕ) → w < segment_words g → w / block_words c < blocks_in g c
  block_below w l = (div-lt_iff_lt-mul words_pos).1 (subst (λ z. w < z) (sym blocks_words) l)

  pub block_most : (w : ℕ) → w < segment_words g → w / block_words c < most_blocks g
  block_most w l = let b = block_below w l in let m = blocks_most in omega arith

  -- a block begins in its segment, with all its words
  pub block_within : (b : ℕ) → b < blocks_in g c → b * block_words c + block_words c ≤ segment_words g
  block_within b l =
      let e : suc b * block_words c ≤ blocks_in g c * block_words c = mul-le-mul_right (block_words c) l in
      let f : suc b * block_words c ≡ b * block_words c + block_words c = suc-mul b (block_words c) in
      let h = blocks_words in omega arith

  module _ (s b : ℕ) (l : b < blocks_in g c) where
    below : b * block_words c < segment_words g
    below = let h = block_within b l in let p = words_pos in omega arith

    pub header_segment : segment_of g (header_of g s c b) ≡ s
    header_segment = digits_div s below

    pub header_word : header_of g s c b % segment_words g ≡ b * block_words c
    header_word = digits_mod s below

    pub header_block : (m : Mem) → class m s ≡ c → block_of g m (header_of g s c b) ≡ b
    header_block m e =
        let z : class m (segment_of g (header_of g s c b)) ≡ c = ap (class m) header_segment ∙ e in
        ap (λ z. header_of g s c b % segment_words g / block_words z) z ∙ ap (λ z. z / block_words c) header_word ∙ mul-div_cancel b words_pos

    pub header_aligned : header_of g s c b % segment_words g % block_words c ≡ 0
    header_aligned = ap (λ z. z % block_words c) header_word ∙ mul-mod_left b (block_words c)

    -- by the memory's own class of the segment
    pub header_class : (m : Mem) → class m s ≡ c → class m (segment_of g (header_of g s c b)) ≡ c
    header_class m e = ap (class m) header_segment ∙ e

    pub header_is_class : (m : Mem) → class m s ≡ c → IsClass (class m (segment_of g (header_of g s c b)))
    header_is_class m e = subst IsClass (sym (header_class m e)) k

    pub header_head : (m : Mem) → class m s ≡ c → header_of g s c b % segment_words g % block_words (class m (segment_of g (header_of g s c b))) ≡ 0
    header_head m e = ap (λ z. header_of g s c b % segment_words g % block_words z) (header_class m e) ∙ header_aligned

    -- the block's words are words of the heap
    pub header_inside : s < g.segments → header_of g s c b + block_words c ≤ g.segments * segment_words g
    header_inside h =
        let i = block_within b l in
        let y : suc s * segment_words g ≤ g.segments * segment_words g = mul-le-mul_right (segment_words g) h in
        let x = suc-mul s (segment_words g) in
        omega arith

-- ---- a word at the head of a block of its segment

module _ (g : Geometry) (m : Mem) (at : ℕ) (k : IsClass (class m (segment_of g at))) where
  pub of_block : block_of g m at < blocks_in g (class m (segment_of g at))
  of_block = block_below g (class m (segment_of g at)) k (at % segment_words g) (mod-lt at (words_some g))

  pub bit_below : at < g.segments * segment_words g → mark_bit at < g.segments * most_blocks g
  bit_below l = let e = marks_words g g.segments in omega arith

  pub is_header : at % segment_words g % block_words (class m (segment_of g at)) ≡ 0 → at ≡ header_of g (segment_of g at) (class m (segment_of g at)) (block_of g m at)
  is_header a =
      let e = div-add-mod' (at % segment_words g) (block_words (class m (segment_of g at))) in
      let f = div-add-mod' at (segment_words g) in
      omega arith

  -- the head of a block is the word of its bit
  pub head_word : at % segment_words g % block_words (class m (segment_of g at)) ≡ 0 → bit_word (mark_bit at) ≡ at
  head_word a =
      let h = is_header a in
      let p = marks_words g (segment_of g at) in
      let e = even_words_lem (class m (segment_of g at)) k in
      let q : block_of g m at * block_words (class m (segment_of g at)) ≡ block_of g m at * (block_words (class m (segment_of g at)) / 2) * 2 =
      ap (λ z. block_of g m at * z) e ∙ sym (mul_assoc (block_of g m at) (block_words (class m (segment_of g at)) / 2) 2) in
      omega arith

-- two heads with one bit are one
pub same_bit : (g : Geometry) (m : Mem) (x y : ℕ) → IsClass (class m (segment_of g x)) → IsClass (class m (segment_of g y))
    → x % segment_words g % block_words (class m (segment_of g x)) ≡ 0 → y % segment_words g % block_words (class m (segment_of g y)) ≡ 0
    → mark_bit x ≡ mark_bit y → x ≡ y
same_bit g m x y k l a b e = sym (head_word g m x k a) ∙ ap bit_word e ∙ head_word g m y l b
