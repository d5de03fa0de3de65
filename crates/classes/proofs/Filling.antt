-- The words of a class's block, and that its blocks fill a segment: computed at a size that every block divides, and so at each multiple of it.
use mathlib.Core.Path.{◌≡◌, sym, ◌∙◌, ap}
use mathlib.Core.Bool.{Bool, ◌&&◌}
use Prim.Native.Nat.{ℕ, ◌*◌, ◌/◌, ◌^◌, ◌≤◌}
use native.Mathlib.Nat.{mul_assoc, mul-div_cancel, mul-le-mul_left, le-div_iff_mul-le, div-mul-le_self, le_trans, one-le-mul}
use native.Mathlib.Omega.{arith}
use lib.Dec.{T, eqb, leb, eqb→eq, leb→le}
use lib.Pow.{pow_mono, pow_pos}
use Rattle.basics.proofs.Table.{and_left, and_right}
use Rattle.classes.specs.Class.{first_class, word_bytes, block_words, IsClass}
use Rattle.classes.specs.Shape.{blocks_of}
use Rattle.classes.proofs.Every.{every_class, at_class}

-- ---- a block has whole words, two or more

in_words : ℕ → Bool
in_words c = eqb (block_words c * word_bytes) (2 ^ c) && leb 2 (block_words c)

module _ (c : ℕ) (k : IsClass c) where
  in_words_lem : T (in_words c)
  unfolding in_words
  in_words_lem = at_class in_words tt c k

  word_bytes_lem : block_words c * word_bytes ≡ 2 ^ c
  unfolding in_words
  word_bytes_lem = eqb→eq _ _ (and_left (eqb (block_words c * word_bytes) (2 ^ c)) _ in_words_lem)

  pub two_words : 2 ≤ block_words c
  unfolding in_words
  two_words = leb→le _ _ (and_right (eqb (block_words c * word_bytes) (2 ^ c)) _ in_words_lem)

-- ---- the blocks of class c in a segment of z bytes

pub record Filled (z c : ℕ) : Type 0 where
  pub words : blocks_of z c * block_words c ≡ z / word_bytes
  pub most : blocks_of z c ≤ blocks_of z first_class
  pub some : 1 ≤ blocks_of z c

-- the test of class c: its block divides u bytes
unfoldable pub divides : ℕ → ℕ → Bool
divides u c = eqb (blocks_of u c * 2 ^ c) u && leb 1 (blocks_of u c)

module _ (u : ℕ) (t : T (every_class (divides u))) (n c : ℕ) (l : 1 ≤ n) (k : IsClass c) where
  tested : (blocks_of u c * 2 ^ c ≡ u) × (1 ≤ blocks_of u c)
  unfolding divides
  tested =
      let r = at_class (divides u) t c k in
      (eqb→eq _ _ (and_left (eqb (blocks_of u c * 2 ^ c) u) _ r), leb→le _ _ (and_right (eqb (blocks_of u c * 2 ^ c) u) _ r))

  bytes : n * u ≡ n * blocks_of u c * 2 ^ c
  bytes = ap (λ z. n * z) (sym tested.0) ∙ sym (mul_assoc n (blocks_of u c) (2 ^ c))

  pub blocks : blocks_of (n * u) c ≡ n * blocks_of u c
  blocks = ap (λ z. z / 2 ^ c) bytes ∙ mul-div_cancel (n * blocks_of u c) (pow_pos c)

  bytes_of_words : n * u ≡ n * blocks_of u c * block_words c * word_bytes
  bytes_of_words = bytes ∙ ap (λ z. n * blocks_of u c * z) (sym (word_bytes_lem c k)) ∙ sym (mul_assoc (n * blocks_of u c) (block_words c) word_bytes)

  pub filled : Filled (n * u) c
  filled = record {
    words = ap (λ z. z * block_words c) blocks ∙ (let e = bytes_of_words in omega arith);
    most = (le-div_iff_mul-le (pow_pos first_class)).1 (le_trans (mul-le-mul_left (blocks_of (n * u) c) (pow_mono k.0)) (div-mul-le_self (n * u) (2 ^ c)));
    some = rw blocks (one-le-mul l tested.1);
  }
