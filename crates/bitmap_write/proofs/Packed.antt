-- Laws of bits packed into words, and of the bits above a level's words.
use mathlib.Core.Path.{◌≡◌, refl, sym, ap, ◌∙◌}
use mathlib.Core.Bool.{Bool, true, false}
use mathlib.Core.Logic.{◌⊎◌, inl, inr}
use mathlib.Core.List.{List}
use Prim.Native.Nat.{ℕ, zero, suc, ◌+◌, ◌-◌, ◌*◌, ◌/◌, ◌%◌, ◌^◌, ◌≤◌, ◌<◌}
use native.Mathlib.Nat.{pow-suc, not-suc-le-zero}
use native.Mathlib.Omega.{arith}
use lib.Dec.{ltb, eqb}
use lib.ListN.{length, get_or}
use lib.Pow.{pow_pos}
use borrow.Author.Tests.{lt-ltb, le-ltb, eq-eqb, eqb-true, ltb-true}
use Rattle.basics.specs.Pick.{pick}
use Rattle.basics.proofs.Order.{le_or_lt}
use Rattle.words.specs.Bits.{bit_of, bit_at}
use Rattle.words.specs.Tree.{all_ones}
use Rattle.words.proofs.Word.{bit_low, bit_half}
use Rattle.words.proofs.Lists.{bit_split}
use Rattle.bitmap_write.specs.Rebuild.{word_from, packed, full_bit}

-- ---- the bits above a level's words

pub full_in : (ws : List ℕ) (m k : ℕ) → k < m → get_or ws k 0 ≡ all_ones → full_bit ws m k ≡ 1
unfolding full_bit
full_in ws m k h e = simp (lt-ltb k m h, eq-eqb (get_or ws k 0) all_ones e)

pub full_not : (ws : List ℕ) (m k : ℕ) → k < m → eqb (get_or ws k 0) all_ones ≡ false → full_bit ws m k ≡ 0
unfolding full_bit
full_not ws m k h e = simp (lt-ltb k m h, e)

pub full_past : (ws : List ℕ) (m k : ℕ) → m ≤ k → full_bit ws m k ≡ 1
unfolding full_bit
full_past ws m k h = simp (le-ltb k m h)

pub full_only : (ws : List ℕ) (m k : ℕ) → k < m → full_bit ws m k ≡ 1 → get_or ws k 0 ≡ all_ones
full_only ws m k h e = go (eqb (get_or ws k 0) all_ones) refl
  where
    go : (t : Bool) → eqb (get_or ws k 0) all_ones ≡ t → get_or ws k 0 ≡ all_ones
    go true q = eqb-true (get_or ws k 0) all_ones q
    go false q = absurd (omega (arith, full_not ws m k h q))

pub full_lt : (ws : List ℕ) (m k : ℕ) → full_bit ws m k < 2
unfolding full_bit
full_lt ws m k = go (ltb k m) (eqb (get_or ws k 0) all_ones)
  where
    go : (t u : Bool) → pick t (pick u 1 0) 1 < 2
    go true true = omega arith
    go true false = omega arith
    go false u = omega arith

-- the bits above depend on the first m words alone
pub full_same : (ws vs : List ℕ) (m k : ℕ) → ((i : ℕ) → i < m → get_or ws i 0 ≡ get_or vs i 0) → full_bit ws m k ≡ full_bit vs m k
unfolding full_bit
full_same ws vs m k f = go (ltb k m) refl
  where
    go : (t : Bool) → ltb k m ≡ t → ◌≡◌ {A = ℕ} (pick t (pick (eqb (get_or ws k 0) all_ones) 1 0) 1) (pick t (pick (eqb (get_or vs k 0) all_ones) 1 0) 1)
    go true q = rw (f k (ltb-true k m q))
    go false q = refl

-- ---- the words passed one by one

-- below both ends a bit is the same
pub full_both : (ws : List ℕ) (m n k : ℕ) → k < m → k < n → full_bit ws m k ≡ full_bit ws n k
unfolding full_bit
full_both ws m n k h l = simp (lt-ltb k m h, lt-ltb k n l)

-- ---- a word of bits

module _ (bit : ℕ → ℕ) where
  module _ (small : (k : ℕ) → bit k < 2) where
    pub word_lt : (c k : ℕ) → word_from bit c k < 2 ^ c
    unfolding word_from
    word_lt zero k = omega arith
    word_lt (suc c) k = omega (arith, pow-suc 2 c, word_lt c (suc k), small k)

    pub word_bit : (c k i : ℕ) → i < c → bit_of (word_from bit c k) i ≡ bit (k + i)
    unfolding word_from
    word_bit zero k i h = absurd (not-suc-le-zero h)
    word_bit (suc c) k zero h =
        let e : k + 0 ≡ k = omega arith in
        rw e (bit_low (word_from bit c (suc k) * 2 + bit k) ∙ omega (arith, small k))
    word_bit (suc c) k (suc i) h =
        let q : (word_from bit c (suc k) * 2 + bit k) / 2 ≡ word_from bit c (suc k) = omega (arith, small k) in
        let e : k + suc i ≡ suc k + i = omega arith in
        bit_half (word_from bit c (suc k) * 2 + bit k) i ∙ ap (λ (x : ℕ). bit_of x i) q ∙ word_bit c (suc k) i (omega arith) ∙ ap bit (sym e)

  pub length-packed : (c j : ℕ) → length (packed bit c j) ≡ c
  unfolding packed
  length-packed zero j = refl
  length-packed (suc c) j = ap suc (length-packed c (suc j))

  pub packed_at : (c j i : ℕ) → i < c → get_or (packed bit c j) i 0 ≡ word_from bit 32 ((j + i) * 32)
  unfolding packed
  packed_at zero j i h = absurd (not-suc-le-zero h)
  packed_at (suc c) j zero h = ap (λ (x : ℕ). word_from bit 32 x) (omega arith)
  packed_at (suc c) j (suc i) h = packed_at c (suc j) i (omega arith) ∙ ap (λ (x : ℕ). word_from bit 32 x) (omega arith)

  pub packed_bit : ((k : ℕ) → bit k < 2) → (c k : ℕ) → k < c * 32 → bit_at (packed bit c 0) k ≡ bit k
  packed_bit small c k h =
      let e : (0 + k / 32) * 32 + k % 32 ≡ k = omega arith in
      bit_split (packed bit c 0) k
      ∙ ap (λ (x : ℕ). bit_of x (k % 32)) (packed_at c 0 (k / 32) (omega arith))
      ∙ word_bit small 32 ((0 + k / 32) * 32) (k % 32) (omega arith)
      ∙ ap bit e

-- words of bits that are alike are alike
pub word_alike : (bit cit : ℕ → ℕ) (c k : ℕ) → ((i : ℕ) → k ≤ i → i < k + c → bit i ≡ cit i) → word_from bit c k ≡ word_from cit c k
unfolding word_from
word_alike bit cit zero k f = refl
word_alike bit cit (suc c) k f = rw (word_alike bit cit c (suc k) (λ i l h. f i (omega arith) (omega arith)), f k (omega arith) (omega arith))

pub word_same : (bit cit : ℕ → ℕ) → ((k : ℕ) → bit k ≡ cit k) → (c k : ℕ) → word_from bit c k ≡ word_from cit c k
word_same bit cit f c k = word_alike bit cit c k (λ i l h. f i)

-- a word of zeros, one of ones, and one whose bits from m on are 1
module _ (bit : ℕ → ℕ) where
  pub word_zeros : (c k : ℕ) → ((i : ℕ) → i < k + c → bit i ≡ 0) → word_from bit c k ≡ 0
  unfolding word_from
  word_zeros zero k f = refl
  word_zeros (suc c) k f = rw (word_zeros c (suc k) (λ i h. f i (omega arith)), f k (omega arith)) (omega arith)

  pub word_ones : (c k : ℕ) → ((i : ℕ) → k ≤ i → bit i ≡ 1) → word_from bit c k ≡ 2 ^ c - 1
  unfolding word_from
  word_ones zero k f = omega arith
  word_ones (suc c) k f = rw (word_ones c (suc k) (λ i l. f i (omega arith)), f k (omega arith)) (omega (arith, pow-suc 2 c, pow_pos c))

  pub word_tail : (c k m : ℕ) → k ≤ m → m ≤ k + c → ((i : ℕ) → i < m → bit i ≡ 0) → ((i : ℕ) → m ≤ i → bit i ≡ 1) → word_from bit c k ≡ 2 ^ c - 2 ^ (m - k)
  unfolding word_from
  word_tail zero k m l h f g = let e : m - k ≡ 0 = omega arith in rw e (omega arith)
  word_tail (suc c) k m l h f g = go (le_or_lt m k) (λ q. word_tail c (suc k) m q (omega arith) f g)
    where
      go : (m ≤ k) ⊎ (k < m) → (k < m → word_from bit c (suc k) ≡ 2 ^ c - 2 ^ (m - suc k)) → word_from bit c (suc k) * 2 + bit k ≡ 2 ^ suc c - 2 ^ (m - k)
      go (inl q) ih =
          let e : m - k ≡ 0 = omega arith in
          rw e (word_ones (suc c) k (λ i p. g i (omega arith)) ∙ omega arith)
      go (inr q) ih =
          let e : m - k ≡ suc (m - suc k) = omega arith in
          rw (e, ih q, f k q) (omega (arith, pow-suc 2 c, pow-suc 2 (m - suc k)))

-- one bit less
pub word_less : (bit cit : ℕ → ℕ) (p c k : ℕ) → bit p ≡ 1 → cit p ≡ 0 → ((i : ℕ) → (i ≡ p → ⊥) → bit i ≡ cit i) → k ≤ p → p < k + c → word_from bit c k ≡ word_from cit c k + 2 ^ (p - k)
unfolding word_from
word_less bit cit p zero k e f g l h = absurd (omega arith)
word_less bit cit p (suc c) k e f g l h = go (le_or_lt p k) (λ q. word_less bit cit p c (suc k) e f g q (omega arith))
  where
    go : (p ≤ k) ⊎ (k < p) → (k < p → word_from bit c (suc k) ≡ word_from cit c (suc k) + 2 ^ (p - suc k)) → word_from bit c (suc k) * 2 + bit k ≡ word_from cit c (suc k) * 2 + cit k + 2 ^ (p - k)
    go (inl q) ih =
        let s : p ≡ k = omega arith in
        let z : p - k ≡ 0 = omega arith in
        let a : bit k ≡ 1 = ap bit (sym s) ∙ e in
        let b : cit k ≡ 0 = ap cit (sym s) ∙ f in
        rw (word_alike bit cit c (suc k) (λ i m n. g i (λ t. omega arith)), a, b, z) (omega arith)
    go (inr q) ih =
        let z : p - k ≡ suc (p - suc k) = omega arith in
        rw (ih q, g k (λ t. omega arith), z) (omega (arith, pow-suc 2 (p - suc k)))

pub packed_same : (bit cit : ℕ → ℕ) → ((k : ℕ) → bit k ≡ cit k) → (c j : ℕ) → packed bit c j ≡ packed cit c j
unfolding packed
packed_same bit cit f zero j = refl
packed_same bit cit f (suc c) j = rw (word_same bit cit f 32 (j * 32), packed_same bit cit f c (suc j))
