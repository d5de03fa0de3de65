-- Every step-th bit of some words side by side: a word of them bit by bit, and the words one after the other at the head of the same list.
use mathlib.Core.Path.{◌≡◌, refl, sym, ap, ap₂, ◌∙◌}
use mathlib.Core.Logic.{◌⊎◌, inl, inr}
use mathlib.Core.Bool.{Bool, true, false}
use mathlib.Core.List.{List, ◌++◌}
use Prim.Native.Nat.{ℕ, zero, suc, ◌+◌, ◌-◌, ◌*◌, ◌/◌, ◌^◌, ◌≤◌, ◌<◌, min}
use native.Mathlib.Nat.{pow-suc, zero-add, suc-mul, mul-le-mul_right, mul-le-mul_left}
use native.Mathlib.Numerals.{add-one}
use native.Mathlib.Omega.{arith}
use lib.Dec.{ltb}
use lib.ListN.{length, get_or, set, take, drop, length-drop}
use lib.Seq.{take_all, get_or-drop, length-take-le, get_or-append-add, paste, paste-suc}
use borrow.Author.Tests.{lt-ltb, le-ltb}
use Rattle.basics.specs.Pick.{pick}
use Rattle.basics.proofs.Order.{le_or_lt}
use Rattle.words.specs.Bits.{bit_at}
use Rattle.words.specs.Levels.{words_for}
use Rattle.words.proofs.Lists.{at_lt, bits_same}
use Rattle.words.proofs.Word.{zero_of_not_one}
use Rattle.bitmap_write.specs.Rebuild.{word_from}
use Rattle.bitmap_write.specs.Completed.{copied, gathered_bit, gathered}
use Rattle.bitmap_write.proofs.Packed.{length-packed, packed_at, word_alike, word_same, word_zeros, word_less}
use Rattle.bitmap_write.proofs.Copied.{length-copied}

-- the bits that are read are there
pub bit_inside : (t n step room : ℕ) → t < n → 1 ≤ step → n * step ≤ room → t * step < room
bit_inside t n step room l p h = let a : suc t * step ≤ n * step = mul-le-mul_right step l in let b = suc-mul t step in omega arith

pub count_small : (n step : ℕ) → 1 ≤ step → n * step ≤ 2 ^ 20 → n ≤ 2 ^ 20
count_small n step p h = let a : n * 1 ≤ n * step = mul-le-mul_left n p in omega arith

pub tail_all : (from : ℕ) (s : List ℕ) → take (length s - from) (drop from s) ≡ drop from s
tail_all from s = take_all (length s - from) (drop from s) (omega (arith, length-drop from s))

-- how many bits word j of n has: those that are left, or a whole word's
abbrev pub IsCount : ℕ → ℕ → ℕ → Type 0
IsCount n j count = (count ≤ 32) × (j * 32 + count ≤ n) × ((j * 32 + count ≡ n) ⊎ (j * 32 + 32 ≤ j * 32 + count))

pub few : (n j count : ℕ) → j * 32 ≤ n → n - j * 32 < 32 → count ≡ n - j * 32 → IsCount n j count
few n j count h l e = (omega arith, omega arith, inl (omega arith))

pub whole : (n j count : ℕ) → 32 ≤ n - j * 32 → count ≡ 32 → IsCount n j count
whole n j count l e = (omega arith, omega arith, inr (omega arith))

pub is_count : (n j count : ℕ) → j * 32 ≤ n → count ≡ min (n - j * 32) 32 → IsCount n j count
is_count n j count h e = go (le_or_lt 32 (n - j * 32))
  where
    go : (32 ≤ n - j * 32) ⊎ (n - j * 32 < 32) → IsCount n j count
    go (inl l) = (omega arith, omega arith, inr (omega arith))
    go (inr l) = (omega arith, omega arith, inl (omega arith))

-- a word of c bits
word_lt : (bit : ℕ → ℕ) → ((k : ℕ) → bit k < 2) → (c k : ℕ) → word_from bit c k < 2 ^ c
unfolding word_from
word_lt bit l zero k = omega arith
word_lt bit l (suc c) k = let h = word_lt bit l c (suc k) in let b = l k in let e = pow-suc 2 c in omega arith

past : (i t : ℕ) → t ≤ i → (i ≡ t → ⊥) → t + 1 ≤ i
past i t l q = go (le_or_lt (t + 1) i)
  where
    go : (t + 1 ≤ i) ⊎ (i < t + 1) → t + 1 ≤ i
    go (inl h) = h
    go (inr h) = absurd (q (omega arith))

-- ---- the bits

module _ (ws : List ℕ) (step : ℕ) where
  pub gathered_in : (n b : ℕ) → b < n → gathered_bit ws step n b ≡ bit_at ws (b * step)
  unfolding gathered_bit
  gathered_in n b l = rw (lt-ltb b n l) refl

  gathered_past : (n b : ℕ) → n ≤ b → gathered_bit ws step n b ≡ 0
  unfolding gathered_bit
  gathered_past n b l = rw (le-ltb b n l) refl

  pub gathered_lt : (n b : ℕ) → gathered_bit ws step n b < 2
  unfolding gathered_bit
  gathered_lt n b = go (ltb b n)
    where
      go : (t : Bool) → pick t (bit_at ws (b * step)) 0 < 2
      go true = at_lt ws (b * step)
      go false = omega arith

  -- one bit more
  module _ (t : ℕ) where
    elsewhere : (i : ℕ) → (i ≡ t → ⊥) → gathered_bit ws step (t + 1) i ≡ gathered_bit ws step t i
    elsewhere i f = go (le_or_lt t i)
      where
        go : (t ≤ i) ⊎ (i < t) → gathered_bit ws step (t + 1) i ≡ gathered_bit ws step t i
        go (inl l) = gathered_past (t + 1) i (past i t l f) ∙ sym (gathered_past t i l)
        go (inr l) = gathered_in (t + 1) i (omega arith) ∙ sym (gathered_in t i l)

-- ---- one word, bit by bit: w is the word of the bits before bit b + i

module _ (ws : List ℕ) (step b : ℕ) where
  abbrev pub sofar : ℕ → ℕ
  sofar t = word_from (gathered_bit ws step t) 32 b

  pub sofar_none : 0 ≡ sofar (b + 0)
  sofar_none = sym (word_alike (gathered_bit ws step (b + 0)) (λ _. 0) 32 b (λ i l h. gathered_past ws step (b + 0) i (omega arith)) ∙ word_zeros (λ _. 0) 32 b (λ i l. refl))

  module _ (i w : ℕ) (at : w ≡ sofar (b + i)) where
    pub turn_one : bit_at ws ((b + i) * step) ≡ 1 → i < 32 → w + 2 ^ i ≡ sofar (b + (i + 1))
    turn_one e l =
        let d : b + i - b ≡ i = omega arith in
        let q : b + i + 1 ≡ b + (i + 1) = omega arith in
        let z = word_less (gathered_bit ws step (b + i + 1)) (gathered_bit ws step (b + i)) (b + i) 32 b
        (gathered_in ws step (b + i + 1) (b + i) (omega arith) ∙ e) (gathered_past ws step (b + i) (b + i) (omega arith))
        (elsewhere ws step (b + i)) (omega arith) (omega arith) in
        ap₂ (λ x y. x + 2 ^ y) at (sym d) ∙ sym z ∙ ap sofar q

    pub turn_none : (bit_at ws ((b + i) * step) ≡ 1 → ⊥) → w ≡ sofar (b + (i + 1))
    turn_none f = at ∙ word_same (gathered_bit ws step (b + i)) (gathered_bit ws step (b + i + 1)) same 32 b ∙ ap sofar (let q : b + i + 1 ≡ b + (i + 1) = omega arith in q)
      where
        same : (k : ℕ) → gathered_bit ws step (b + i) k ≡ gathered_bit ws step (b + i + 1) k
        same k = go (le_or_lt (b + i) k) (le_or_lt k (b + i))
          where
            zero_bit : bit_at ws ((b + i) * step) ≡ 0
            zero_bit = zero_of_not_one _ (at_lt ws ((b + i) * step)) f

            go : (b + i ≤ k) ⊎ (k < b + i) → (k ≤ b + i) ⊎ (b + i < k) → gathered_bit ws step (b + i) k ≡ gathered_bit ws step (b + i + 1) k
            go (inl l) (inl h) =
                let e : k ≡ b + i = omega arith in
                ap (gathered_bit ws step (b + i)) e ∙ gathered_past ws step (b + i) (b + i) (omega arith)
                ∙ sym (gathered_in ws step (b + i + 1) (b + i) (omega arith) ∙ zero_bit) ∙ ap (gathered_bit ws step (b + i + 1)) (sym e)
            go (inl l) (inr h) = gathered_past ws step (b + i) k l ∙ sym (gathered_past ws step (b + i + 1) k (omega arith))
            go (inr l) q = gathered_in ws step (b + i) k l ∙ sym (gathered_in ws step (b + i + 1) k (omega arith))

  pub sofar_lt : (t : ℕ) → sofar t < 2 ^ 32
  sofar_lt t = word_lt (gathered_bit ws step t) (gathered_lt ws step t) 32 b

  -- all bits that there are, or all that this word has
  pub sofar_all : (n t : ℕ) → t ≤ n → (t ≡ n) ⊎ (b + 32 ≤ t) → sofar t ≡ sofar n
  sofar_all n t h (inl e) = ap sofar e
  sofar_all n t h (inr q) = word_alike (gathered_bit ws step t) (gathered_bit ws step n) 32 b (λ i a c. gathered_in ws step t i (omega arith) ∙ sym (gathered_in ws step n i (omega arith)))

-- ---- the words, one after the other

as_paste : (i : ℕ) (vs s : List ℕ) → copied i vs s ≡ paste s 0 vs i
unfolding copied
as_paste i vs s = ap (λ (k : ℕ). take i vs ++ drop k s) (sym (zero-add i))

pub copied_none : (vs s : List ℕ) → s ≡ copied 0 vs s
unfolding copied
copied_none vs s = refl

copied_more : (vs s : List ℕ) (i : ℕ) → i < length vs → i < length s → set (copied i vs s) i (get_or vs i 0) ≡ copied (i + 1) vs s
copied_more vs s i l h =
    ap₂ (λ (x : List ℕ) (k : ℕ). set x k (get_or vs i 0)) (as_paste i vs s) (sym (zero-add i))
    ∙ paste-suc s 0 vs i 0 (omega arith) l
    ∙ sym (as_paste (suc i) vs s)
    ∙ ap (λ k. copied k vs s) (sym (add-one i))

-- words behind those copied are as they were
copied_behind : (vs s : List ℕ) (i x : ℕ) → i ≤ length vs → i ≤ x → get_or (copied i vs s) x 0 ≡ get_or s x 0
unfolding copied
copied_behind vs s i x l h =
    let t : length (take i vs) ≡ i = length-take-le i vs l in
    let e : x ≡ length (take i vs) + (x - i) = omega arith in
    ap (λ (k : ℕ). get_or (take i vs ++ drop i s) k 0) e
    ∙ get_or-append-add (take i vs) (drop i s) (x - i) 0
    ∙ get_or-drop i s (x - i) 0
    ∙ ap (λ (k : ℕ). get_or s k 0) (let q : i + (x - i) ≡ x = omega arith in q)

module _ (from n step : ℕ) (s : List ℕ) (apart : words_for n ≤ from) (room : from ≤ length s) where
  abbrev words : ℕ
  words = words_for n

  abbrev all : List ℕ
  all = gathered (drop from s) step n

  long : length all ≡ words
  long = length-packed (gathered_bit (drop from s) step n) words 0

  pub part_length : (j : ℕ) → j ≤ words → length (copied j all s) ≡ length s
  part_length j h = length-copied j all s (let l = long in omega arith) (omega arith)

  -- the next word, read from what is there by now
  pub part_turn : (t : List ℕ) (j : ℕ) → j < words → t ≡ copied j all s → (w : ℕ) → w ≡ word_from (gathered_bit (drop from t) step n) 32 (j * 32) → set t j w ≡ copied (j + 1) all s
  unfolding gathered_bit
  part_turn t j h e w u =
      ap₂ (λ (x : List ℕ) (v : ℕ). set x j v) e
      (u ∙ word_same (gathered_bit (drop from t) step n) (gathered_bit (drop from s) step n) same 32 (j * 32) ∙ sym read)
      ∙ copied_more all s j (let l = long in omega arith) (omega arith)
    where
      read : get_or all j 0 ≡ word_from (gathered_bit (drop from s) step n) 32 (j * 32)
      read = packed_at (gathered_bit (drop from s) step n) words 0 j h ∙ ap (λ k. word_from (gathered_bit (drop from s) step n) 32 (k * 32)) (let q : 0 + j ≡ j = omega arith in q)

      bit : (k : ℕ) → bit_at (drop from t) k ≡ bit_at (drop from s) k
      bit k =
          bits_same (drop from t) (drop from s) k
          (get_or-drop from t (k / 32) 0 ∙ ap (λ (x : List ℕ). get_or x (from + k / 32) 0) e
          ∙ copied_behind all s j (from + k / 32) (let l = long in omega arith) (omega arith) ∙ sym (get_or-drop from s (k / 32) 0))

      same : (k : ℕ) → gathered_bit (drop from t) step n k ≡ gathered_bit (drop from s) step n k
      same k = ap (λ (z : ℕ). pick (ltb k n) z 0) (bit (k * step))
