-- The words of a list put together by or: where that is 0, every word is 0, and so is every bit.
use mathlib.Core.Path.{◌≡◌, ◌∙◌, ap}
use mathlib.Core.Logic.{⊎_elim}
use mathlib.Core.Bool.{true}
use mathlib.Core.List.{List}
use Prim.Native.Nat.{ℕ, ◌+◌, ◌/◌, ◌%◌, ◌≤◌, ◌<◌}
use native.Mathlib.Omega.{arith}
use lib.Bits.{bit_or, and_le_l, and_le_r, or_add_and}
use lib.Dec.{eqb}
use lib.ListN.{length, get_or, get_or-eq_default}
use borrow.Author.Tests.{eqb-true}
use Rattle.basics.proofs.Order.{le_or_lt, same_or_not}
use Rattle.words.specs.Bits.{bit_at, bit_of}
use Rattle.words.proofs.Lists.{bit_split}
use Rattle.words.proofs.Word.{bit_zero}

-- any is the or of the first i words
pub record Unset (s : List ℕ) (any i : ℕ) : Type 0 where
  pub zero : any ≡ 0 → (j : ℕ) → j < i → get_or s j 0 ≡ 0

pub unset_none : (s : List ℕ) → Unset s 0 0
unset_none s = record { zero = λ e j l. absurd (omega arith) }

pub unset_more : (s : List ℕ) (any i : ℕ) → Unset s any i → Unset s (bit_or any (get_or s i 0)) (i + 1)
unset_more s any i p = record { zero = go }
  where
    go : bit_or any (get_or s i 0) ≡ 0 → (j : ℕ) → j < i + 1 → get_or s j 0 ≡ 0
    go e j l =
        let a = or_add_and any (get_or s i 0) in
        let b = and_le_l any (get_or s i 0) in
        let c = and_le_r any (get_or s i 0) in
        let x : any ≡ 0 = omega arith in
        let y : get_or s i 0 ≡ 0 = omega arith in
        ⊎_elim (λ z. ap (λ k. get_or s k 0) z ∙ y) (λ d. p.zero x j (omega arith)) (same_or_not j i)

-- all words are passed
pub unset_all : (s : List ℕ) (any i : ℕ) → Unset s any i → length s ≤ i → eqb any 0 ≡ true → (k : ℕ) → bit_at s k ≡ 0
unset_all s any i p l e k = bit_split s k ∙ ap (λ w. bit_of w (k % 32)) word ∙ bit_zero (k % 32)
  where
    word : get_or s (k / 32) 0 ≡ 0
    word = ⊎_elim (λ z. get_or-eq_default s 0 z) (λ z. p.zero (eqb-true _ _ e) (k / 32) (omega arith)) (le_or_lt (length s) (k / 32))
