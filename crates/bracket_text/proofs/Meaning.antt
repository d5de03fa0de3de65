-- What a decimal is: digits without leading zeros that make the number, and the only such. So `decimal` of specs/Text.antt is
-- document 01's "decimals without leading zeros".
use Prim.Native.Nat.{ℕ, zero, suc, ◌+◌, ◌*◌, ◌/◌, ◌%◌, ◌≤◌, ◌<◌}
use mathlib.Core.Path.{◌≡◌, refl, sym, ◌∙◌, ap, subst}
use mathlib.Core.Bool.{Bool, true, false}
use mathlib.Core.List.{List, [], ◌∷◌, ◌++◌, append-nil}
use native.Mathlib.Nat.{mod-lt, div-add-mod'}
use native.Mathlib.Omega.{arith}
use lib.Dec.{ltb}
use borrow.Author.Tests.{lt-ltb, ne_eqb, ltb-true, ltb-false}
use Rattle.decimals.specs.Decimal.{decimal, Word}
use Rattle.bracket_text.specs.Scan.{digit_of, digits_on, number_of, numbered}
use Rattle.decimals.proofs.Decimal.{decimal_small, decimal_more}
use Rattle.bracket_text.proofs.Numbers.{digit_byte, byte_digit, number_sound}

-- all bytes are digits
abbrev pub Digits : List ℕ → Type 0
Digits [] = Unit {0}
Digits (b ∷ l) = (digit_of b < 10) × Digits l

-- the number that digits make after those that make v
abbrev pub value_from : ℕ → List ℕ → ℕ
value_from v [] = v
value_from v (b ∷ l) = value_from (v * 10 + digit_of b) l

-- digits, at least one, of which the first is no `0` unless it is the only one
abbrev pub Plain : List ℕ → Type 0
Plain [] = ⊥
Plain (b ∷ []) = digit_of b < 10
Plain (b ∷ x ∷ l) = (0 < digit_of b) × Digits (b ∷ x ∷ l)

value_grows : (l : List ℕ) (v : ℕ) → v ≤ value_from v l
value_grows [] v = omega arith
value_grows (b ∷ l) v = omega (arith, value_grows l (v * 10 + digit_of b))

-- digits that follow are all taken up
digits_taken : (l : List ℕ) (v : ℕ) → Digits l → Word (value_from v l) → digits_on v l ≡ numbered (value_from v l) []
unfolding digits_on
digits_taken [] v d w = refl
digits_taken (b ∷ l) v d w =
    let k : v * 10 + digit_of b < 4294967296 = omega (arith, value_grows l (v * 10 + digit_of b)) in
    rw (lt-ltb (digit_of b) 10 d.0, lt-ltb (v * 10 + digit_of b) 4294967296 k) (digits_taken l (v * 10 + digit_of b) d.1 w)

-- the digits after a first one that is no `0`
plain_taken : (b : ℕ) (l : List ℕ) → 0 < digit_of b → digit_of b < 10 → Digits l → Word (value_from (digit_of b) l)
    → number_of (b ∷ l) ≡ numbered (value_from (digit_of b) l) []
unfolding number_of
plain_taken b l h k d w = rw (lt-ltb (digit_of b) 10 k, ne_eqb (digit_of b) 0 (λ e. omega arith)) (digits_taken l (digit_of b) d w)

-- the only one: plain digits that make n are the decimal of n
pub decimal_only : (l : List ℕ) (n : ℕ) → Plain l → value_from 0 l ≡ n → Word n → l ≡ decimal n
decimal_only [] n h e w = absurd h
decimal_only (b ∷ []) n h e w =
    let k : digit_of b ≡ n = omega arith in
    let c : b ≡ 48 + n = omega (arith, digit_byte b h) in
    rw (decimal_small n (omega arith)) (ap (λ (x : ℕ). x ∷ []) c)
decimal_only (b ∷ x ∷ l) n h e w =
    let z : 0 * 10 + digit_of b ≡ digit_of b = omega arith in
    let f : value_from (digit_of b) (x ∷ l) ≡ n = ap (λ (v : ℕ). value_from v (x ∷ l)) (sym z) ∙ e in
    let m : number_of (b ∷ x ∷ l) ≡ numbered (value_from (digit_of b) (x ∷ l)) [] =
    plain_taken b (x ∷ l) h.0 h.1.0 h.1.1 (subst Word (sym f) w) in
    (number_sound (b ∷ x ∷ l) (value_from (digit_of b) (x ∷ l)) [] m).is
    ∙ ap (λ (v : ℕ). decimal v ++ []) f
    ∙ append-nil (decimal n)

digits_snoc : (l : List ℕ) (b : ℕ) → Digits l → digit_of b < 10 → Digits (l ++ (b ∷ []))
digits_snoc [] b d h = (h, tt)
digits_snoc (x ∷ l) b d h = (d.0, digits_snoc l b d.1 h)

value_snoc : (l : List ℕ) (v b : ℕ) → value_from v (l ++ (b ∷ [])) ≡ value_from v l * 10 + digit_of b
value_snoc [] v b = refl
value_snoc (x ∷ l) v b = value_snoc l (v * 10 + digit_of x) b

plain_digits : (l : List ℕ) → Plain l → Digits l
plain_digits [] h = absurd h
plain_digits (b ∷ []) h = (h, tt)
plain_digits (b ∷ x ∷ l) h = h.1

-- one more digit after digits that make a number above 0
plain_snoc : (l : List ℕ) (b : ℕ) → Plain l → 0 < value_from 0 l → digit_of b < 10 → Plain (l ++ (b ∷ []))
plain_snoc [] b h p k = absurd h
plain_snoc (x ∷ []) b h p k = (omega arith, (h, (k, tt)))
plain_snoc (x ∷ y ∷ l) b h p k = (h.0, digits_snoc (x ∷ y ∷ l) b h.1 k)

-- a decimal is such digits
pub record Spells (l : List ℕ) (n : ℕ) : Type 0 where
  pub plain : Plain l
  pub makes : value_from 0 l ≡ n

spells_small : (n : ℕ) → n < 10 → Spells ((48 + n) ∷ []) n
spells_small n h = record { plain = omega (arith, byte_digit n h); makes = omega (arith, byte_digit n h) }

spells_more : (l : List ℕ) (n : ℕ) → 10 ≤ n → Spells l (n / 10) → Spells (l ++ ((48 + n % 10) ∷ [])) n
spells_more l n h s =
    let d : n % 10 < 10 = mod-lt n (omega arith) in
    let e : digit_of (48 + n % 10) ≡ n % 10 = byte_digit (n % 10) d in
    record {
      plain = plain_snoc l (48 + n % 10) s.plain (omega (arith, s.makes)) (omega arith);
      makes = value_snoc l 0 (48 + n % 10) ∙ omega (arith, s.makes, e, div-add-mod' n 10);
    }

spells_in : (f n : ℕ) → n ≤ f → Word n → Spells (decimal n) n
spells_in zero n h w = rw (decimal_small n (omega arith)) (spells_small n (omega arith))
spells_in (suc f) n h w = go (ltb n 10) refl (spells_in f (n / 10))
  where
    go : (t : Bool) → ltb n 10 ≡ t → (n / 10 ≤ f → Word (n / 10) → Spells (decimal (n / 10)) (n / 10)) → Spells (decimal n) n
    go true q rec = let k : n < 10 = ltb-true n 10 q in rw (decimal_small n k) (spells_small n k)
    go false q rec =
        let k : 10 ≤ n = ltb-false n 10 q in
        rw (decimal_more n k w) (spells_more (decimal (n / 10)) n k (rec (omega arith) (omega arith)))

pub decimal_spells : (n : ℕ) → Word n → Spells (decimal n) n
decimal_spells n w = spells_in n n (omega arith) w
