-- Reading a number is right: what `number_of` reads is a number's decimal, and a decimal that no digit follows is read.
use Prim.Native.Nat.{ℕ, zero, suc, ◌+◌, ◌-◌, ◌*◌, ◌/◌, ◌%◌, ◌^◌, ◌≤◌, ◌<◌}
use mathlib.Core.Path.{◌≡◌, refl, sym, ◌∙◌, ap}
use mathlib.Core.Bool.{Bool, true, false, cond}
use mathlib.Core.List.{List, [], ◌∷◌, ◌++◌, append_assoc}
use mathlib.Core.Option.{none, some}
use native.Mathlib.Nat.{mod-lt, div-add-mod'}
use native.Mathlib.Omega.{arith}
use lib.Dec.{ltb, eqb}
use borrow.Author.Tests.{lt-ltb, le-ltb, ltb-true, ltb-false, ne_eqb, eqb-true, eqb-false}
use Rattle.decimals.specs.Decimal.{digits_of, decimal, Word}
use Rattle.bracket_text.specs.Scan.{digit_of, digits_on, number_of, numbered, NumberRead}
use Rattle.decimals.proofs.Decimal.{tenth, decimal_small, decimal_snoc}

-- a digit's byte and its value
pub digit_byte : (b : ℕ) → digit_of b < 10 → b ≡ 48 + digit_of b
digit_byte b = go (ltb b 48) refl (ltb b 58) refl
  where
    go : (s : Bool) → ltb b 48 ≡ s → (t : Bool) → ltb b 58 ≡ t → cond s 10 (cond t (b - 48) 10) < 10
        → b ≡ 48 + cond s 10 (cond t (b - 48) 10)
    go true p t q h = omega arith
    go false p true q h = omega (arith, ltb-false b 48 p)
    go false p false q h = omega arith

pub byte_digit : (d : ℕ) → d < 10 → digit_of (48 + d) ≡ d
byte_digit d h = rw (le-ltb (48 + d) 48 (omega arith), lt-ltb (48 + d) 58 (omega arith)) (omega arith)

-- what `digits_on` reads
pub record Read (l : List ℕ) (w : ℕ) (rest : List ℕ) : Type 0 where
  pub is : l ≡ decimal w ++ rest
  pub word : Word w

some_of : {r s : NumberRead} → some r ≡ some s → r ≡ s
some_of e = cc

-- a result says its parts
pub value_of : {v w : ℕ} {l m : List ℕ} → numbered v l ≡ numbered w m → (v ≡ w) × (l ≡ m)
value_of e = let q = some_of e in (ap (λ (r : NumberRead). r.value) q, ap (λ (r : NumberRead). r.rest) q)

digits_sound : (l : List ℕ) (v w : ℕ) (rest : List ℕ) → 1 ≤ v → Word v → digits_on v l ≡ numbered w rest
    → Read (decimal v ++ l) w rest
unfolding digits_on
digits_sound [] v w rest h k e =
    let p = value_of e in
    record { is = cc; word = omega arith }
digits_sound (b ∷ l) v w rest h k e =
    go (ltb (digit_of b) 10) refl (ltb (v * 10 + digit_of b) 4294967296) refl e (digits_sound l (v * 10 + digit_of b) w rest)
  where
    go : (s : Bool) → ltb (digit_of b) 10 ≡ s → (t : Bool) → ltb (v * 10 + digit_of b) 4294967296 ≡ t
        → cond s (cond t (digits_on (v * 10 + digit_of b) l) none) (numbered v (b ∷ l)) ≡ numbered w rest
        → (1 ≤ v * 10 + digit_of b → Word (v * 10 + digit_of b) → digits_on (v * 10 + digit_of b) l ≡ numbered w rest → Read (decimal (v * 10 + digit_of b) ++ l) w rest)
        → Read (decimal v ++ (b ∷ l)) w rest
    go false p t q f i =
        let z = value_of f in
        record { is = cc; word = omega arith }
    go true p false q f i = let z : ◌≡◌ {A = ℕ} 0 1 = cc in absurd (omega arith)
    go true p true q f i =
        let d : digit_of b < 10 = ltb-true _ _ p in
        let k' : Word (v * 10 + digit_of b) = ltb-true _ _ q in
        let r = i (omega arith) k' f in
        record {
          is =
              ap (λ (x : ℕ). decimal v ++ (x ∷ l)) (digit_byte b d)
              ∙ sym (append_assoc (decimal v) ((48 + digit_of b) ∷ []) l)
              ∙ ap (λ (x : List ℕ). x ++ l) (sym (decimal_snoc v (digit_of b) h (omega arith) k'))
              ∙ r.is;
          word = r.word;
        }

-- sound: what is read is a number's decimal and the rest
pub number_sound : (l : List ℕ) (w : ℕ) (rest : List ℕ) → number_of l ≡ numbered w rest → Read l w rest
unfolding number_of
number_sound [] w rest e = let z : ◌≡◌ {A = ℕ} 0 1 = cc in absurd (omega arith)
number_sound (b ∷ l) w rest e = go (ltb (digit_of b) 10) refl (eqb (digit_of b) 0) refl e
  where
    go : (s : Bool) → ltb (digit_of b) 10 ≡ s → (t : Bool) → eqb (digit_of b) 0 ≡ t
        → cond s (cond t (numbered 0 l) (digits_on (digit_of b) l)) none ≡ numbered w rest
        → Read (b ∷ l) w rest
    go false p t q f = let z : ◌≡◌ {A = ℕ} 0 1 = cc in absurd (omega arith)
    go true p true q f =
        let y = value_of f in
        let d : b ≡ 48 + digit_of b = digit_byte b (ltb-true _ _ p) in
        let z : digit_of b ≡ 0 = eqb-true _ _ q in
        let x : b ≡ 48 + w = omega arith in
        record { is = rw (decimal_small w (omega arith)) (cc); word = omega arith }
    go true p false q f =
        let d : b ≡ 48 + digit_of b = digit_byte b (ltb-true _ _ p) in
        let n : digit_of b ≡ 0 → ⊥ = eqb-false _ _ q in
        let t : digit_of b < 10 = ltb-true _ _ p in
        let r = digits_sound l (digit_of b) w rest (omega arith) (omega arith) f in
        let s : decimal (digit_of b) ≡ (48 + digit_of b) ∷ [] = decimal_small (digit_of b) (ltb-true _ _ p) in
        record { is = ap (λ (x : ℕ). x ∷ l) d ∙ ap (λ (x : List ℕ). x ++ l) (sym s) ∙ r.is; word = r.word }

-- the digits of a number are taken up one by one
digits_taken : (f w : ℕ) (l : List ℕ) → 1 ≤ w → Word w → w < 10 ^ suc f → number_of (digits_of (suc f) w ++ l) ≡ digits_on w l
unfolding digits_of number_of digits_on
digits_taken zero w l h k p =
    rw (lt-ltb w 10 p, byte_digit w p, lt-ltb w 10 p, ne_eqb w 0 (omega arith))
digits_taken (suc f) w l h k p = go (ltb w 10) refl (digits_taken f (w / 10) ((48 + w % 10) ∷ l))
  where
    go : (t : Bool) → ltb w 10 ≡ t
        → (1 ≤ w / 10 → Word (w / 10) → w / 10 < 10 ^ suc f → number_of (digits_of (suc f) (w / 10) ++ ((48 + w % 10) ∷ l)) ≡ digits_on (w / 10) ((48 + w % 10) ∷ l))
        → number_of (digits_of (suc (suc f)) w ++ l) ≡ digits_on w l
    go true q i =
        let s : w < 10 = ltb-true w 10 q in
        rw (q, byte_digit w s, lt-ltb w 10 s, ne_eqb w 0 (omega arith))
    go false q i =
        let s : 10 ≤ w = ltb-false w 10 q in
        let d : w % 10 < 10 = mod-lt w (omega arith) in
        let e : w / 10 * 10 + w % 10 ≡ w = div-add-mod' w 10 in
        rw (q, append_assoc)
        (i (omega arith) (omega arith) (tenth (suc f) w p)
        ∙ rw (byte_digit (w % 10) d, lt-ltb (w % 10) 10 d, e, lt-ltb w 4294967296 k))

-- the rest of a line does not begin with a digit
abbrev pub Stops : List ℕ → Type 0
Stops [] = Unit
Stops (b ∷ l) = 9 < digit_of b

digits_stopped : (w : ℕ) (rest : List ℕ) → Stops rest → digits_on w rest ≡ numbered w rest
unfolding digits_on
digits_stopped w [] s = refl
digits_stopped w (b ∷ l) s = rw (le-ltb (digit_of b) 10 (omega arith))

zero_taken : (rest : List ℕ) → number_of (digits_of 10 0 ++ rest) ≡ numbered 0 rest
unfolding digits_of number_of
zero_taken rest = refl

-- complete: a number's decimal that no digit follows is read
pub number_complete : (w : ℕ) (rest : List ℕ) → Word w → Stops rest → number_of (decimal w ++ rest) ≡ numbered w rest
unfolding decimal
number_complete zero rest k s = zero_taken rest
number_complete (suc w) rest k s =
    digits_taken 9 (suc w) rest (omega arith) k (omega arith) ∙ digits_stopped (suc w) rest s
