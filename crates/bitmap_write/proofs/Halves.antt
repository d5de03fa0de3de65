-- The even bits of a word side by side, by five masks: bit i of what comes out is bit 2 i of the word. By a reading of words bit by bit that is
-- computed: each bit of a word on the way is 0 or a bit of the first word.
use mathlib.Core.Path.{◌≡◌, refl, sym, ap, ap₂, ◌∙◌, subst}
use mathlib.Core.Bool.{Bool, true, false, ◌&&◌}
use mathlib.Core.Logic.{◌⊎◌, inl, inr}
use mathlib.Core.Option.{Option, none, some}
use Prim.Native.Nat.{ℕ, zero, suc, ◌+◌, ◌*◌, ◌/◌, ◌%◌, ◌^◌, ◌<◌, min, max}
use native.Mathlib.Nat.{eq-or-lt_of_le, le_of_suc-le-suc, not-suc-le-zero}
use native.Mathlib.Omega.{arith}
use lib.Bits.{bit_and, bit_or, and_step, and_shr}
use lib.Dec.{T, eqb, eqb→eq}
use Rattle.basics.specs.Pick.{pick}
use Rattle.words.specs.Bits.{bit_of}
use Rattle.words.proofs.Word.{bit_lt, bit_cases, bit_shift, or_bit}

low_and : (a b : ℕ) → bit_and a b % 2 ≡ min (a % 2) (b % 2)
low_and a b = ap (λ (z : ℕ). z % 2) (and_step a b) ∙ omega arith

bit_and_lem : (a b i : ℕ) → bit_of (bit_and a b) i ≡ min (bit_of a i) (bit_of b i)
unfolding bit_of
bit_and_lem a b i = ap (λ (z : ℕ). z % 2) (and_shr a b i) ∙ low_and (a / 2 ^ i) (b / 2 ^ i)

-- ---- a word read bit by bit: each is 0, or a bit of x

abbrev val : ℕ → Option ℕ → ℕ
val x none = 0
val x (some j) = bit_of x j

-- the first n bits of w are so
abbrev Read : ℕ → ℕ → (ℕ → Option ℕ) → ℕ → Type 0
Read x w s n = (i : ℕ) → i < n → bit_of w i ≡ val x (s i)

val_lt : (x : ℕ) (o : Option ℕ) → val x o < 2
val_lt x none = omega arith
val_lt x (some j) = bit_lt x j

shifted : (x w k n : ℕ) (s : ℕ → Option ℕ) → Read x w s (k + n) → Read x (w / 2 ^ k) (λ i. s (k + i)) n
shifted x w k n s r i h = sym (bit_shift w k i) ∙ r (k + i) (omega arith)

-- the bits that a mask has
abbrev kept : ℕ → (ℕ → Option ℕ) → ℕ → Option ℕ
kept c s i = pick (eqb (c / 2 ^ i % 2) 1) (s i) none

masked : (x w c n : ℕ) (s : ℕ → Option ℕ) → Read x w s n → Read x (bit_and w c) (kept c s) n
unfolding bit_of
masked x w c n s r i h = bit_and_lem w c i ∙ go (bit_of c i) refl (bit_cases c i)
  where
    go : (b : ℕ) → b ≡ bit_of c i → (b ≡ 0) ⊎ (b ≡ 1) → min (bit_of w i) b ≡ val x (pick (eqb b 1) (s i) none)
    go zero e z = omega arith
    go (suc zero) e z = let q = r i h in let l = val_lt x (s i) in omega arith
    go (suc (suc b)) e z = absurd (⊎-no b z)
      where
        ⊎-no : (b : ℕ) → (suc (suc b) ≡ 0) ⊎ (suc (suc b) ≡ 1) → ⊥
        ⊎-no b (inl e) = omega arith
        ⊎-no b (inr e) = omega arith

-- two words that have no bit together
abbrev apart : Option ℕ → Option ℕ → Bool
apart none t = true
apart (some j) none = true
apart (some j) (some k) = false

abbrev either : Option ℕ → Option ℕ → Option ℕ
either none t = t
either (some j) t = some j

either_val : (x : ℕ) (o p : Option ℕ) → T (apart o p) → max (val x o) (val x p) ≡ val x (either o p)
either_val x none p t = omega arith
either_val x (some j) none t = omega arith
either_val x (some j) (some k) t = absurd t

-- a test of each number below n
abbrev below : (ℕ → Bool) → ℕ → Bool
below f zero = true
below f (suc n) = f n && below f n

below_at : (f : ℕ → Bool) (n : ℕ) → T (below f n) → (i : ℕ) → i < n → T (f i)
below_at f zero t i h = absurd (not-suc-le-zero h)
below_at f (suc n) t i h = go (f n) refl t (λ u l. below_at f n u i l) (eq-or-lt_of_le (le_of_suc-le-suc h))
  where
    go : (b : Bool) → b ≡ f n → T (b && below f n) → (T (below f n) → i < n → T (f i)) → (i ≡ n) ⊎ (i < n) → T (f i)
    go true e u rest (inl q) = subst (λ (k : ℕ). T (f k)) (sym q) (subst T e tt)
    go true e u rest (inr l) = rest u l
    go false e u rest q = absurd u

joined : (x w v n : ℕ) (s t : ℕ → Option ℕ) → Read x w s n → Read x v t n → T (below (λ i. apart (s i) (t i)) n) → Read x (bit_or w v) (λ i. either (s i) (t i)) n
joined x w v n s t r q a i h = or_bit w v i ∙ ap₂ max (r i h) (q i h) ∙ either_val x (s i) (t i) (below_at (λ i. apart (s i) (t i)) n a i h)

-- ---- the even bits

abbrev stage : ℕ → ℕ → ℕ → ℕ
stage w k c = bit_and (bit_or w (w / 2 ^ k)) c

abbrev stage_of : (ℕ → Option ℕ) → ℕ → ℕ → ℕ → Option ℕ
stage_of s k c = kept c (λ i. either (s i) (s (k + i)))

staged : (x w k c n : ℕ) (s : ℕ → Option ℕ) → Read x w s (k + n) → T (below (λ i. apart (s i) (s (k + i))) n) → Read x (stage w k c) (stage_of s k c) n
staged x w k c n s r a = masked x (bit_or w (w / 2 ^ k)) c n (λ i. either (s i) (s (k + i))) (joined x w (w / 2 ^ k) n s (λ i. s (k + i)) (λ i h. r i (omega arith)) (shifted x w k n s r) a)

-- by masks of every second bit, two of four, four of eight, eight of sixteen, and the lower half
abbrev pub eights : ℕ → ℕ
eights x = stage (stage (stage (bit_and x 1431655765) 1 858993459) 2 252645135) 4 16711935

abbrev pub half_of : ℕ → ℕ
half_of x = stage (eights x) 8 65535

abbrev e1 : ℕ → Option ℕ
e1 = kept 1431655765 (λ i. some i)

abbrev e2 : ℕ → Option ℕ
e2 = stage_of e1 1 858993459

abbrev e4 : ℕ → Option ℕ
e4 = stage_of e2 2 252645135

abbrev e8 : ℕ → Option ℕ
e8 = stage_of e4 4 16711935

abbrev e16 : ℕ → Option ℕ
e16 = stage_of e8 8 65535

is_some : Option ℕ → ℕ → Bool
is_some none k = false
is_some (some j) k = eqb j k

is_some_lem : (x : ℕ) (o : Option ℕ) (k : ℕ) → T (is_some o k) → val x o ≡ bit_of x k
unfolding is_some
is_some_lem x none k t = absurd t
is_some_lem x (some j) k t = ap (bit_of x) (eqb→eq j k t)

pub half_bit : (x i : ℕ) → i < 16 → bit_of (half_of x) i ≡ bit_of x (2 * i)
unfolding is_some
half_bit x i h =
    let r1 = masked x x 1431655765 31 (λ i. some i) (λ i l. refl) in
    let r2 = staged x (bit_and x 1431655765) 1 858993459 30 e1 r1 tt in
    let r4 = staged x (stage (bit_and x 1431655765) 1 858993459) 2 252645135 28 e2 r2 tt in
    let r8 = staged x (stage (stage (bit_and x 1431655765) 1 858993459) 2 252645135) 4 16711935 24 e4 r4 tt in
    let r16 = staged x (stage (stage (stage (bit_and x 1431655765) 1 858993459) 2 252645135) 4 16711935) 8 65535 16 e8 r8 tt in
    r16 i h ∙ is_some_lem x (e16 i) (2 * i) (below_at (λ k. is_some (e16 k) (2 * k)) 16 tt i h)
