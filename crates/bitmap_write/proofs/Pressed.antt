-- Words of bits moved and put together, and with them every second, fourth or eighth bit of a word side by side.
use mathlib.Core.Path.{◌≡◌, refl, sym, ap, ap₂, ◌∙◌, subst₂}
use mathlib.Core.Logic.{inl, inr}
use mathlib.Core.List.{List}
use Prim.Native.Nat.{ℕ, zero, suc, ◌+◌, ◌-◌, ◌*◌, ◌/◌, ◌%◌, ◌^◌, ◌≤◌, ◌<◌}
use native.Mathlib.Nat.{pow-suc, mul_assoc, add-mul, one-mul, lt_of_lt_of_le}
use native.Mathlib.Omega.{arith}
use lib.Bits.{bit_and, bit_or, and_le_r}
use lib.Pow.{shl_exact, pow_mono}
use lib.ListN.{get_or}
use Rattle.words.specs.Bits.{bit_of, bit_at}
use Rattle.words.proofs.Word.{bit_lt, bit_low, bit_half, bit_high}
use Rattle.words.proofs.Lists.{bit_in}
use Rattle.bitmap_write.specs.Rebuild.{word_from}
use Rattle.bitmap_write.specs.Completed.{pressed, Pressable, gathered_bit}
use Rattle.bitmap_write.proofs.Packed.{word_lt, word_bit, word_alike, word_zeros}
use Rattle.bitmap_write.proofs.Gathered.{gathered_in, gathered_lt}
use Rattle.bitmap_write.proofs.Halves.{eights, half_of, half_bit}

-- ---- words of bits

word_move : (bit : ℕ → ℕ) (d c k : ℕ) → word_from bit c (d + k) ≡ word_from (λ i. bit (d + i)) c k
unfolding word_from
word_move bit d zero k = refl
word_move bit d (suc c) k =
    let e : suc (d + k) ≡ d + suc k = omega arith in
    ap (λ (x : ℕ). word_from bit c x * 2 + bit (d + k)) e ∙ ap (λ (x : ℕ). x * 2 + bit (d + k)) (word_move bit d c (suc k))

word_join : (bit : ℕ → ℕ) (a b k : ℕ) → word_from bit (a + b) k ≡ word_from bit a k + word_from bit b (k + a) * 2 ^ a
unfolding word_from
word_join bit zero b k =
    let e : 0 + b ≡ b = omega arith in
    let f : k + 0 ≡ k = omega arith in
    rw (e, f) (omega arith)
word_join bit (suc a) b k =
    let e : suc a + b ≡ suc (a + b) = omega arith in
    let f : k + suc a ≡ suc k + a = omega arith in
    let ih = word_join bit a b (suc k) in
    let p = pow-suc 2 a in
    let q : word_from bit b (suc k + a) * 2 ^ suc a ≡ word_from bit b (suc k + a) * 2 ^ a * 2 =
    ap (λ (x : ℕ). word_from bit b (suc k + a) * x) p ∙ sym (mul_assoc (word_from bit b (suc k + a)) (2 ^ a) 2) in
    rw (e, f) (omega arith)

-- a number below 2 ^ c is the word of its c bits
word_of : (c w : ℕ) → w < 2 ^ c → word_from (bit_of w) c 0 ≡ w
unfolding word_from
word_of zero w h = omega arith
word_of (suc c) w h =
    let p = pow-suc 2 c in
    let r = word_of c (w / 2) (omega arith) in
    let m : word_from (bit_of w) c 1 ≡ word_from (bit_of (w / 2)) c 0 =
    word_move (bit_of w) 1 c 0
    ∙ word_alike (λ i. bit_of w (1 + i)) (bit_of (w / 2)) c 0 (λ i l k. ap (bit_of w) (let e : 1 + i ≡ suc i = omega arith in e) ∙ bit_half w i) in
    let b = bit_low w in
    omega arith

-- ---- every step-th bit of a word

pub press_all : (x : ℕ) → x < 2 ^ 32 → x ≡ pressed 1 32 x
press_all x h = sym (word_alike (λ i. bit_of x (i * 1)) (bit_of x) 32 0 (λ i l k. ap (bit_of x) (let e : i * 1 ≡ i = omega arith in e)) ∙ word_of 32 x h)

pub press_half : (x : ℕ) → half_of x ≡ pressed 2 16 x
press_half x =
    sym (word_of 16 (half_of x) (masked (bit_or (eights x) (eights x / 2 ^ 8))))
    ∙ word_alike (bit_of (half_of x)) (λ i. bit_of x (i * 2)) 16 0 (λ i l k. half_bit x i (omega arith) ∙ ap (bit_of x) (let e : 2 * i ≡ i * 2 = omega arith in e))
  where
    masked : (y : ℕ) → bit_and y 65535 < 2 ^ 16
    masked y = omega (arith, and_le_r y 65535)

module _ (x : ℕ) where
  abbrev halves : ℕ
  halves = pressed 2 16 x

  every_second : (i : ℕ) → bit_of x (i * 2) < 2
  every_second i = bit_lt x (i * 2)

  low_bits : word_from (λ i. bit_of halves (i * 2)) 8 0 ≡ pressed 4 8 x
  low_bits =
      word_alike (λ i. bit_of halves (i * 2)) (λ i. bit_of x (i * 4)) 8 0
      (λ i l k. word_bit (λ i. bit_of x (i * 2)) every_second 16 0 (i * 2) (omega arith) ∙ ap (bit_of x) (let e : (0 + i * 2) * 2 ≡ i * 4 = omega arith in e))

  no_bits : word_from (λ i. bit_of halves (i * 2)) 8 8 ≡ 0
  no_bits =
      word_alike (λ i. bit_of halves (i * 2)) (λ _. 0) 8 8
      (λ i l k. bit_high 16 halves (i * 2) (word_lt (λ i. bit_of x (i * 2)) every_second 16 0) (omega arith))
      ∙ word_zeros (λ _. 0) 8 8 (λ i l. refl)

  pub press_quarter : pressed 2 16 (pressed 2 16 x) ≡ pressed 4 8 x
  press_quarter = word_join (λ i. bit_of halves (i * 2)) 8 8 0 ∙ omega (arith, low_bits, no_bits)

  pub press_eighth : bit_of x 0 + bit_of x 8 * 2 + bit_of x 16 * 4 + bit_of x 24 * 8 ≡ pressed 8 4 x
  unfolding word_from
  press_eighth = omega arith

-- ---- the four steps

pub by_step : (P : ℕ → ℕ → Type 0) → P 1 32 → P 2 16 → P 4 8 → P 8 4 → (step count : ℕ) → Pressable step count → P step count
by_step P a b c d step count (inl e) = subst₂ P (sym e.0) (sym e.1) a
by_step P a b c d step count (inr (inl e)) = subst₂ P (sym e.0) (sym e.1) b
by_step P a b c d step count (inr (inr (inl e))) = subst₂ P (sym e.0) (sym e.1) c
by_step P a b c d step count (inr (inr (inr e))) = subst₂ P (sym e.0) (sym e.1) d

-- bit i of part k of word j, among the bits and in its own word
abbrev Index : ℕ → ℕ → Type 0
Index step count = (j k i : ℕ) → k < step → i < count → ((j * 32 + k * count + i) * step ≡ (j * step + k) * 32 + i * step) × (i * step < 32) × (k * count + i < 32)

index : (step count : ℕ) → Pressable step count → Index step count
index =
    by_step Index (λ j k i l h. (omega arith, omega arith, omega arith)) (λ j k i l h. (omega arith, omega arith, omega arith))
    (λ j k i l h. (omega arith, omega arith, omega arith)) (λ j k i l h. (omega arith, omega arith, omega arith))

-- the words that are read are there, and no number on the way is large
abbrev Room : ℕ → ℕ → Type 0
Room step count =
    (n j k from most : ℕ) → j * 32 + 32 ≤ n → from ≤ most → n * step ≤ (most - from) * 32 → n * step ≤ 2 ^ 20 → k < step
    → (from + j * step + k < most) × (j * step < 2 ^ 20) × (k * count < 32) × (count + k * count ≤ 32) × ((k + 1) * count ≤ 32)

pub room : (step count : ℕ) → Pressable step count → Room step count
room =
    by_step Room (λ n j k from most a b c d e. (omega arith, omega arith, omega arith, omega arith, omega arith))
    (λ n j k from most a b c d e. (omega arith, omega arith, omega arith, omega arith, omega arith))
    (λ n j k from most a b c d e. (omega arith, omega arith, omega arith, omega arith, omega arith))
    (λ n j k from most a b c d e. (omega arith, omega arith, omega arith, omega arith, omega arith))

pub whole_count : (step count : ℕ) → Pressable step count → step * count ≡ 32
whole_count = by_step (λ step count. step * count ≡ 32) refl refl refl refl

-- the step tells the count
abbrev Told : ℕ → ℕ → Type 0
Told step count =
    (step ≡ 1 → count ≡ 32) × (step ≡ 2 → count ≡ 16) × (step ≡ 4 → count ≡ 8)
    × ((step ≡ 1 → ⊥) → (step ≡ 2 → ⊥) → (step ≡ 4 → ⊥) → (step ≡ 8) × (count ≡ 4))

pub told : (step count : ℕ) → Pressable step count → Told step count
told =
    by_step Told (λ e. refl, λ e. absurd (omega arith), λ e. absurd (omega arith), λ a b c. absurd (a refl))
    (λ e. absurd (omega arith), λ e. refl, λ e. absurd (omega arith), λ a b c. absurd (b refl))
    (λ e. absurd (omega arith), λ e. absurd (omega arith), λ e. refl, λ a b c. absurd (c refl))
    (λ e. absurd (omega arith), λ e. absurd (omega arith), λ e. absurd (omega arith), λ a b c. (refl, refl))

pub some_step : (step count : ℕ) → Pressable step count → (1 ≤ step) × (step ≤ 8)
some_step = by_step (λ step count. (1 ≤ step) × (step ≤ 8)) (omega arith, omega arith) (omega arith, omega arith) (omega arith, omega arith) (omega arith, omega arith)

-- ---- word j, part by part: w is the word of the bits of the words before word j * step + k

abbrev pub parts : List ℕ → ℕ → ℕ → ℕ → ℕ → ℕ → ℕ
parts ws n step count j k = word_from (gathered_bit ws step n) (k * count) (j * 32)

module _ (ws : List ℕ) (n step count j : ℕ) where
  abbrev bits : ℕ → ℕ
  bits = gathered_bit ws step n

  pub parts_none : 0 ≡ parts ws n step count j 0
  unfolding word_from
  parts_none = let e : 0 * count ≡ 0 = omega arith in rw e refl

  pub parts_lt : (k : ℕ) → k * count ≤ 32 → parts ws n step count j k < 2 ^ 32
  parts_lt k l = lt_of_lt_of_le (word_lt bits (gathered_lt ws step n) (k * count) (j * 32)) (pow_mono l)

module _ (ws : List ℕ) (n step count j : ℕ) (p : Pressable step count) (whole : j * 32 + 32 ≤ n) where
  one_part : (k x : ℕ) → k < step → x ≡ get_or ws (j * step + k) 0 → word_from (bits ws n step count j) count (j * 32 + k * count) ≡ pressed step count x
  one_part k x l e =
      ap (word_from (bits ws n step count j) count) (let q : j * 32 + k * count ≡ j * 32 + k * count + 0 = omega arith in q)
      ∙ word_move (bits ws n step count j) (j * 32 + k * count) count 0
      ∙ word_alike (λ i. bits ws n step count j (j * 32 + k * count + i)) (λ i. bit_of x (i * step)) count 0 (λ i a h. same i (omega arith))
    where
      same : (i : ℕ) → i < count → bits ws n step count j (j * 32 + k * count + i) ≡ bit_of x (i * step)
      same i h =
          let q = index step count p j k i l h in
          gathered_in ws step n (j * 32 + k * count + i) (let z = q.2 in omega arith)
          ∙ ap (bit_at ws) q.0
          ∙ bit_in ws (j * step + k) (i * step) q.1
          ∙ ap (λ (y : ℕ). bit_of y (i * step)) (sym e)

  pub parts_turn : (k w x : ℕ) → k < step → w ≡ parts ws n step count j k → x ≡ get_or ws (j * step + k) 0 → w + pressed step count x * 2 ^ (k * count) ≡ parts ws n step count j (k + 1)
  parts_turn k w x l e f =
      ap₂ (λ (a b : ℕ). a + b * 2 ^ (k * count)) e (sym (one_part k x l f))
      ∙ sym (word_join (bits ws n step count j) (k * count) count (j * 32))
      ∙ ap (λ (c : ℕ). word_from (bits ws n step count j) c (j * 32)) (sym (add-mul k 1 count ∙ ap (λ (c : ℕ). k * count + c) (one-mul count)))

  pub parts_all : (k : ℕ) → k ≡ step → parts ws n step count j k ≡ word_from (bits ws n step count j) 32 (j * 32)
  parts_all k e = ap (λ (c : ℕ). word_from (bits ws n step count j) c (j * 32)) (ap (λ (c : ℕ). c * count) e ∙ whole_count step count p)

-- a part, moved to its place
pub press_fits : (step count : ℕ) (x k : ℕ) → count + k * count ≤ 32 → (pressed step count x * 2 ^ (k * count)) % 2 ^ 32 ≡ pressed step count x * 2 ^ (k * count)
press_fits step count x k l = shl_exact count (k * count) 32 (word_lt (λ i. bit_of x (i * step)) (λ i. bit_lt x (i * step)) count 0) l
