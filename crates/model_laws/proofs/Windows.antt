-- A run of words set in a list, read inside and outside; the window of its words, and the bits of a window.
use mathlib.Core.Path.{◌≡◌, refl, sym, ◌∙◌, ap}
use mathlib.Core.Logic.{◌⊎◌, inl, inr, ⊎_elim}
use mathlib.Core.List.{List, [], ◌∷◌}
use Prim.Native.Nat.{ℕ, zero, suc, ◌+◌, ◌-◌, ◌*◌, ◌/◌, ◌%◌, ◌≤◌, ◌<◌, min}
use native.Mathlib.Nat.{min-le_left, mul-le-mul_right, suc-mul}
use native.Mathlib.Omega.{arith}
use lib.ListN.{length, get_or, set, take, drop, length-set, length-take, length-drop}
use lib.Seq.{sets, length-sets, get_or-set_same, get_or-set_other, get_or-take, get_or-drop, length-take-le, ext_get_or}
use Rattle.basics.proofs.Order.{le_or_lt}
use Rattle.words.specs.Bits.{bit_of, bit_at}
use Rattle.words.proofs.Lists.{bit_split}
use Rattle.layout.specs.Mem.{spliced}
use Rattle.layout.proofs.Spliced.{spliced_sets}

sets_out : (vs l : List ℕ) (i j : ℕ) → (j < i) ⊎ (i + length vs ≤ j) → get_or (sets l i vs) j 0 ≡ get_or l j 0
sets_out [] l i j h = refl
sets_out (a ∷ vs) l i j h = sets_out vs (set l i a) (suc i) j (go h) ∙ get_or-set_other l i j a 0 (apart h)
  where
    go : (j < i) ⊎ (i + suc (length vs) ≤ j) → (j < suc i) ⊎ (suc i + length vs ≤ j)
    go (inl q) = inl (omega arith)
    go (inr q) = inr (omega arith)

    apart : (j < i) ⊎ (i + suc (length vs) ≤ j) → j ≡ i → ⊥
    apart (inl q) e = omega arith
    apart (inr q) e = omega arith

sets_in : (vs l : List ℕ) (i j : ℕ) → i + length vs ≤ length l → j < length vs → get_or (sets l i vs) (i + j) 0 ≡ get_or vs j 0
sets_in [] l i j h q = absurd (omega arith)
sets_in (a ∷ vs) l i zero h q =
    let e : i + 0 ≡ i = omega arith in
    ap (λ z. get_or (sets (set l i a) (suc i) vs) z 0) e ∙ sets_out vs (set l i a) (suc i) i (inl (omega arith)) ∙ get_or-set_same l i a 0 (omega arith)
sets_in (a ∷ vs) l i (suc j) h q =
    let e : i + suc j ≡ suc i + j = omega arith in
    let z = length-set l i a in
    ap (λ z. get_or (sets (set l i a) (suc i) vs) z 0) e ∙ sets_in vs (set l i a) (suc i) j (omega arith) (omega arith)

-- the same of a splice
pub length-spliced : (l : List ℕ) (i : ℕ) (vs : List ℕ) → length (spliced l i vs) ≡ length l
length-spliced l i vs = ap length (spliced_sets l i vs) ∙ length-sets l i vs

pub spliced_out : (vs l : List ℕ) (i j : ℕ) → (j < i) ⊎ (i + length vs ≤ j) → get_or (spliced l i vs) j 0 ≡ get_or l j 0
spliced_out vs l i j h = ap (λ z. get_or z j 0) (spliced_sets l i vs) ∙ sets_out vs l i j h

pub spliced_in : (vs l : List ℕ) (i j : ℕ) → i + length vs ≤ length l → j < length vs → get_or (spliced l i vs) (i + j) 0 ≡ get_or vs j 0
spliced_in vs l i j h q = ap (λ z. get_or z (i + j) 0) (spliced_sets l i vs) ∙ sets_in vs l i j h q

-- ---- windows

pub length-window : (l : List ℕ) (i w : ℕ) → i + w ≤ length l → length (take w (drop i l)) ≡ w
length-window l i w h = let e = length-drop i l in length-take-le w (drop i l) (omega arith)

-- a window whose words stay
pub window_same : (l l' : List ℕ) (i w : ℕ) → length l' ≡ length l → ((j : ℕ) → i ≤ j → j < i + w → get_or l' j 0 ≡ get_or l j 0) → take w (drop i l') ≡ take w (drop i l)
window_same l l' i w e h = ext_get_or 0 (take w (drop i l')) (take w (drop i l)) lengths words
  where
    lengths : length (take w (drop i l')) ≡ length (take w (drop i l))
    lengths = length-take w (drop i l') ∙ ap (λ n. min w n) (length-drop i l' ∙ ap (λ n. n - i) e ∙ sym (length-drop i l)) ∙ sym (length-take w (drop i l))

    words : (j : ℕ) → j < length (take w (drop i l')) → get_or (take w (drop i l')) j 0 ≡ get_or (take w (drop i l)) j 0
    words j q =
        let a = length-take w (drop i l') in
        let b = min-le_left w (length (drop i l')) in
        let k : j < w = omega arith in
        get_or-take w (drop i l') j 0 k ∙ get_or-drop i l' j 0 ∙ h (i + j) (omega arith) (omega arith) ∙ sym (get_or-drop i l j 0) ∙ sym (get_or-take w (drop i l) j 0 k)

-- the window that was written
pub window_there : (vs l : List ℕ) (i w : ℕ) → length vs ≡ w → i + w ≤ length l → take w (drop i (spliced l i vs)) ≡ vs
window_there vs l i w e h = ext_get_or 0 (take w (drop i (spliced l i vs))) vs (long ∙ sym e) words
  where
    long : length (take w (drop i (spliced l i vs))) ≡ w
    long = let b = length-spliced l i vs in length-window (spliced l i vs) i w (omega arith)

    words : (j : ℕ) → j < length (take w (drop i (spliced l i vs))) → get_or (take w (drop i (spliced l i vs))) j 0 ≡ get_or vs j 0
    words j q = let a = long in get_or-take w (drop i (spliced l i vs)) j 0 (omega arith) ∙ get_or-drop i (spliced l i vs) j 0 ∙ spliced_in vs l i j (omega arith) (omega arith)

-- windows of one width, one after the other: another one's words
pub window_other : (w r q : ℕ) (vs l : List ℕ) → length vs ≡ w → (q ≡ r → ⊥) → take w (drop (q * w) (spliced l (r * w) vs)) ≡ take w (drop (q * w) l)
window_other w r q vs l e f = window_same l (spliced l (r * w) vs) (q * w) w (length-spliced l (r * w) vs) (λ j a b. spliced_out vs l (r * w) j (side j a b (le_or_lt q r)))
  where
    side : (j : ℕ) → q * w ≤ j → j < q * w + w → (q ≤ r) ⊎ (r < q) → (j < r * w) ⊎ (r * w + length vs ≤ j)
    side j a b (inl k) =
        let l : suc q ≤ r = ⊎_elim (λ z. absurd (f (omega arith))) (λ z. z) (le_or_lt r q) in
        let z : suc q * w ≤ r * w = mul-le-mul_right w l in
        let y = suc-mul q w in
        inl (omega arith)
    side j a b (inr k) = let z : suc r * w ≤ q * w = mul-le-mul_right w k in let y = suc-mul r w in inr (omega arith)

-- bit b of a window is a bit of the list
pub window_bit : (l : List ℕ) (i w b : ℕ) → b < w * 32 → bit_at (take w (drop i l)) b ≡ bit_at l (i * 32 + b)
window_bit l i w b h =
    let q : i + b / 32 ≡ (i * 32 + b) / 32 = omega arith in
    let p : b % 32 ≡ (i * 32 + b) % 32 = omega arith in
    bit_split (take w (drop i l)) b
    ∙ ap (λ (x : ℕ). bit_of x (b % 32)) (get_or-take w (drop i l) (b / 32) 0 (omega arith) ∙ get_or-drop i l (b / 32) 0)
    ∙ ap (λ (x : ℕ). bit_of (get_or l x 0) (b % 32)) q
    ∙ ap (λ (x : ℕ). bit_of (get_or l ((i * 32 + b) / 32) 0) x) p
    ∙ sym (bit_split l (i * 32 + b))
