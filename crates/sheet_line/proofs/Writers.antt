-- Writers one after the other: what each leaves in the output, together; and a part of it that is written at once.
use Prim.Native.Nat.{ℕ, ◌+◌, ◌-◌, ◌≤◌, ◌<◌}
use mathlib.Core.Path.{◌≡◌, sym, ◌∙◌, ap}
use mathlib.Core.List.{List, [], ◌∷◌, ◌++◌, append_assoc}
use native.Mathlib.Omega.{arith}
use lib.ListN.{length, take, drop, set, replicate, length-append, length-drop, length-replicate}
use lib.Seq.{length-take-le, drop-drop}
use borrow.Rule.Slice.PartMut.{mid_of, put_mid}
use Rattle.decimals.specs.Placed.{placed}
use Rattle.decimals.proofs.Placed.{placed_one, placed_append}

-- y behind x, which has w bytes
pub behind : (l : List ℕ) (at w : ℕ) (x y : List ℕ) (m : List ℕ) (k : ℕ) (n : List ℕ) → length x ≡ w → at + w ≤ length l
    → m ≡ placed l at x → k ≡ at + w → n ≡ placed m k y → n ≡ placed l at (x ++ y)
behind l at w x y m k n e h p q r =
    let same : k ≡ at + length x = omega arith in
    r ∙ ap (λ (z : List ℕ). placed z k y) p ∙ ap (λ (z : ℕ). placed (placed l at x) z y) same ∙ sym (placed_append l at x (omega arith) y)

-- one byte behind x
pub behind_one : (l : List ℕ) (at w : ℕ) (x : List ℕ) (b : ℕ) (m : List ℕ) (k : ℕ) → length x ≡ w → at + w < length l → length m ≡ length l
    → m ≡ placed l at x → k ≡ at + w → set m k b ≡ placed l at (x ++ (b ∷ []))
behind_one l at w x b m k e h same p q = behind l at w x (b ∷ []) m k (set m k b) e (omega arith) p q (placed_one m k b (omega arith))

-- z behind y, which has v bytes, behind x
pub behind_two : (l : List ℕ) (at w v : ℕ) (x y z : List ℕ) (m : List ℕ) (k : ℕ) (n : List ℕ) (j : ℕ) (o : List ℕ) → length x ≡ w → length y ≡ v
    → at + w + v ≤ length l → m ≡ placed l at x → k ≡ at + w → n ≡ placed m k y → j ≡ k + v → o ≡ placed n j z → o ≡ placed l at (x ++ (y ++ z))
behind_two l at w v x y z m k n j o e f h p q r t u =
    let both : length (x ++ y) ≡ w + v = length-append x y ∙ omega arith in
    let first : n ≡ placed l at (x ++ y) = behind l at w x y m k n e (omega arith) p q r in
    behind l at (w + v) (x ++ y) z n j o both (omega arith) first (omega arith) u ∙ ap (placed l at) (append_assoc x y z)

-- a part of the output that becomes x
pub part_placed : (l : List ℕ) (at n : ℕ) (x ys : List ℕ) → length x ≡ n → at + n ≤ length l → ys ≡ x → put_mid at (at + n - at) l ys ≡ placed l at x
unfolding placed
part_placed l at n x ys e h p =
    let rest : drop (at + n - at) (drop at l) ≡ drop (at + length x) l = drop-drop (at + n - at) at l ∙ ap (λ (k : ℕ). drop k l) (omega arith) in
    ap (λ (y : List ℕ). take at l ++ (y ++ drop (at + n - at) (drop at l))) p ∙ ap (λ (r : List ℕ). take at l ++ (x ++ r)) rest

-- n bytes of it that become b
pub part_filled : (l : List ℕ) (at n b : ℕ) (ys : List ℕ) → at + n ≤ length l → ys ≡ replicate (length (mid_of at (at + n - at) l)) b
    → put_mid at (at + n - at) l ys ≡ placed l at (replicate n b)
part_filled l at n b ys h e =
    let part : length (mid_of at (at + n - at) l) ≡ n = length-take-le (at + n - at) (drop at l) (omega (arith, length-drop at l)) ∙ omega arith in
    part_placed l at n (replicate n b) ys (length-replicate n b) h (e ∙ ap (λ (k : ℕ). replicate k b) part)
