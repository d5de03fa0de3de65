-- Laws of a run of bytes placed in a list: none, one, from the first place on, and two runs one after the other.
use Prim.Native.Nat.{ℕ, ◌+◌, ◌≤◌, ◌<◌}
use mathlib.Core.Path.{◌≡◌, sym, ◌∙◌, ap}
use mathlib.Core.List.{List, [], ◌∷◌, ◌++◌, append_assoc}
use native.Mathlib.Nat.{add-zero, zero-add}
use native.Mathlib.Numerals.{add-one}
use native.Mathlib.Omega.{arith}
use lib.ListN.{length, take, drop, set, length-append, length-drop, take-append-drop}
use lib.Seq.{length-take-le, take_at, drop-append-add, drop-drop, set_split}
use Rattle.decimals.specs.Placed.{placed}

-- nothing placed
pub placed_nil : (l : List ℕ) (at : ℕ) → placed l at [] ≡ l
unfolding placed
placed_nil l at = ap (λ (k : ℕ). take at l ++ drop k l) (add-zero at) ∙ take-append-drop at l

-- one byte is a store
pub placed_one : (l : List ℕ) (at b : ℕ) → at < length l → set l at b ≡ placed l at (b ∷ [])
unfolding placed
placed_one l at b h = set_split l at b h ∙ ap (λ (k : ℕ). take at l ++ b ∷ drop k l) (sym (add-one at))

-- from the first place on
pub placed_front : (l t : List ℕ) → placed l 0 t ≡ t ++ drop (length t) l
unfolding placed
placed_front l t = ap (λ (k : ℕ). t ++ drop k l) (zero-add (length t))

module _ (l : List ℕ) (at : ℕ) (t : List ℕ) (h : at + length t ≤ length l) where
  head_length : length (take at l ++ t) ≡ at + length t
  head_length = length-append (take at l) t ∙ ap (λ (k : ℕ). k + length t) (length-take-le at l (omega arith))

  placed_split : placed l at t ≡ (take at l ++ t) ++ drop (at + length t) l
  unfolding placed
  placed_split = sym (append_assoc (take at l) t (drop (at + length t) l))

  pub length-placed : length (placed l at t) ≡ length l
  length-placed =
      ap length placed_split ∙ length-append (take at l ++ t) (drop (at + length t) l)
      ∙ omega (arith, head_length, length-drop (at + length t) l)

  -- a run is placed in two parts, one after the other
  pub placed_append : (u : List ℕ) → placed l at (t ++ u) ≡ placed (placed l at t) (at + length t) u
  unfolding placed
  placed_append u =
      let p = take at l ++ t in
      let q = drop (at + length t) l in
      let front : take (at + length t) (placed l at t) ≡ p = ap (take (at + length t)) placed_split ∙ take_at p q (at + length t) head_length in
      let e : at + length t + length u ≡ length p + length u = ap (λ (k : ℕ). k + length u) (sym head_length) in
      let f : at + length t + length u ≡ at + length (t ++ u) = omega (arith, length-append t u) in
      let back : drop (at + length t + length u) (placed l at t) ≡ drop (at + length (t ++ u)) l =
      ap (drop (at + length t + length u)) placed_split ∙ ap (λ (k : ℕ). drop k (p ++ q)) e ∙ drop-append-add p q (length u)
      ∙ drop-drop (length u) (at + length t) l ∙ ap (λ (k : ℕ). drop k l) f in
      ap (λ (x : List ℕ). take at l ++ x) (append_assoc t u (drop (at + length (t ++ u)) l))
      ∙ sym (append_assoc (take at l) t (u ++ drop (at + length (t ++ u)) l))
      ∙ sym (ap (λ (x : List ℕ). x ++ (u ++ drop (at + length t + length u) (placed l at t))) front
      ∙ ap (λ (x : List ℕ). p ++ (u ++ x)) back)
