-- How long a column, a bar and a line are where the numbers fit: no definition cuts or pads a line to its length.
use Prim.Native.Nat.{ℕ, ◌+◌, ◌-◌, ◌*◌, ◌≤◌, ◌<◌}
use Prim.Native.Char.{code}
use mathlib.Core.Path.{◌≡◌, ◌∙◌, ap}
use mathlib.Core.List.{List, [], ◌∷◌, ◌++◌, append_assoc}
use native.Mathlib.Nat.{div-le_of_le-mul, mul_comm, mul-le-mul_left}
use native.Mathlib.Omega.{arith}
use lib.ListN.{length, replicate, length-append, length-replicate}
use Rattle.decimals.specs.Decimal.{decimal}
use Rattle.decimals.proofs.Digits.{within}
use Rattle.model.specs.Sheet.{space, no_class, aligned, letter_of, bar, bar_width, bar_of, ◌beside◌, columns, free_line, used_line}
use Rattle.sheet_line.specs.Fits.{Fits}
use Rattle.model.specs.Tag as Tag

-- a number of so many digits fits a column of so many characters
pub two_fit : (v : ℕ) → v < 100 → length (decimal v) ≤ 2
two_fit v h = within 1 v h (omega arith)

pub three_fit : (v : ℕ) → v < 1000 → length (decimal v) ≤ 3
three_fit v h = within 2 v h (omega arith)

pub four_fit : (v : ℕ) → v < 10000 → length (decimal v) ≤ 4
four_fit v h = within 3 v h (omega arith)

pub aligned_long : (w v : ℕ) → length (decimal v) ≤ w → length (aligned w v) ≡ w
unfolding aligned
aligned_long w v h = length-append (replicate (w - length (decimal v)) space) (decimal v) ∙ omega (arith, length-replicate (w - length (decimal v)) space)

-- with the space behind it
pub column_long : (w v : ℕ) → length (decimal v) ≤ w → length (aligned w v ++ (space ∷ [])) ≡ w + 1
column_long w v h = length-append (aligned w v) (space ∷ []) ∙ ap (λ (k : ℕ). k + 1) (aligned_long w v h)

-- columns with the space behind each, one after the other
pub in_columns : (x y z : List ℕ) → (x ++ (space ∷ [])) ++ ((y ++ (space ∷ [])) ++ z) ≡ x beside y beside z
in_columns x y z = simp append_assoc

-- the number, then class and letter with the space behind each, then the rest
pub in_line : (number classes : List ℕ) (letter : ℕ) (rest : List ℕ)
    → (number ++ (space ∷ [])) ++ ((classes beside (letter ∷ []) beside []) ++ rest) ≡ number beside classes beside (letter ∷ []) beside rest
in_line number classes letter rest = simp append_assoc

pub state_long : (classes : List ℕ) (letter : ℕ) → length classes ≡ 2 → length (classes beside (letter ∷ []) beside []) ≡ 5
state_long classes letter h = length-append classes (space ∷ letter ∷ space ∷ []) ∙ omega arith

pub bar_long : (n : ℕ) → n ≤ bar_width → length (bar n) ≡ bar_width
unfolding bar
bar_long n h =
    length-append (replicate n (code "#")) (replicate (bar_width - n) (code "."))
    ∙ omega (arith, length-replicate n (code "#"), length-replicate (bar_width - n) (code "."))

-- "the whole part of 32 × in use ÷ blocks" is no more than the bar
pub bar_most : (used blocks : ℕ) → used ≤ blocks → bar_of used blocks ≤ bar_width
bar_most used blocks h = div-le_of_le-mul blocks (let e : bar_width * used ≤ bar_width * blocks = mul-le-mul_left bar_width h in let f = mul_comm bar_width blocks in omega arith)

pub beside_long : (x y : List ℕ) → length (x beside y) ≡ length x + 1 + length y
beside_long x y = length-append x (space ∷ y) ∙ omega arith

module _ (number : ℕ) (classes : List ℕ) (letter used unused : ℕ) (bars : List ℕ) where
  pub columns_long : number < 1000 → length classes ≡ 2 → used < 10000 → unused < 10000 → length bars ≡ bar_width → length (columns number classes letter used unused bars) ≡ 51
  columns_long a b c d e =
      let figures = aligned 4 unused beside bars in
      let rest = aligned 4 used beside figures in
      let state = (letter ∷ []) beside rest in
      omega (
        arith,
        beside_long (aligned 3 number) (classes beside state),
        beside_long classes state,
        beside_long (letter ∷ []) rest,
        beside_long (aligned 4 used) figures,
        beside_long (aligned 4 unused) bars,
        aligned_long 3 number (three_fit number a),
        aligned_long 4 used (four_fit used c),
        aligned_long 4 unused (four_fit unused d),
      )

-- "a line of 51 characters"
pub free_long : (number : ℕ) → number < 1000 → length (free_line number) ≡ 51
unfolding free_line
free_long number h =
    columns_long number no_class (letter_of Tag.free) 0 0 (replicate bar_width (code ".")) h (omega arith) (omega arith) (omega arith) (length-replicate bar_width (code "."))

pub used_long : (number t c used blocks : ℕ) → Fits number c used blocks → length (used_line number t c used blocks) ≡ 51
unfolding used_line
used_long number t c used blocks f =
    let l = f.within in
    let h = f.few in
    columns_long number (aligned 2 c) (letter_of t) used (blocks - used) (bar (bar_of used blocks)) f.number
    (aligned_long 2 c (two_fit c f.class)) (omega arith) (omega arith) (bar_long (bar_of used blocks) (bar_most used blocks l))
