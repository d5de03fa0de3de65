-- A block of a segment holds the record that is written there: its words are words of the heap, and a word can name it.
use mathlib.Core.Path.{◌≡◌, sym, ◌∙◌, ap}
use Prim.Native.Nat.{ℕ, ◌+◌, ◌*◌, ◌/◌, ◌%◌, ◌^◌, ◌≤◌, ◌<◌}
use native.Mathlib.Nat.{mod-lt, mod-eq_of_lt, div-add-mod', add-mul, mul_assoc, mul-add-mod_self_right, mul-le-mul, mul-le-mul_right}
use native.Mathlib.Omega.{arith}
use Rattle.classes.specs.Class.{IsClass, block_words}
use Rattle.classes.specs.Record.{field_count_of, class_of_record}
use Rattle.classes.specs.declared.RecordShape.{RecordShape}
use Rattle.std.specs.Prelude.{Some}
use Rattle.classes.proofs.Filling.{two_words}
use Rattle.classes.proofs.Smallest.{class_found, class_holds}
use Rattle.layout.specs.declared.Geometry.{Geometry}
use Rattle.layout.specs.Geometry.{max_segments, segment_words, most_blocks, blocks_in, len}
use Rattle.layout.proofs.Sizes.{heap_most, marks_words, most_small}
use Rattle.model.specs.Records.{header_of}
use Rattle.model_laws.proofs.Blocks.{blocks_words, block_within, blocks_most, blocks_some, header_inside}
use Rattle.layout.specs.Region as Region

pub of_class_lem : (shape : RecordShape) (c : ℕ) → class_of_record shape ≡ Some c → IsClass c
of_class_lem shape c e = class_found (field_count_of shape) c e

pub block_small : (g : Geometry) (c b : ℕ) → IsClass c → b < blocks_in g c → (b < most_blocks g) × (b < 2 ^ 12)
block_small g c b i l = let m = blocks_most g c i in let n = most_small g in (omega arith, omega arith)

-- ---- block b of whatever number, taken below the blocks of class c

-- rows of w words, n of them
rows : (n w b : ℕ) → b % n * w < n * w → b * w % (n * w) ≡ b % n * w
rows n w b l =
    let e : b * w ≡ b / n * (n * w) + b % n * w = ap (λ z. z * w) (sym (div-add-mod' b n)) ∙ add-mul (b / n * n) (b % n) w ∙ ap (λ z. z + b % n * w) (mul_assoc (b / n) n w) in
    ap (λ z. z % (n * w)) e ∙ mul-add-mod_self_right (b / n) (n * w) (b % n * w) ∙ mod-eq_of_lt l

-- w is the words of a block of class c
module _ (g : Geometry) (c b w : ℕ) (i : IsClass c) (ew : w ≡ block_words c) where
  pub block_under : b % blocks_in g c < blocks_in g c
  block_under = mod-lt b (blocks_some g c i)

  within : b % blocks_in g c * block_words c < segment_words g
  within = let a = block_within g c i (b % blocks_in g c) block_under in let p = two_words c i in omega arith

  -- its words, where b has 32 bits
  pub words_small : b < 2 ^ 32 → b * w < 2 ^ 60
  words_small l =
      let a : 1 * block_words c ≤ blocks_in g c * block_words c = mul-le-mul_right (block_words c) (blocks_some g c i) in
      let e = blocks_words g c i in
      let f = marks_words g 1 in
      let n = most_small g in
      let h : b * block_words c ≤ 2 ^ 32 * 2 ^ 13 = mul-le-mul {n₁ = b} {m₁ = block_words c} {n₂ = 2 ^ 32} {m₂ = 2 ^ 13} (omega arith) (omega arith) in
      rw ew (omega arith)

  pub offset_is : b * w % segment_words g ≡ b % blocks_in g c * block_words c
  offset_is = rw (ew, ← blocks_words g c i) (rows (blocks_in g c) (block_words c) b (let l = within in let e = blocks_words g c i in omega arith))

  pub offset_in : b * w % segment_words g < segment_words g
  offset_in = let l = within in let e = offset_is in omega arith

-- ---- the record of a shape of class c at the word of block b, one of the segment's

pub record_in : (g : Geometry) (c s b : ℕ) (shape : RecordShape) → class_of_record shape ≡ Some c → b < blocks_in g c → s < g.segments → (at : ℕ) → at ≡ header_of g s c b
    → at + 1 + field_count_of shape ≤ len g Region.heap
record_in g c s b shape sized l h at e =
    let a = header_inside g c (of_class_lem shape c sized) s b l h in
    let f = class_holds (field_count_of shape) c sized in
    omega arith

pub name_fits : (g : Geometry) → g.segments ≤ max_segments → (at : ℕ) → at < len g Region.heap → at < 2 ^ 21
name_fits g few at l = let d = heap_most g few in omega arith
