-- A record's header: the shape that it says stays with its word, and is the one that was written.
use mathlib.Core.Path.{◌≡◌, ap}
use Prim.Native.Nat.{ℕ, ◌/◌, ◌%◌}
use native.Mathlib.Omega.{arith}
use Rattle.classes.specs.Record.{of_counts, pointer_count_of, value_count_of, field_count_of, class_of_record}
use Rattle.classes.specs.declared.RecordShape.{RecordShape}
use Rattle.std.specs.Prelude.{Some}
use Rattle.classes.proofs.Smallest.{class_most}
use Rattle.layout.specs.Mem.{Mem, heap_word}
use Rattle.model.specs.Records.{half_word, InHalves, header_word, header_shape, shape_of}

pub shape_by : (m m' : Mem) (x : ℕ) → heap_word m' x ≡ heap_word m x → shape_of m' x ≡ shape_of m x
shape_by m m' x e = ap header_shape e

-- a record that has a class, and so few fields, fits a header
pub class_halves : (s : RecordShape) (c : ℕ) → class_of_record s ≡ Some c → InHalves s
class_halves s c e = let l = class_most (field_count_of s) c e in (omega arith, omega arith)

pub shape_halves : (s : RecordShape) → InHalves s → header_shape (header_word s) ≡ s
unfolding header_shape
shape_halves s h =
    let a = h.0 in
    let b = h.1 in
    let p : header_word s / half_word ≡ pointer_count_of s = omega arith in
    let n : header_word s % half_word ≡ value_count_of s = omega arith in
    λ i. of_counts (p i) (n i)

pub shape_written : (s : RecordShape) (c : ℕ) → class_of_record s ≡ Some c → header_shape (header_word s) ≡ s
shape_written s c e = shape_halves s (class_halves s c e)
