-- The words of two blocks lie apart: a word of one is a word of the other only where the blocks are one; so for records.
use mathlib.Core.Path.{◌≡◌, sym, ap, subst}
use Prim.Native.Nat.{ℕ, ◌+◌, ◌*◌, ◌%◌, ◌≤◌, ◌<◌}
use native.Mathlib.Nat.{div-add-mod'}
use native.Mathlib.Omega.{arith}
use Rattle.classes.specs.Class.{IsClass, block_words}
use Rattle.classes.proofs.Smallest.{class_found, class_holds}
use Rattle.layout.specs.declared.Geometry.{Geometry}
use Rattle.layout.specs.Geometry.{segment_words, segment_of}
use Rattle.layout.specs.Mem.{Mem}
use Rattle.model.specs.Fields.{class}
use Rattle.model.specs.Records.{pointer_count, value_count, block_of}
use Rattle.model.specs.Consistent.{RecordOk}
use Rattle.layout.proofs.Sizes.{one_way, within, segment_below}
use Rattle.model_laws.proofs.Blocks.{of_block, block_within}

module _ (g : Geometry) (m : Mem) where
  -- the words of a block are words of its segment
  pub head_within : (at : ℕ) → IsClass (class m (segment_of g at)) → at % segment_words g % block_words (class m (segment_of g at)) ≡ 0 → (i : ℕ)
      → i < block_words (class m (segment_of g at)) → at % segment_words g + i < segment_words g
  head_within at k a i l =
      let e = div-add-mod' (at % segment_words g) (block_words (class m (segment_of g at))) in
      let b = block_within g (class m (segment_of g at)) k (block_of g m at) (of_block g m at k) in
      omega arith

  pub heads_apart : (x y : ℕ) → IsClass (class m (segment_of g x)) → IsClass (class m (segment_of g y))
      → x % segment_words g % block_words (class m (segment_of g x)) ≡ 0 → y % segment_words g % block_words (class m (segment_of g y)) ≡ 0
      → (i j : ℕ) → i < block_words (class m (segment_of g x)) → j < block_words (class m (segment_of g y)) → x + i ≡ y + j → x ≡ y
  heads_apart x y k n r q i j l h e =
      let a = head_within x k r i l in
      let b = head_within y n q j h in
      let dx = div-add-mod' x (segment_words g) in
      let dy = div-add-mod' y (segment_words g) in
      let p = one_way (segment_words g) (segment_of g x) (x % segment_words g + i) (segment_of g y) (y % segment_words g + j) a b (omega arith) in
      let s : segment_of g x ≡ segment_of g y = p.0 in
      let w : x % segment_words g + i ≡ y % segment_words g + j = p.1 in
      let u = div-add-mod' (x % segment_words g) (block_words (class m (segment_of g x))) in
      let v = div-add-mod' (y % segment_words g) (block_words (class m (segment_of g y))) in
      let c : class m (segment_of g y) ≡ class m (segment_of g x) = ap (class m) (sym s) in
      let h' : j < block_words (class m (segment_of g x)) = subst (λ z. j < block_words z) c h in
      let v' : block_of g m y * block_words (class m (segment_of g x)) ≡ y % segment_words g = subst (λ z. block_of g m y * block_words z ≡ y % segment_words g) c (omega arith) in
      let o = one_way (block_words (class m (segment_of g x))) (block_of g m x) i (block_of g m y) j l h' (omega arith) in
      let t : i ≡ j = o.1 in
      omega arith

  -- a record's segment has a class, and header and fields are words of its block
  pub class_of : (at : ℕ) → RecordOk g m at → IsClass (class m (segment_of g at))
  class_of at r = class_found (pointer_count m at + value_count m at) (class m (segment_of g at)) r.sized

  field_in : (at : ℕ) → RecordOk g m at → (i : ℕ) → i ≤ pointer_count m at + value_count m at → i < block_words (class m (segment_of g at))
  field_in at r i l = let z = class_holds (pointer_count m at + value_count m at) (class m (segment_of g at)) r.sized in omega arith

  pub fields_apart : (x y : ℕ) → RecordOk g m x → RecordOk g m y → (i j : ℕ) → i ≤ pointer_count m x + value_count m x → j ≤ pointer_count m y + value_count m y → x + i ≡ y + j → x ≡ y
  fields_apart x y r q i j l h e = heads_apart x y (class_of x r) (class_of y q) r.aligned q.aligned i j (field_in x r i l) (field_in y q j h) e

  pub field_inside : (at : ℕ) → RecordOk g m at → (i : ℕ) → i ≤ pointer_count m at + value_count m at → at + i < g.segments * segment_words g
  field_inside at r i l =
      let a = head_within at (class_of at r) r.aligned i (field_in at r i l) in
      let d = div-add-mod' at (segment_words g) in
      let w = within (segment_words g) (segment_of g at) g.segments (at % segment_words g + i) (segment_below g at r.inside) a in
      omega arith
