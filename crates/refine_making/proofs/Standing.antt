-- What a make leaves as it was: phase and trace stack, mutators, segments' tags and classes, and blocks in use.
use mathlib.Core.Path.{◌≡◌, refl, sym, ◌∙◌, ap}
use mathlib.Core.Bool.{Bool, true, false, ◌&&◌}
use mathlib.Core.Logic.{◌⊎◌, inl, inr, ⊎_elim}
use mathlib.Core.List.{List}
use Prim.Native.Nat.{ℕ, ◌+◌, ◌-◌, ◌/◌, ◌%◌, ◌≤◌, ◌<◌}
use native.Mathlib.Omega.{arith}
use lib.Dec.{eqb, ltb}
use lib.ListN.{get_or}
use borrow.Author.Tests.{lt-ltb, ltb-true, ne_eqb}
use Rattle.basics.specs.Pick.{pick}
use Rattle.basics.proofs.Order.{same_or_not}
use Rattle.words.specs.Bits.{bit_at}
use Rattle.classes.specs.Class.{first_class, IsClass, block_words}
use Rattle.classes.specs.declared.RecordShape.{RecordShape}
use Rattle.layout.specs.declared.Geometry.{Geometry}
use Rattle.layout.specs.Geometry.{root_count, segment_words, segment_of, mark_bit}
use Rattle.layout.specs.Mem.{Mem, control_word, trace_word}
use Rattle.model.specs.Fields.{phase, trace_count, state_at, acks_at, held_from, state, acks, root, holding, tag, class, place, cursor}
use Rattle.model.specs.Segments.{bitmap, used_bit}
use Rattle.model.specs.Records.{block_of, header_of}
use Rattle.model.specs.Reaching.{is_marked}
use Rattle.model.specs.PhaseNumbers.{phase_of}
use Rattle.refine_view.specs.View.{stack_of, is_head}
use Rattle.model_laws.proofs.Bitmaps.{bitmap_by}
use Rattle.refine_view.proofs.Seeing.{entries_same}
use Rattle.model_laws.proofs.Entries.{holding_by, table_below}
use Rattle.model_laws.proofs.Segments.{used_same}
use Rattle.refine_making.proofs.Request.{Request}
use Rattle.refine_making.proofs.Result.{StillHeld, NowFull, Result}
use Rattle.model.specs.Tag as Tag

module _ (g : Geometry) (m m' : Mem) (k d cl r b : ℕ) (shape : RecordShape) (q : Request g m k d cl r b shape) (a : Result g m m' k d cl r b shape) where
  -- ---- control and the trace stack

  pub phase_same : phase m' ≡ phase m
  phase_same = ap (λ (ws : List ℕ). phase_of (get_or ws 0 0)) a.control

  pub phase_word : control_word m' 0 ≡ control_word m 0
  phase_word = ap (λ (ws : List ℕ). get_or ws 0 0) a.control

  pub count_same : trace_count m' ≡ trace_count m
  count_same = ap (λ (ws : List ℕ). get_or ws 1 0) a.control

  pub cursor_same : cursor m' ≡ cursor m
  cursor_same = ap (λ (ws : List ℕ). get_or ws 2 0) a.control

  pub trace_same : (i : ℕ) → trace_word m' i ≡ trace_word m i
  trace_same i = ap (λ (ws : List ℕ). get_or ws i 0) a.trace

  pub stack_same : stack_of m' (trace_count m') ≡ stack_of m (trace_count m)
  stack_same = ap (stack_of m') count_same ∙ entries_same m m' (trace_count m) (λ i l. trace_same i)

  -- ---- mutators

  pub state_same : (j : ℕ) → state m' j ≡ state m j
  state_same j = let w = q.within in a.words j state_at (omega arith) (λ x y. omega arith) (λ x y. omega arith)

  pub acks_same : (j : ℕ) → acks m' j ≡ acks m j
  acks_same j = let w = q.within in a.words j acks_at (omega arith) (λ x y. omega arith) (λ x y. omega arith)

  pub root_same : (j i : ℕ) → i < root_count → (j ≡ k → i ≡ d → ⊥) → root m' j i ≡ root m j i
  root_same j i l f = a.words j i (omega arith) (λ x y. omega arith) f

  pub holding_same : (j c : ℕ) → IsClass c → (j ≡ k → c ≡ cl → ⊥) → holding m' j c ≡ holding m j c
  holding_same j c i f =
      let u = i.0 in
      let x = q.is_class.0 in
      let w = q.within in
      holding_by m m' j c (a.words j (held_from + (c - first_class)) (table_below c i) (λ x y. f x (omega arith)) (λ x y. omega arith))

  -- ---- segments

  pub class_there : class m' r ≡ cl
  class_there = go a.segment
    where
      go : StillHeld g m m' k cl r b ⊎ NowFull g m m' k cl r b → class m' r ≡ cl
      go (inl x) = x.recorded.class
      go (inr x) = x.recorded.class

  pub tag_there : (Tag.held ≤ tag m' r) × (tag m' r ≤ Tag.full)
  tag_there = go a.segment
    where
      go : StillHeld g m m' k cl r b ⊎ NowFull g m m' k cl r b → (Tag.held ≤ tag m' r) × (tag m' r ≤ Tag.full)
      go (inl x) = let e = x.recorded.tag in (omega arith, omega arith)
      go (inr x) = let e = x.recorded.tag in (omega arith, omega arith)

  -- the block lies before the new place
  pub place_there : b < place m' r
  place_there = go a.segment
    where
      go : StillHeld g m m' k cl r b ⊎ NowFull g m m' k cl r b → b < place m' r
      go (inl x) = let e = x.recorded.place in omega arith
      go (inr x) = let e = x.recorded.place in let l = q.below in omega arith

  pub class_same : (x : ℕ) → class m' x ≡ class m x
  class_same x = go (same_or_not x r)
    where
      go : (x ≡ r) ⊎ (x ≡ r → ⊥) → class m' x ≡ class m x
      go (inl e) = ap (class m') e ∙ class_there ∙ sym q.of_class ∙ ap (class m) (sym e)
      go (inr f) = (a.others x f).class

  -- a tag that is not of a held or of a full segment stays
  pub tag_test : (t x : ℕ) → (t ≡ 2 → ⊥) → (t ≡ 3 → ⊥) → eqb (tag m' x) t ≡ eqb (tag m x) t
  tag_test t x y z = go (same_or_not x r)
    where
      go : (x ≡ r) ⊎ (x ≡ r → ⊥) → eqb (tag m' x) t ≡ eqb (tag m x) t
      go (inl e) =
          let u : tag m' x ≡ tag m' r = ap (tag m') e in
          let v : tag m x ≡ tag m r = ap (tag m) e in
          let h = q.is_held in
          let i = tag_there.0 in
          let j = tag_there.1 in
          ne_eqb (tag m' x) t (λ w. ⊎_elim (λ x. y x) (λ x. z (omega arith)) (same_or_not t 2)) ∙ sym (ne_eqb (tag m x) t (λ w. y (omega arith)))
      go (inr f) = ap (λ w. eqb w t) (a.others x f).tag

  pub tag_back : (x : ℕ) → tag m' x ≡ Tag.condemned → (tag m x ≡ Tag.condemned) × (x ≡ r → ⊥)
  tag_back x e = go (same_or_not x r)
    where
      go : (x ≡ r) ⊎ (x ≡ r → ⊥) → (tag m x ≡ Tag.condemned) × (x ≡ r → ⊥)
      go (inl i) = let u : tag m' x ≡ tag m' r = ap (tag m') i in let j = tag_there.1 in absurd (omega arith)
      go (inr f) = (sym (a.others x f).tag ∙ e, f)

  -- a segment in use stays so
  pub tag_used : (x : ℕ) → (tag m x ≡ Tag.free → ⊥) → tag m' x ≡ Tag.free → ⊥
  tag_used x y e = go (same_or_not x r)
    where
      go : (x ≡ r) ⊎ (x ≡ r → ⊥) → ⊥
      go (inl i) = let u : tag m' x ≡ tag m' r = ap (tag m') i in let j = tag_there.0 in omega arith
      go (inr f) = y (sym (a.others x f).tag ∙ e)

  -- ---- blocks

  pub bitmap_same : (x : ℕ) → bitmap g m' x ≡ bitmap g m x
  bitmap_same = bitmap_by g m m' a.bitmaps

  pub head_same : (x : ℕ) → is_head g m' x ≡ is_head g m x
  head_same x = ap (λ c. eqb (x % segment_words g % block_words c) 0) (class_same (segment_of g x))

  pub block_same : (x : ℕ) → block_of g m' x ≡ block_of g m x
  block_same x = ap (λ c. x % segment_words g / block_words c) (class_same (segment_of g x))

  used_before : (x i : ℕ) → i < place m' x → used_bit g m' x i ≡ 1
  used_before x i l = rw (lt-ltb i (place m' x) l) refl

  pub used_there : used_bit g m' r b ≡ 1
  used_there = used_before r b place_there

  -- a block in use stays so
  pub used_on : (x i : ℕ) → used_bit g m x i ≡ 1 → used_bit g m' x i ≡ 1
  used_on x i e = go (same_or_not x r) (ltb i (place m x)) refl e
    where
      go : (x ≡ r) ⊎ (x ≡ r → ⊥) → (t : Bool) → ltb i (place m x) ≡ t → pick t 1 (bit_at (bitmap g m x) i) ≡ 1 → used_bit g m' x i ≡ 1
      go (inl z) true y w =
          let l = ltb-true i (place m x) y in
          let u : place m' x ≡ place m' r = ap (place m') z in
          let v : place m x ≡ place m r = ap (place m) z in
          let s = place_there in
          let f = q.after in
          used_before x i (omega arith)
      go (inl z) false y w = bit (ltb i (place m' x))
        where
          bit : (t : Bool) → pick t 1 (bit_at (bitmap g m' x) i) ≡ 1
          bit true = refl
          bit false = ap (λ ws. bit_at ws i) (bitmap_same x) ∙ w
      go (inr f) t y w = used_same g m m' x i (a.others x f).place (bitmap_same x) ∙ e

  -- the head of another block has another bit
  pub mark_same : (x : ℕ) → (is_head g m x ≡ true → mark_bit x ≡ mark_bit (header_of g r cl b) → ⊥) → (is_head g m' x && is_marked g m' x) ≡ (is_head g m x && is_marked g m x)
  mark_same x f = ap (λ z. z && is_marked g m' x) (head_same x) ∙ go (is_head g m x) refl
    where
      go : (y : Bool) → is_head g m x ≡ y → (y && is_marked g m' x) ≡ (y && is_marked g m x)
      go false e = refl
      go true e = rw (a.trace, count_same, a.marks (mark_bit x) (f e)) refl
