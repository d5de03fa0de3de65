-- Each call on a field: refused as its mutator and roots stand, reaching the record in its root, and done.
use mathlib.Core.Path.{◌≡◌, refl, sym, ◌∙◌, ap}
use mathlib.Core.Bool.{false}
use mathlib.Core.Logic.{inr}
use mathlib.Core.List.{List}
use Prim.Native.Nat.{ℕ}
use lib.ListN.{length}
use Rattle.classes.specs.declared.RecordShape.{RecordShape}
use Rattle.layout.specs.declared.Geometry.{Geometry}
use Rattle.layout.specs.Geometry.{wrong_size}
use Rattle.layout.specs.Mem.{Mem, mem_of, heap_word, set_heap}
use Rattle.theory.specs.Calls.{c_load, c_get, c_put, c_shape, a_ok, a_num, a_shape, if_root, pointer?, value?}
use Rattle.std.specs.Prelude.{Ok, Err}
use Rattle.model.specs.declared.Answer.TheVariants.{Done, Number, Shape}
use Rattle.model.specs.declared.Refusal.{Refusal}
use Rattle.model.specs.Refusals.{number_of}
use Rattle.model.specs.Fields.{set_root}
use Rattle.model.specs.Records.{InHalves, pointer, value, set_value, shape_of}
use Rattle.model.specs.Calls.{act}
use Rattle.model.specs.Promise.{Promise}
use Rattle.model_laws.proofs.Promised.{done}
use Rattle.model_laws.proofs.Reaching.{Names, Reaches, by_test}
use Rattle.mutators.specs.Inside.{inside_then}
use Rattle.mutators.proofs.Inside.{refused_at, reaches_at, refused_with, reaches_with}
use Rattle.records.specs.FieldWords.{pointer_at, value_at}
use Rattle.records.proofs.Found.{pointer_found, value_found}
use Rattle.records.proofs.Reaching.{pointer_0, value_0}

-- ---- n is the refusal of the mutator and its roots: it refuses the call, or the call reaches the record

module _ (g : Geometry) (xs : List ℕ) (k d i f n : ℕ) (e : wrong_size g (length xs) ≡ false) (s : n ≡ inside_then (mem_of g xs) k (if_root d (if_root i 0))) where
  pub load_refused : (w : Refusal) → number_of w ≡ n → Promise (c_load k d i f) g xs (Err w) xs
  unfolding inside_then
  load_refused = refused_with g xs k d i n s (c_load k d i f) e i (pointer? f) refl

  pub load_reaches : n ≡ 0 → Reaches (c_load k d i f) g xs k i (pointer? f)
  unfolding inside_then
  load_reaches z = reaches_with g xs k d i n s (c_load k d i f) e i (pointer? f) refl z (inr refl)

module _ (g : Geometry) (xs : List ℕ) (k i n : ℕ) (e : wrong_size g (length xs) ≡ false) (s : n ≡ inside_then (mem_of g xs) k (if_root i 0)) where
  pub get_refused : (f : ℕ) → (w : Refusal) → number_of w ≡ n → Promise (c_get k i f) g xs (Err w) xs
  unfolding inside_then
  get_refused f = refused_at g xs k i n s (c_get k i f) e (value? f) refl

  pub get_reaches : (f : ℕ) → n ≡ 0 → Reaches (c_get k i f) g xs k i (value? f)
  unfolding inside_then
  get_reaches f = reaches_at g xs k i n s (c_get k i f) e (value? f) refl

  pub put_refused : (f v : ℕ) → (w : Refusal) → number_of w ≡ n → Promise (c_put k i f v) g xs (Err w) xs
  unfolding inside_then
  put_refused f v = refused_at g xs k i n s (c_put k i f v) e (value? f) refl

  pub put_reaches : (f v : ℕ) → n ≡ 0 → Reaches (c_put k i f v) g xs k i (value? f)
  unfolding inside_then
  put_reaches f v = reaches_at g xs k i n s (c_put k i f v) e (value? f) refl

  pub shape_refused : (w : Refusal) → number_of w ≡ n → Promise (c_shape k i) g xs (Err w) xs
  unfolding inside_then
  shape_refused = refused_at g xs k i n s (c_shape k i) e (λ _. 0) refl

  pub shape_reaches : n ≡ 0 → Reaches (c_shape k i) g xs k i (λ _. 0)
  unfolding inside_then
  shape_reaches = reaches_at g xs k i n s (c_shape k i) e (λ _. 0) refl

-- ---- done

module _ (g : Geometry) (xs : List ℕ) (k i at : ℕ) where
  abbrev m : Mem
  m = mem_of g xs

  load_acts : (d f : ℕ) → Names g xs k i at → act g m (c_load k d i f) ≡ (a_ok, set_root m k d (pointer m at f))
  unfolding act
  load_acts d f w = rw w.word refl

  pub load_done : (d f p v : ℕ) (ys : List ℕ) → Reaches (c_load k d i f) g xs k i (pointer? f) → Names g xs k i at
      → Ok p ≡ pointer_at g m at f → v ≡ heap_word m p → mem_of g ys ≡ set_root m k d v → Promise (c_load k d i f) g xs (Ok Done) ys
  load_done d f p v ys q w s u y =
      let t = pointer_found g m at f p s in
      done (c_load k d i f) g xs q.size (pointer_0 (c_load k d i f) g xs k i f at w q p s) refl refl
      (sym (ap (λ a. a.0) (load_acts d f w)))
      (y ∙ ap (set_root m k d) (u ∙ ap (heap_word m) t.is) ∙ sym (ap (λ a. a.1) (load_acts d f w)))

  get_acts : (f : ℕ) → Names g xs k i at → act g m (c_get k i f) ≡ (a_num (value m at f), m)
  unfolding act
  get_acts f w = rw w.word refl

  pub get_done : (f p v : ℕ) → Reaches (c_get k i f) g xs k i (value? f) → Names g xs k i at
      → Ok p ≡ value_at g m at f → v ≡ heap_word m p → Promise (c_get k i f) g xs (Ok (Number v)) xs
  get_done f p v q w s u =
      let t = value_found g m at f p s in
      done (c_get k i f) g xs q.size (value_0 (c_get k i f) g xs k i f at w q p s) (v, refl) refl
      (ap a_num (u ∙ ap (heap_word m) t.is) ∙ sym (ap (λ a. a.0) (get_acts f w)))
      (sym (ap (λ a. a.1) (get_acts f w)))

  put_acts : (f v : ℕ) → Names g xs k i at → act g m (c_put k i f v) ≡ (a_ok, set_value m at f v)
  unfolding act
  put_acts f v w = rw w.word refl

  pub put_done : (f v p : ℕ) (ys : List ℕ) → Reaches (c_put k i f v) g xs k i (value? f) → Names g xs k i at
      → Ok p ≡ value_at g m at f → mem_of g ys ≡ set_heap m p v → Promise (c_put k i f v) g xs (Ok Done) ys
  put_done f v p ys q w s y =
      let t = value_found g m at f p s in
      done (c_put k i f v) g xs q.size (value_0 (c_put k i f v) g xs k i f at w q p s) refl refl
      (sym (ap (λ a. a.0) (put_acts f v w)))
      (y ∙ ap (λ x. set_heap m x v) t.is ∙ sym (ap (λ a. a.1) (put_acts f v w)))

  shape_acts : Names g xs k i at → act g m (c_shape k i) ≡ (a_shape (shape_of m at), m)
  unfolding act
  shape_acts w = rw w.word refl

  pub shape_done : (s : RecordShape) → Reaches (c_shape k i) g xs k i (λ _. 0) → Names g xs k i at → s ≡ shape_of m at → InHalves s → Promise (c_shape k i) g xs (Ok (Shape s)) xs
  shape_done s q w u h =
      done (c_shape k i) g xs q.size (by_test (c_shape k i) g xs k i (λ _. 0) q at w 0 refl) (s, refl, h) refl
      (ap a_shape u ∙ sym (ap (λ a. a.0) (shape_acts w)))
      (sym (ap (λ a. a.1) (shape_acts w)))
