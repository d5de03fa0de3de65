-- The record is written into its block and named by the root: the words of the heap and of the mutators.
use mathlib.Core.Path.{◌≡◌, ◌∙◌, ap}
use mathlib.Core.Logic.{inl, inr}
use mathlib.Core.List.{List}
use Prim.Native.Nat.{ℕ, suc, ◌+◌, ◌-◌, ◌*◌, ◌≤◌, ◌<◌}
use native.Mathlib.Omega.{arith}
use lib.ListN.{length, set, get_or, replicate, length-set, length-replicate, get_or-replicate}
use lib.Seq.{get_or-set_same, get_or-set_other}
use Rattle.classes.specs.Class.{first_class}
use Rattle.classes.specs.declared.RecordShape.{RecordShape}
use Rattle.classes.specs.Record.{field_count_of}
use Rattle.layout.specs.declared.Geometry.{Geometry}
use Rattle.layout.specs.Geometry.{mutator_words}
use Rattle.layout.specs.Mem.{Mem, mutator_word, heap_word, spliced}
use Rattle.theory.specs.Phases.{black}
use Rattle.model.specs.Fields.{phase, acks_at, held_from, acks, holding}
use Rattle.model.specs.Records.{header_of, written, header_word}
use Rattle.model.specs.PhaseNumbers.{phase_of}
use Rattle.model_laws.proofs.Windows.{spliced_in, spliced_out}
use Rattle.model_laws.proofs.Blocks.{header_inside}
use Rattle.refine_making.proofs.Request.{Request}
use Rattle.refine_making.proofs.Result.{Moved}

module _ (g : Geometry) (m : Mem) (k d cl r b : ℕ) (shape : RecordShape) (q : Request g m k d cl r b shape) (m₁ : Mem) (v : Moved g m m₁ k cl r b) where
  abbrev pub h : ℕ
  h = header_of g r cl b

  abbrev pub m₂ : Mem
  m₂ = written m₁ h shape

  -- ---- the words of the heap

  inside : h + (1 + (field_count_of shape)) ≤ length m₁.heap
  inside = let z = v.sizes.heap in let a = header_inside g cl q.is_class r b q.below q.inside in let f = q.fits in omega arith

  zeros : length {A = ℕ} (replicate (field_count_of shape) 0) ≡ field_count_of shape
  zeros = length-replicate {A = ℕ} (field_count_of shape) 0

  abbrev pub written_heap : List ℕ
  written_heap = spliced (set m₁.heap h (header_word shape)) (h + 1) (replicate (field_count_of shape) 0)

  pub at_header : get_or written_heap h 0 ≡ header_word shape
  at_header = spliced_out (replicate (field_count_of shape) 0) _ (h + 1) h (inl (omega arith)) ∙ get_or-set_same m₁.heap h (header_word shape) 0 (let z = inside in omega arith)

  pub at_field : (i : ℕ) → i < field_count_of shape → get_or written_heap (h + 1 + i) 0 ≡ 0
  at_field i l =
      let z = inside in
      let y = length-set m₁.heap h (header_word shape) in
      let w = zeros in
      spliced_in (replicate (field_count_of shape) 0) (set m₁.heap h (header_word shape)) (h + 1) i (omega arith) (omega arith)
      ∙ get_or-replicate (field_count_of shape) i 0 0 l

  old_word : (i : ℕ) → get_or m₁.heap i 0 ≡ heap_word m i
  old_word i = ap (λ (ws : List ℕ). get_or ws i 0) v.heap

  pub at_before : (i : ℕ) → i < h → get_or written_heap i 0 ≡ heap_word m i
  at_before i l = spliced_out (replicate (field_count_of shape) 0) _ (h + 1) i (inl (omega arith)) ∙ get_or-set_other m₁.heap h i (header_word shape) 0 (λ e. omega arith) ∙ old_word i

  pub at_behind : (i : ℕ) → h + field_count_of shape < i → get_or written_heap i 0 ≡ heap_word m i
  at_behind i l = spliced_out (replicate (field_count_of shape) 0) _ (h + 1) i (inr (let z = zeros in omega arith)) ∙ get_or-set_other m₁.heap h i (header_word shape) 0 (λ e. omega arith) ∙ old_word i

  -- ---- the words of the mutators

  abbrev pub rooted : List ℕ
  rooted = set m₁.mutators (k * mutator_words + d) (suc h)

  pub at_root : get_or rooted (k * mutator_words + d) 0 ≡ suc h
  at_root = let z = v.sizes.mutators in let a = q.few in let e = q.within in get_or-set_same m₁.mutators (k * mutator_words + d) (suc h) 0 (omega arith)

  not_root : (j o : ℕ) → o < mutator_words → (j ≡ k → o ≡ d → ⊥) → get_or rooted (j * mutator_words + o) 0 ≡ mutator_word m₁ (j * mutator_words + o)
  not_root j o l f = let e = q.within in get_or-set_other m₁.mutators (k * mutator_words + d) (j * mutator_words + o) (suc h) 0 (λ e. f (omega arith) (omega arith))

  pub still_held : get_or rooted (k * mutator_words + held_from + (cl - first_class)) 0 ≡ holding m₁ k cl
  still_held =
      let a = q.within in
      let b = q.is_class.0 in
      get_or-set_other m₁.mutators (k * mutator_words + d) (k * mutator_words + held_from + (cl - first_class)) (suc h) 0 (λ e. omega arith)

  pub words_on : (j o : ℕ) → o < mutator_words → (j ≡ k → o ≡ held_from + (cl - first_class) → ⊥) → (j ≡ k → o ≡ d → ⊥) → get_or rooted (j * mutator_words + o) 0 ≡ mutator_word m (j * mutator_words + o)
  words_on j o l f e = not_root j o l e ∙ v.words j o l f

  pub black_same : black (phase m₁) (acks m₁ k) ≡ black (phase m) (acks m k)
  black_same =
      let a : acks m₁ k ≡ acks m k = v.words k acks_at (omega arith) (λ x y. omega arith) in
      ap (λ (ws : List ℕ). black (phase_of (get_or ws 0 0)) (acks m₁ k)) v.control ∙ ap (black (phase m)) a
