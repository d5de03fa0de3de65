-- The live records of a segment that is swept: they are marked, so the segment is not freed and their blocks stay in use.
use mathlib.Core.Path.{◌≡◌, sym, ◌∙◌, ap, subst}
use mathlib.Core.Logic.{◌⊎◌, inl, inr}
use mathlib.Core.List.{List}
use Prim.Native.Nat.{ℕ, ◌<◌}
use native.Mathlib.Omega.{arith}
use lib.ListN.{get_or}
use Rattle.basics.proofs.Order.{same_or_not}
use Rattle.layout.specs.Geometry.{blocks_in, segment_of}
use Rattle.layout.specs.declared.Geometry.{Geometry}
use Rattle.layout.specs.Mem.{Mem, control_word, Sizes}
use Rattle.theory.specs.Phases.{sweep}
use Rattle.model.specs.PhaseNumbers.{phase_of}
use Rattle.model.specs.Fields.{phase, trace_count, tag, class}
use Rattle.model.specs.Segments.{used_bit}
use Rattle.model.specs.Records.{block_of, header_of, entered, marked}
use Rattle.model.specs.Reaching.{Live}
use Rattle.classes.specs.Class.{IsClass}
use Rattle.model.specs.Consistent.{InPhase}
use Rattle.refine_view.specs.Refines.{Ordered}
use Rattle.model_laws.proofs.Blocks.{of_block, is_header}
use Rattle.model_laws.proofs.Marked.{marked_entered}
use Rattle.model_laws.proofs.Segments.{used_same}
use Rattle.refine_sweep.proofs.Frames.{live_reached, live_before}
use Rattle.refine_sweep.proofs.Outcome.{Outcome}
use Rattle.model.specs.Tag as Tag

module _ (g : Geometry) (m : Mem) (s : Sizes g m) (c : Ordered g m) (ph : phase m ≡ sweep) (m' : Mem) (r : ℕ) (l : r < g.segments) (t : tag m r ≡ Tag.condemned) (o : Outcome g m m' r) where
  in_sweep : InPhase sweep g m
  in_sweep = subst (λ p. InPhase p g m) ph c.cycle

  pub control_same : (i : ℕ) → control_word m' i ≡ control_word m i
  control_same i = ap (λ (z : List ℕ). get_or z i 0) o.left.control

  pub empty : trace_count m ≡ 0
  empty = in_sweep.0

  pub empty_after : trace_count m' ≡ 0
  empty_after = control_same 1 ∙ empty

  pub phase_after : phase m' ≡ sweep
  phase_after = ap phase_of (control_same 0) ∙ ph

  pub live_was : {x : ℕ} → Live m' x → Live m x
  live_was p = live_before m m' empty empty_after o.left.mutators o.left.heap p

  -- a live record of the segment is marked
  pub live_marked : (x : ℕ) → Live m x → segment_of g x ≡ r → marked g m x ≡ 1
  live_marked x p e = in_sweep.2 x (live_reached m m' empty empty_after p) (ap (tag m) e ∙ t)

  pub class_swept : IsClass (class m r)
  class_swept = (c.segments r l).classes (λ z. let y = t in omega arith)

  -- by the header word of its block
  live_bit : (x : ℕ) → Live m x → segment_of g x ≡ r → entered g m (header_of g r (class m r) (block_of g m x)) ≡ 1
  live_bit x p e =
      let is : x ≡ header_of g r (class m r) (block_of g m x) =
      is_header g m x (subst (λ z. IsClass (class m z)) (sym e) class_swept) (c.records x p).aligned
      ∙ ap (λ z. header_of g z (class m z) (block_of g m x)) e in
      subst (λ z. entered g m z ≡ 1) is (marked_entered g m x (live_marked x p e))

  -- so its segment is not freed, and its block stays in use
  pub segment_kept : (x : ℕ) → Live m x → segment_of g x ≡ r → tag m' r ≡ Tag.free → ⊥
  segment_kept x p e = o.kept (block_of g m x) (subst (λ z. block_of g m x < blocks_in g (class m z)) e (of_block g m x (subst (λ z. IsClass (class m z)) (sym e) class_swept))) (live_bit x p e)

  pub class_same : (x : ℕ) → Live m x → class m' (segment_of g x) ≡ class m (segment_of g x)
  class_same x p = go (same_or_not (segment_of g x) r)
    where
      go : (segment_of g x ≡ r) ⊎ (segment_of g x ≡ r → ⊥) → class m' (segment_of g x) ≡ class m (segment_of g x)
      go (inl e) = ap (class m') e ∙ o.classed (segment_kept x p e) ∙ sym (ap (class m) e)
      go (inr d) = (o.left.other (segment_of g x) d).class

  pub used_other : (x b : ℕ) → (x ≡ r → ⊥) → used_bit g m' x b ≡ used_bit g m x b
  used_other x b d = used_same g m m' x b (o.left.other x d).place (o.left.bitmaps x d)

  pub tag_after : (x : ℕ) → Live m x → tag m' (segment_of g x) ≡ Tag.free → ⊥
  tag_after x p z = go (same_or_not (segment_of g x) r)
    where
      go : (segment_of g x ≡ r) ⊎ (segment_of g x ≡ r → ⊥) → ⊥
      go (inl e) = segment_kept x p e (sym (ap (tag m') e) ∙ z)
      go (inr d) = (c.records x p).used (sym (o.left.other (segment_of g x) d).tag ∙ z)

  pub block_after : (x : ℕ) → Live m x → used_bit g m' (segment_of g x) (block_of g m x) ≡ 1
  block_after x p = go (same_or_not (segment_of g x) r)
    where
      go : (segment_of g x ≡ r) ⊎ (segment_of g x ≡ r → ⊥) → used_bit g m' (segment_of g x) (block_of g m x) ≡ 1
      go (inl e) =
          ap (λ z. used_bit g m' z (block_of g m x)) e
          ∙ o.used (segment_kept x p e) (block_of g m x) (subst (λ z. block_of g m x < blocks_in g (class m z)) e (of_block g m x (subst (λ z. IsClass (class m z)) (sym e) class_swept)))
          ∙ live_bit x p e
      go (inr d) = used_other (segment_of g x) (block_of g m x) d ∙ (c.records x p).block
