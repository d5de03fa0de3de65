-- The memory that an opening leaves is consistent, whatever stood in it, and as the unbounded heap begins.
use mathlib.Core.Path.{◌≡◌, refl, sym, ◌∙◌, ap, subst}
use mathlib.Core.Logic.{◌⊎◌, inl, inr}
use mathlib.Core.Bool.{true, false, not, true≢false}
use mathlib.Core.Option.{none}
use Prim.Native.Nat.{ℕ, ◌+◌, ◌-◌, ◌*◌}
use native.Mathlib.Omega.{arith}
use lib.Dec.{eqb}
use lib.ListN.{length-replicate}
use borrow.Author.Tests.{eq-eqb, ne_eqb, eqb-true}
use Rattle.classes.specs.Class.{first_class}
use Rattle.layout.specs.declared.Geometry.{Geometry}
use Rattle.layout.specs.Geometry.{len, mutator_words, segment_record_words, segment_of}
use Rattle.layout.specs.Mem.{Mem, control_word, mutator_word, segment_record_word, Sizes}
use Rattle.theory.specs.Phases.{idle}
use Rattle.theory.specs.Unbounded.{empty}
use Rattle.theory.proofs.Graph.{reach_empty}
use Rattle.theory.proofs.Invariant.{none_some}
use Rattle.theory.proofs.CallKeeps.{Coupled}
use Rattle.model.specs.PhaseNumbers.{phase_of}
use Rattle.model.specs.Fields.{phase, trace_count, state_at, acks_at, held_from, state, tag_at, class_at, place_at, owner_at, kept_at, handed_at, tag}
use Rattle.model.specs.Calls.{is_attached}
use Rattle.model.specs.Opening.{open_stacks, opened}
use Rattle.model.specs.Reaching.{IsRoot, IsEntry, PointsTo, Live}
use Rattle.model.specs.Consistent.{Consistent, SegmentOk, MutatorOk, TraceOk, InPhase, is_free, is_part}
use Rattle.refine_view.specs.View.{view}
use Rattle.refine_view.proofs.Seeing.{live_back}
use Rattle.refine_view.proofs.Invariants.{consistent_ordered, to_inv}
use Rattle.words.proofs.Zeros.{zeros_at}
use Rattle.refine_start.proofs.OpenStacks.{length-open, free_open, part_open}
use Rattle.layout.specs.Region as Region
use Rattle.model.specs.Tag as Tag

-- ---- its words

module _ (g : Geometry) (m : Mem) where
  pub opened_control : (i : ℕ) → control_word (opened g m) i ≡ 0
  unfolding opened
  opened_control i = zeros_at (len g Region.control) i

  pub opened_mutator : (i : ℕ) → mutator_word (opened g m) i ≡ 0
  unfolding opened
  opened_mutator i = zeros_at (len g Region.mutators) i

  pub opened_segment : (i : ℕ) → segment_record_word (opened g m) i ≡ 0
  unfolding opened
  opened_segment i = zeros_at (len g Region.segments) i

  opened_stacks : (opened g m).stacks ≡ open_stacks g
  unfolding opened
  opened_stacks = refl

  pub opened_idle : phase (opened g m) ≡ idle
  opened_idle = ap phase_of (opened_control 0)

pub sizes_opened : (g : Geometry) (m : Mem) → Sizes g m → Sizes g (opened g m)
unfolding opened
sizes_opened g m s = record {
  control = length-replicate {A = ℕ} (len g Region.control) 0;
  mutators = length-replicate {A = ℕ} (len g Region.mutators) 0;
  segments = length-replicate {A = ℕ} (len g Region.segments) 0;
  stacks = length-open g;
  bitmaps = s.bitmaps;
  marks = s.marks;
  trace = s.trace;
  heap = s.heap;
}

-- ---- nothing is live in it

pub no_reached : (g : Geometry) (m : Mem) (at : ℕ) → Live (opened g m) at → ⊥
no_reached g m at p = reach_empty {R = λ x. IsRoot (opened g m) x ⊎ IsEntry (opened g m) x} {E = PointsTo (opened g m)} none_there p
  where
    none_there : (x : ℕ) → IsRoot (opened g m) x ⊎ IsEntry (opened g m) x → ⊥
    none_there x (inl r) = r.attached (opened_mutator g m (r.mutator * mutator_words + state_at))
    none_there x (inr e) = let z : trace_count (opened g m) ≡ 0 = opened_control g m 1 in let l = e.within in omega arith

-- ---- it is in order

module _ (g : Geometry) (m : Mem) where
  segment_ok : (s : ℕ) → SegmentOk g (opened g m) s
  segment_ok s =
      let t : tag (opened g m) s ≡ Tag.free = opened_segment g m (s * segment_record_words + tag_at) in
      record {
        tags = omega arith;
        free = λ e. (opened_segment g m (s * segment_record_words + class_at), opened_segment g m (s * segment_record_words + place_at), opened_segment g m (s * segment_record_words + owner_at));
        unowned = λ f. opened_segment g m (s * segment_record_words + owner_at);
        classes = λ f. absurd (f t);
        remains = λ l h. absurd (omega arith);
        full = λ e. absurd (omega arith);
        condemned = λ e. absurd (omega arith);
        held = λ e. absurd (omega arith);
      }

  mutator_ok : (k : ℕ) → MutatorOk g (opened g m) k
  mutator_ok k =
      let a = opened_mutator g m (k * mutator_words + state_at) in
      let b = opened_mutator g m (k * mutator_words + acks_at) in
      record {
        states = omega arith;
        acknowledged = omega arith;
        gone = λ e i l. opened_mutator g m (k * mutator_words + i);
        holds = λ c s l e. absurd (let z = opened_mutator g m (k * mutator_words + held_from + (c - first_class)) in omega arith);
      }

  trace_ok : TraceOk g (opened g m)
  trace_ok =
      let z : trace_count (opened g m) ≡ 0 = opened_control g m 1 in
      record {
        named = λ i l. absurd (omega arith);
        once = λ i j l k e. omega arith;
        bits = λ at e. absurd (let l = e.within in omega arith);
        number = omega arith;
      }

  in_idle : InPhase idle g (opened g m)
  in_idle = (opened_control g m 1, λ s l e. let t : tag (opened g m) s ≡ Tag.free = opened_segment g m (s * segment_record_words + tag_at) in omega arith)

  not_part : (c s : ℕ) → is_part (opened g m) c s ≡ false
  not_part c s = rw (opened_segment g m (s * segment_record_words + tag_at)) refl

pub opened_consistent : (g : Geometry) (m : Mem) → Sizes g m → Consistent g (opened g m)
opened_consistent g m s = record {
  summed = record {
    trees = λ r l f. absurd (f (opened_segment g m (r * segment_record_words + tag_at)));
    counts = λ r l. record {
      free = λ _. (opened_segment g m (r * segment_record_words + kept_at), opened_segment g m (r * segment_record_words + handed_at));
      kept = λ f _. absurd (f (opened_segment g m (r * segment_record_words + tag_at)));
      handed = λ f _. absurd (f (opened_segment g m (r * segment_record_words + tag_at)));
    };
    free_segments = free_open g (opened g m) (opened_stacks g m) (is_free (opened g m)) (λ r l. eq-eqb _ _ (opened_segment g m (r * segment_record_words + tag_at)));
    part_segments = λ c h. part_open g (opened g m) (opened_stacks g m) (c - first_class) (is_part (opened g m) c) (λ r l. not_part g m c r);
  };
  sound = record {
    phases = let z = opened_control g m 0 in omega arith;
    segments = λ r l. segment_ok g m r;
    occupied = λ r l a b. let t : tag (opened g m) r ≡ Tag.free = opened_segment g m (r * segment_record_words + tag_at) in absurd (omega arith);
    behind = λ r l b e. let z = opened_control g m 2 in omega arith;
    mutators = λ k l. mutator_ok g m k;
    acknowledgements = λ k l f. absurd (f (opened_mutator g m (k * mutator_words + state_at)));
    records = λ at p. absurd (no_reached g m at p);
    trace = trace_ok g m;
    cycle = subst (λ p. InPhase p g (opened g m)) (sym (opened_idle g m)) (in_idle g m);
  };
}

-- ---- and the unbounded heap beside it is empty

pub opened_good : (g : Geometry) (m : Mem) → Sizes g m → Coupled (segment_of g) (λ _. ⊥) (λ _. none) (view g (opened g m)) empty
opened_good g m s = record {
  inv = to_inv g (opened g m) (sizes_opened g m s) (consistent_ordered g (opened g m) (opened_consistent g m s));
  sim = record {
    attached = gone;
    inside = λ i. ne_eqb (state (opened g m) i) 1 (λ e. let z = opened_mutator g m (i * mutator_words + state_at) in omega arith);
    root = λ i k a l. absurd (true≢false (sym a ∙ gone i));
    rec = λ b p. absurd (no_reached g m b (live_back g (opened g m) (sizes_opened g m s) (trace_ok g m).named p));
    inj = λ b c r e h. none_some e;
    old = λ b r e. none_some e;
  };
  few = λ i a. absurd (true≢false (sym a ∙ gone i));
  comp = record { live = λ b p k. not_collected b k; black = λ b p k. not_collected b k };
}
  where
    gone : (i : ℕ) → is_attached (opened g m) i ≡ false
    gone i = ap not (eq-eqb (state (opened g m) i) 0 (opened_mutator g m (i * mutator_words + state_at)))

    not_collected : (b : ℕ) → eqb (tag (opened g m) (segment_of g b)) Tag.condemned ≡ true → ⊥
    not_collected b k = let z : tag (opened g m) (segment_of g b) ≡ Tag.condemned = eqb-true _ _ k in let y = opened_segment g m (segment_of g b * segment_record_words + tag_at) in omega arith
