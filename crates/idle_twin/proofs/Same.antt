-- Memories of the same heap: an equivalence; an operation done to both keeps it, and one that changes only what may differ does so when done to one.
use mathlib.Core.Path.{◌≡◌, refl, sym, ◌∙◌, ap, subst}
use mathlib.Core.Bool.{Bool, true, false}
use mathlib.Core.List.{List, [], ◌∷◌}
use Prim.Native.Nat.{ℕ, zero, suc, ◌+◌, ◌*◌}
use native.Mathlib.Omega.{arith}
use lib.ListN.{length, get_or, set, length-set}
use lib.Seq.{get_or-set_other}
use Rattle.basics.specs.Pick.{pick}
use Rattle.layout.specs.declared.Geometry.{Geometry}
use Rattle.layout.specs.Geometry.{mutator_words, root_count}
use Rattle.layout.specs.Mem.{Mem, set_control, set_mutator, set_segment, set_stack, set_heap, set_run, spliced}
use Rattle.model.specs.declared.SegmentState.{SegmentState}
use Rattle.model.specs.declared.SegmentState.TheVariants.{Free, Part, Held, Full, Condemned}
use Rattle.model.specs.Fields.{acks_at, set_acks, root}
use Rattle.model.specs.Segments.{set_segment_state, set_record, count, stacked}
use Rattle.model.specs.Records.{pointer, set_entered}
use Rattle.model.specs.Tracing.{push_roots, push_pointers}
use Rattle.model.specs.Mutators.{acknowledged}
use Rattle.model_laws.proofs.Pushes.{Untouched, fold_untouched, roots_next, pointers_next}
use Rattle.model_laws.proofs.Acknowledgements.{acknowledged_by}
use Rattle.idle_twin.specs.SameHeap.{SameHeap}
use Rattle.layout.specs.Region as Region

-- ---- an equivalence

pub same_self : (m : Mem) → SameHeap m m
same_self m = record { long = refl; entries = λ k o l f. refl; heap = refl; segments = refl; stacks = refl; bitmaps = refl }

pub same_then : (m m₁ m₂ : Mem) → SameHeap m m₁ → SameHeap m₁ m₂ → SameHeap m m₂
same_then m m₁ m₂ a b = record {
  long = b.long ∙ a.long;
  entries = λ k o l f. b.entries k o l f ∙ a.entries k o l f;
  heap = b.heap ∙ a.heap;
  segments = b.segments ∙ a.segments;
  stacks = b.stacks ∙ a.stacks;
  bitmaps = b.bitmaps ∙ a.bitmaps;
}

pub same_back : (m m₁ : Mem) → SameHeap m m₁ → SameHeap m₁ m
same_back m m₁ a = record {
  long = sym a.long;
  entries = λ k o l f. sym (a.entries k o l f);
  heap = sym a.heap;
  segments = sym a.segments;
  stacks = sym a.stacks;
  bitmaps = sym a.bitmaps;
}

-- ---- done to both

-- one word set in two lists of one length
word_set : (l l' : List ℕ) (i v j : ℕ) → length l' ≡ length l → get_or l' j 0 ≡ get_or l j 0 → get_or (set l' i v) j 0 ≡ get_or (set l i v) j 0
word_set [] [] i v j n e = refl
word_set [] (y ∷ l') i v j n e = absurd (omega arith)
word_set (x ∷ l) [] i v j n e = absurd (omega arith)
word_set (x ∷ l) (y ∷ l') zero v zero n e = refl
word_set (x ∷ l) (y ∷ l') zero v (suc j) n e = e
word_set (x ∷ l) (y ∷ l') (suc i) v zero n e = e
word_set (x ∷ l) (y ∷ l') (suc i) v (suc j) n e = word_set l l' i v j (omega arith) e

module _ (m m' : Mem) (e : SameHeap m m') where
  pub same_mutator : (i v : ℕ) → SameHeap (set_mutator m i v) (set_mutator m' i v)
  unfolding set_mutator
  same_mutator i v = record {
    long = length-set m'.mutators i v ∙ e.long ∙ sym (length-set m.mutators i v);
    entries = λ k o l f. word_set m.mutators m'.mutators i v (k * mutator_words + o) e.long (e.entries k o l f);
    heap = e.heap;
    segments = e.segments;
    stacks = e.stacks;
    bitmaps = e.bitmaps;
  }

  pub same_segment : (i v : ℕ) → SameHeap (set_segment m i v) (set_segment m' i v)
  unfolding set_segment
  same_segment i v = record { long = e.long; entries = e.entries; heap = e.heap; segments = ap (λ l. set l i v) e.segments; stacks = e.stacks; bitmaps = e.bitmaps }

  pub same_stack : (i v : ℕ) → SameHeap (set_stack m i v) (set_stack m' i v)
  unfolding set_stack
  same_stack i v = record { long = e.long; entries = e.entries; heap = e.heap; segments = e.segments; stacks = ap (λ l. set l i v) e.stacks; bitmaps = e.bitmaps }

  pub same_heap : (i v : ℕ) → SameHeap (set_heap m i v) (set_heap m' i v)
  unfolding set_heap
  same_heap i v = record { long = e.long; entries = e.entries; heap = ap (λ l. set l i v) e.heap; segments = e.segments; stacks = e.stacks; bitmaps = e.bitmaps }

  pub same_heap_run : (i : ℕ) (vs : List ℕ) → SameHeap (set_run m Region.heap i vs) (set_run m' Region.heap i vs)
  unfolding set_run
  same_heap_run i vs = record { long = e.long; entries = e.entries; heap = ap (λ l. spliced l i vs) e.heap; segments = e.segments; stacks = e.stacks; bitmaps = e.bitmaps }

  pub same_bitmap : (i : ℕ) (vs : List ℕ) → SameHeap (set_run m Region.bitmaps i vs) (set_run m' Region.bitmaps i vs)
  unfolding set_run
  same_bitmap i vs = record { long = e.long; entries = e.entries; heap = e.heap; segments = e.segments; stacks = e.stacks; bitmaps = ap (λ l. spliced l i vs) e.bitmaps }

pub same_record : (m m' : Mem) → SameHeap m m' → (s t c p k : ℕ) → SameHeap (set_record m s t c p k) (set_record m' s t c p k)
same_record m m' e s t c p k = same_segment _ _ (same_segment _ _ (same_segment _ _ (same_segment m m' e _ t) _ c) _ p) _ k

pub same_state : (g : Geometry) (m m' : Mem) → SameHeap m m' → (s : ℕ) (x : SegmentState) → SameHeap (set_segment_state g m s x) (set_segment_state g m' s x)
unfolding set_segment_state
same_state g m m' e s Free = same_record m m' e s _ _ _ _
same_state g m m' e s (Part c p) = same_record m m' e s _ _ _ _
same_state g m m' e s (Held c p k) = same_record m m' e s _ _ _ _
same_state g m m' e s (Full c) = same_record m m' e s _ _ _ _
same_state g m m' e s (Condemned c p) = same_record m m' e s _ _ _ _

pub same_pick : (t : Bool) (m m₁ m' m₁' : Mem) → SameHeap m m' → SameHeap m₁ m₁' → SameHeap (pick t m m₁) (pick t m' m₁')
same_pick true m m₁ m' m₁' a b = a
same_pick false m m₁ m' m₁' a b = b

-- a stack's count, and a segment put on it
module _ (g : Geometry) (m m' : Mem) (e : SameHeap m m') where
  pub same_count : (t : ℕ) → count g m' t ≡ count g m t
  same_count t = ap (λ (l : List ℕ). get_or l (t * (1 + g.segments)) 0) e.stacks

  pub same_stacked : (t s : ℕ) → SameHeap (stacked g m t s) (stacked g m' t s)
  same_stacked t s =
      subst (λ n. SameHeap (stacked g m t s) (set_stack (set_stack m' (t * (1 + g.segments) + 1 + n) s) (t * (1 + g.segments)) (n + 1))) (sym (same_count t))
      (same_stack _ _ (same_stack m m' e (t * (1 + g.segments) + 1 + count g m t) s) (t * (1 + g.segments)) (count g m t + 1))

-- ---- done to one

-- the regions that may not differ stay
pub framed : (m m' : Mem) → m'.mutators ≡ m.mutators → m'.heap ≡ m.heap → m'.segments ≡ m.segments → m'.stacks ≡ m.stacks → m'.bitmaps ≡ m.bitmaps → SameHeap m m'
framed m m' u h s t b = record { long = ap length u; entries = λ k o l f. ap (λ (x : List ℕ). get_or x (k * mutator_words + o) 0) u; heap = h; segments = s; stacks = t; bitmaps = b }

pub leaves_control : (m : Mem) (i v : ℕ) → SameHeap m (set_control m i v)
unfolding set_control
leaves_control m i v = framed m _ refl refl refl refl refl

pub leaves_entered : (g : Geometry) (m : Mem) (at : ℕ) → SameHeap m (set_entered g m at)
unfolding set_entered
leaves_entered g m at = framed m _ refl refl refl refl refl

pub leaves_acks : (m : Mem) (k v : ℕ) → SameHeap m (set_acks m k v)
unfolding set_mutator
leaves_acks m k v = record {
  long = length-set m.mutators (k * mutator_words + acks_at) v;
  entries = λ j o l f. get_or-set_other m.mutators (k * mutator_words + acks_at) (j * mutator_words + o) v 0 (λ e. f (omega arith));
  heap = refl;
  segments = refl;
  stacks = refl;
  bitmaps = refl;
}

pub leaves_untouched : (m m' : Mem) → Untouched m m' → SameHeap m m'
leaves_untouched m m' u = framed m m' u.mutators u.heap u.segments u.stacks u.bitmaps

module _ (g : Geometry) (m : Mem) where
  pub leaves_roots : (k n : ℕ) → SameHeap m (push_roots g m k n)
  unfolding push_roots
  leaves_roots k n = leaves_untouched m (push_roots g m k n) (fold_untouched g (push_roots g m k) (root m k) (roots_next g m k) n)

  pub leaves_pointers : (at n : ℕ) → SameHeap m (push_pointers g m at n)
  unfolding push_pointers
  leaves_pointers at n = leaves_untouched m (push_pointers g m at n) (fold_untouched g (push_pointers g m at) (pointer m at) (pointers_next g m at) n)

  pub leaves_acknowledged : (k : ℕ) → SameHeap m (acknowledged g m k)
  leaves_acknowledged k =
      acknowledged_by g m k (SameHeap m) (same_self m) (leaves_acks m k 1)
      (same_then m (push_roots g m k root_count) _ (leaves_roots k root_count) (leaves_acks (push_roots g m k root_count) k 2))
