-- Setting words keeps the lengths of the regions.
use mathlib.Core.Path.{◌∙◌}
use mathlib.Core.List.{List}
use Prim.Native.Nat.{ℕ}
use native.Mathlib.Omega.{arith}
use lib.ListN.{length, length-set}
use Rattle.words.proofs.Lists.{length-set_bit}
use Rattle.layout.specs.declared.Geometry.{Geometry}
use Rattle.layout.specs.Geometry.{Sized, mark_bit}
use Rattle.layout.specs.Mem.{Mem, mem_of, set_control, set_mutator, set_segment, set_stack, set_trace, set_heap, set_run, Sizes}
use Rattle.layout.proofs.Regions.{length-region}
use Rattle.model.specs.declared.SegmentState.{SegmentState}
use Rattle.model.specs.Segments.{set_segment_state}
use Rattle.model.specs.Records.{set_entered}
use Rattle.model_laws.proofs.Words.{state_is}
use Rattle.layout.specs.Region as Region
use Rattle.model_laws.proofs.Windows.{length-spliced}

-- the memory of a slice of its length
pub sizes_of : (g : Geometry) (l : List ℕ) → Sized g (length l) → Sizes g (mem_of g l)
sizes_of g l s = record {
  control = length-region g l Region.control s.is (omega arith);
  mutators = length-region g l Region.mutators s.is (omega arith);
  segments = length-region g l Region.segments s.is (omega arith);
  stacks = length-region g l Region.stacks s.is (omega arith);
  bitmaps = length-region g l Region.bitmaps s.is (omega arith);
  marks = length-region g l Region.marks s.is (omega arith);
  trace = length-region g l Region.trace s.is (omega arith);
  heap = length-region g l Region.heap s.is (omega arith);
}

module _ (g : Geometry) (m : Mem) (s : Sizes g m) where
  pub sizes_control : (i v : ℕ) → Sizes g (set_control m i v)
  unfolding set_control
  sizes_control i v = record {
    control = length-set m.control i v ∙ s.control;
    mutators = s.mutators;
    segments = s.segments;
    stacks = s.stacks;
    bitmaps = s.bitmaps;
    marks = s.marks;
    trace = s.trace;
    heap = s.heap;
  }

  pub sizes_mutator : (i v : ℕ) → Sizes g (set_mutator m i v)
  unfolding set_mutator
  sizes_mutator i v = record {
    control = s.control;
    mutators = length-set m.mutators i v ∙ s.mutators;
    segments = s.segments;
    stacks = s.stacks;
    bitmaps = s.bitmaps;
    marks = s.marks;
    trace = s.trace;
    heap = s.heap;
  }

  pub sizes_entry : (i : ℕ) (vs : List ℕ) → Sizes g (set_run m Region.mutators i vs)
  unfolding set_run
  sizes_entry i vs = record {
    control = s.control;
    mutators = length-spliced m.mutators i vs ∙ s.mutators;
    segments = s.segments;
    stacks = s.stacks;
    bitmaps = s.bitmaps;
    marks = s.marks;
    trace = s.trace;
    heap = s.heap;
  }

  pub sizes_segment : (i v : ℕ) → Sizes g (set_segment m i v)
  unfolding set_segment
  sizes_segment i v = record {
    control = s.control;
    mutators = s.mutators;
    segments = length-set m.segments i v ∙ s.segments;
    stacks = s.stacks;
    bitmaps = s.bitmaps;
    marks = s.marks;
    trace = s.trace;
    heap = s.heap;
  }

  pub sizes_stack : (i v : ℕ) → Sizes g (set_stack m i v)
  unfolding set_stack
  sizes_stack i v = record {
    control = s.control;
    mutators = s.mutators;
    segments = s.segments;
    stacks = length-set m.stacks i v ∙ s.stacks;
    bitmaps = s.bitmaps;
    marks = s.marks;
    trace = s.trace;
    heap = s.heap;
  }

  pub sizes_bitmap : (i : ℕ) (vs : List ℕ) → Sizes g (set_run m Region.bitmaps i vs)
  unfolding set_run
  sizes_bitmap i vs = record {
    control = s.control;
    mutators = s.mutators;
    segments = s.segments;
    stacks = s.stacks;
    bitmaps = length-spliced m.bitmaps i vs ∙ s.bitmaps;
    marks = s.marks;
    trace = s.trace;
    heap = s.heap;
  }

  pub sizes_entered : (at : ℕ) → Sizes g (set_entered g m at)
  unfolding set_entered
  sizes_entered at = record {
    control = s.control;
    mutators = s.mutators;
    segments = s.segments;
    stacks = s.stacks;
    bitmaps = s.bitmaps;
    marks = length-set_bit m.marks (mark_bit at) ∙ s.marks;
    trace = s.trace;
    heap = s.heap;
  }

  pub sizes_trace : (i v : ℕ) → Sizes g (set_trace m i v)
  unfolding set_trace
  sizes_trace i v = record {
    control = s.control;
    mutators = s.mutators;
    segments = s.segments;
    stacks = s.stacks;
    bitmaps = s.bitmaps;
    marks = s.marks;
    trace = length-set m.trace i v ∙ s.trace;
    heap = s.heap;
  }

  pub sizes_heap : (i v : ℕ) → Sizes g (set_heap m i v)
  unfolding set_heap
  sizes_heap i v = record {
    control = s.control;
    mutators = s.mutators;
    segments = s.segments;
    stacks = s.stacks;
    bitmaps = s.bitmaps;
    marks = s.marks;
    trace = s.trace;
    heap = length-set m.heap i v ∙ s.heap;
  }

  pub sizes_heap_run : (i : ℕ) (vs : List ℕ) → Sizes g (set_run m Region.heap i vs)
  unfolding set_run
  sizes_heap_run i vs = record {
    control = s.control;
    mutators = s.mutators;
    segments = s.segments;
    stacks = s.stacks;
    bitmaps = s.bitmaps;
    marks = s.marks;
    trace = s.trace;
    heap = length-spliced m.heap i vs ∙ s.heap;
  }

pub sizes_state : (g : Geometry) (m : Mem) → Sizes g m → (r : ℕ) (x : SegmentState) → Sizes g (set_segment_state g m r x)
sizes_state g m s r x = rw (state_is g m r x) (sizes_segment g _ (sizes_segment g _ (sizes_segment g _ (sizes_segment g m s _ _) _ _) _ _) _ _)
