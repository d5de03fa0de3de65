-- The words of the memory after a start, beside those before it.
use mathlib.Core.Path.{◌≡◌, ◌∙◌, ap}
use Prim.Native.Nat.{ℕ, ◌+◌, ◌*◌, ◌<◌}
use native.Mathlib.Omega.{arith}
use lib.ListN.{length, get_or, set, length-set}
use lib.Seq.{get_or-set_same, get_or-set_other}
use Rattle.words.specs.Bits.{bit_at}
use Rattle.classes.specs.Class.{IsClass, class_count}
use Rattle.layout.specs.declared.Geometry.{Geometry}
use Rattle.layout.specs.Geometry.{mutator_count, mutator_words}
use Rattle.layout.specs.Mem.{Mem, control_word, mutator_word, stack_word, set_control, Sizes}
use Rattle.model.specs.Fields.{trace_count, acks_at, acks, cursor}
use Rattle.model.specs.Segments.{free_stack, part_stack, count}
use Rattle.model.specs.Collector.{condemned, parts_emptied, acks_reset, started}
use Rattle.model_laws.proofs.Words.{untouched_as, OtherRegions}
use Rattle.model_laws.proofs.Operations.{sizes_condemned, sizes_emptied, sizes_reset}
use Rattle.model_laws.proofs.Emptied.{BesideStacks, beside_emptied, free_kept, part_emptied}
use Rattle.words.proofs.Zeros.{zeros_bit}
use Rattle.refine_start.proofs.Condemned.{After, others_condemned, segments_condemned}
use Rattle.refine_start.proofs.Acknowledgements.{BesideMutators, beside_reset, reset_kept, reset_acks}

pub record Begun (g : Geometry) (m m' : Mem) : Type 0 where
  pub phase : control_word m' 0 ≡ 1
  pub traced : trace_count m' ≡ trace_count m
  pub cursor : cursor m' ≡ 0
  pub acks : (k : ℕ) → acks m' k ≡ 0
  pub mutators : (k o : ℕ) → o < mutator_words → (o ≡ acks_at → ⊥) → mutator_word m' (k * mutator_words + o) ≡ mutator_word m (k * mutator_words + o)
  pub segments : (s : ℕ) → After m m' s
  -- the free stack's words stay, and every part stack is empty
  pub free : (j : ℕ) → j < 1 + g.segments → stack_word m' (free_stack * (1 + g.segments) + j) ≡ stack_word m (free_stack * (1 + g.segments) + j)
  pub parts : (c : ℕ) → IsClass c → count g m' (part_stack c) ≡ 0
  pub bitmaps : m'.bitmaps ≡ m.bitmaps
  pub marks : (k : ℕ) → bit_at m'.marks k ≡ 0
  pub trace : m'.trace ≡ m.trace
  pub heap : m'.heap ≡ m.heap

module _ (g : Geometry) (m : Mem) (z : Sizes g m) where
  -- condemned, the part stacks emptied, and then the acknowledgements anew
  abbrev m₀ : Mem
  m₀ = condemned m g.segments

  abbrev m₁ : Mem
  m₁ = parts_emptied g m₀ class_count

  abbrev m₂ : Mem
  m₂ = acks_reset m₁ mutator_count

  condemned_sizes : Sizes g m₀
  condemned_sizes = sizes_condemned g m z g.segments

  emptied_sizes : Sizes g m₁
  emptied_sizes = sizes_emptied g m₀ condemned_sizes class_count

  reset_sizes : Sizes g m₂
  reset_sizes = sizes_reset g m₁ emptied_sizes mutator_count

  condemned_others : OtherRegions m m₀
  condemned_others = others_condemned m g.segments

  emptied_others : BesideStacks m₀ m₁
  emptied_others = beside_emptied g m₀ class_count

  reset_others : BesideMutators m₁ m₂
  reset_others = beside_reset m₁ mutator_count

  pub begun : Begun g m (started g m)
  unfolding started set_control
  begun = record {
    phase = let y = reset_sizes.control in let z = length-set m₂.control 2 0 in get_or-set_same (set m₂.control 2 0) 0 1 0 (omega arith);
    traced =
        get_or-set_other (set m₂.control 2 0) 0 1 1 0 (λ e. omega arith) ∙ get_or-set_other m₂.control 2 1 0 0 (λ e. omega arith)
        ∙ ap (λ l. get_or l 1 0) (reset_others.control ∙ emptied_others.control ∙ condemned_others.control);
    cursor = let y = reset_sizes.control in get_or-set_other (set m₂.control 2 0) 0 2 1 0 (λ e. omega arith) ∙ get_or-set_same m₂.control 2 0 0 (omega arith);
    acks = reset_acks g m₁ emptied_sizes;
    mutators = λ k o l f. reset_kept g m₁ emptied_sizes k o l f ∙ ap (λ x. get_or x (k * mutator_words + o) 0) (emptied_others.mutators ∙ condemned_others.mutators);
    segments = λ s. untouched_as (reset_others.segments ∙ emptied_others.segments) (segments_condemned g m z s);
    free = λ j l. ap (λ x. get_or x (free_stack * (1 + g.segments) + j) 0) reset_others.stacks ∙ free_kept g m₀ condemned_sizes j l
        ∙ ap (λ x. get_or x (free_stack * (1 + g.segments) + j) 0) condemned_others.stacks;
    parts = λ c k. ap (λ x. get_or x (part_stack c * (1 + g.segments)) 0) reset_others.stacks ∙ part_emptied g m₀ condemned_sizes c k;
    bitmaps = reset_others.bitmaps ∙ emptied_others.bitmaps ∙ condemned_others.bitmaps;
    marks = zeros_bit (length m₂.marks);
    trace = reset_others.trace ∙ emptied_others.trace ∙ condemned_others.trace;
    heap = reset_others.heap ∙ emptied_others.heap ∙ condemned_others.heap;
  }
