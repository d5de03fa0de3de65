-- Pushes on the trace stack, one and any fold of them: what they leave as it was, and what they need and keep.
use mathlib.Core.Path.{◌≡◌, refl, sym, ◌∙◌, subst}
use mathlib.Core.Bool.{Bool, true, false}
use Prim.Native.Nat.{ℕ, zero, suc, ◌+◌, ◌*◌, ◌/◌, ◌≤◌, ◌<◌}
use native.Mathlib.Omega.{arith}
use lib.Dec.{eqb}
use lib.ListN.{length, length-set}
use lib.Seq.{get_or-set_same, get_or-set_other}
use borrow.Author.Tests.{eqb-false}
use Rattle.basics.specs.Pick.{pick}
use Rattle.words.specs.Bits.{bit_at, ones_among}
use Rattle.words.proofs.Word.{zero_of_not_one}
use Rattle.words.proofs.Counts.{set-count}
use Rattle.words.proofs.Lists.{at_lt, length-set_bit}
use Rattle.layout.specs.declared.Geometry.{Geometry}
use Rattle.layout.specs.Geometry.{most_blocks, len, mark_bit}
use Rattle.layout.specs.Mem.{Mem, Sizes, control_word, set_trace, set_control}
use Rattle.layout.proofs.Sizes.{marks_are}
use Rattle.model.specs.Fields.{trace_count, root}
use Rattle.model.specs.Records.{record?, pointer, entered, set_entered}
use Rattle.model.specs.Tracing.{push, on_top, push_roots, push_pointers}
use Rattle.model.specs.Consistent.{RecordOk, Consistent}
use Rattle.model_laws.proofs.Blocks.{bit_below}
use Rattle.model_laws.proofs.Apart.{class_of}
use Rattle.layout.specs.Region as Region

-- ---- what pushes leave as it was: all but the trace stack and the bits of its entries

pub record Untouched (m m' : Mem) : Type 0 where
  pub phase : control_word m' 0 ≡ control_word m 0
  pub mutators : m'.mutators ≡ m.mutators
  pub heap : m'.heap ≡ m.heap
  pub segments : m'.segments ≡ m.segments
  pub stacks : m'.stacks ≡ m.stacks
  pub bitmaps : m'.bitmaps ≡ m.bitmaps

untouched_self : (m : Mem) → Untouched m m
untouched_self m = record { phase = refl; mutators = refl; heap = refl; segments = refl; stacks = refl; bitmaps = refl }

untouched_then : (m m' m'' : Mem) → Untouched m m' → Untouched m' m'' → Untouched m m''
untouched_then m m' m'' a b = record {
  phase = b.phase ∙ a.phase;
  mutators = b.mutators ∙ a.mutators;
  heap = b.heap ∙ a.heap;
  segments = b.segments ∙ a.segments;
  stacks = b.stacks ∙ a.stacks;
  bitmaps = b.bitmaps ∙ a.bitmaps;
}

-- a record in order stays so where heap, segments' records and bitmaps do
pub record_same : (g : Geometry) (m m' : Mem) → m'.heap ≡ m.heap → m'.segments ≡ m.segments → m'.bitmaps ≡ m.bitmaps → (at : ℕ) → RecordOk g m at → RecordOk g m' at
record_same g m m' h s b at r = record {
  inside = r.inside;
  used = rw s r.used;
  aligned = rw s r.aligned;
  block = rw (s, b) r.block;
  sized = rw (s, h) r.sized;
}

pub record_untouched : (g : Geometry) (m m' : Mem) → Untouched m m' → (at : ℕ) → RecordOk g m at → RecordOk g m' at
record_untouched g m m' u = record_same g m m' u.heap u.segments u.bitmaps

-- ---- what they need and keep: lengths, and no more entries of the trace stack than bits

abbrev pub Counted : Geometry → Mem → Type 0
Counted g m = trace_count m ≤ ones_among (bit_at m.marks) (g.segments * most_blocks g)

pub record PushReady (g : Geometry) (m : Mem) : Type 0 where
  pub control : 1 < length m.control
  pub marks : length m.marks ≡ len g Region.marks
  pub number : Counted g m

pub ready_of : (g : Geometry) (m : Mem) → Sizes g m → Consistent g m → PushReady g m
ready_of g m s c = record { control = let l = s.control in omega arith; marks = s.marks; number = c.sound.trace.number }

-- ---- one push

module _ (g : Geometry) (m : Mem) where
  untouched_top : (at : ℕ) → Untouched m (on_top g m at)
  unfolding set_trace set_control set_entered
  untouched_top at = record {
    phase = get_or-set_other m.control 1 0 (trace_count m + 1) 0 (λ e. omega arith);
    mutators = refl;
    heap = refl;
    segments = refl;
    stacks = refl;
    bitmaps = refl;
  }

  pub untouched_push : (w : ℕ) → Untouched m (push g m (record? w))
  unfolding push
  untouched_push zero = untouched_self m
  untouched_push (suc at) = go (eqb (entered g m at) 1)
    where
      go : (x : Bool) → Untouched m (pick x m (on_top g m at))
      go true = untouched_self m
      go false = untouched_top at

  module _ (y : PushReady g m) where
    module _ (at : ℕ) (r : RecordOk g m at) (free : entered g m at ≡ 1 → ⊥) where
      below : mark_bit at < g.segments * most_blocks g
      below = bit_below g m at (class_of g m at r) r.inside

      in_words_lem : mark_bit at / 32 < length m.marks
      in_words_lem = let l = below in let z = marks_are g g.segments in let q = y.marks in omega arith

      ready_top : PushReady g (on_top g m at)
      unfolding set_trace set_control set_entered
      ready_top = record {
        control = subst (λ z. 1 < z) (sym (length-set m.control 1 (trace_count m + 1))) y.control;
        marks = length-set_bit m.marks (mark_bit at) ∙ y.marks;
        number =
            let c = get_or-set_same m.control 1 (trace_count m + 1) 0 y.control in
            let n = set-count m.marks (mark_bit at) (g.segments * most_blocks g) in_words_lem below (zero_of_not_one _ (at_lt m.marks (mark_bit at)) free) in
            let k = y.number in omega arith;
      }

    pub ready_push : (w : ℕ) → ((at : ℕ) → w ≡ suc at → RecordOk g m at) → PushReady g (push g m (record? w))
    unfolding push
    ready_push zero r = y
    ready_push (suc at) r = go (eqb (entered g m at) 1) refl
      where
        go : (z : Bool) → eqb (entered g m at) 1 ≡ z → PushReady g (pick z m (on_top g m at))
        go true e = y
        go false e = ready_top at (r at refl) (eqb-false _ _ e)

-- ---- any fold of them: h is the memory after so many, w the words pushed

module _ (g : Geometry) (h : ℕ → Mem) (w : ℕ → ℕ) (next : (n : ℕ) → h (suc n) ≡ push g (h n) (record? (w n))) where
  pub fold_untouched : (n : ℕ) → Untouched (h 0) (h n)
  fold_untouched zero = untouched_self (h 0)
  fold_untouched (suc n) =
      subst (Untouched (h 0)) (sym (next n))
      (untouched_then (h 0) (h n) (push g (h n) (record? (w n))) (fold_untouched n) (untouched_push g (h n) (w n)))

  -- the records pushed are in order
  module _ (y : PushReady g (h 0)) where
    pub fold_ready : (n : ℕ) → ((i at : ℕ) → i < n → w i ≡ suc at → RecordOk g (h 0) at) → PushReady g (h n)
    fold_ready zero ok = y
    fold_ready (suc n) ok =
        subst (PushReady g) (sym (next n))
        (ready_push g (h n) (fold_ready n (λ i at l. ok i at (omega arith))) (w n)
        (λ at e. record_untouched g (h 0) (h n) (fold_untouched n) at (ok n at (omega arith) e)))

-- ---- a mutator's roots, and a record's pointers

pub roots_none : (g : Geometry) (m : Mem) (k : ℕ) → push_roots g m k 0 ≡ m
unfolding push_roots
roots_none g m k = refl

pub roots_next : (g : Geometry) (m : Mem) (k n : ℕ) → push_roots g m k (suc n) ≡ push g (push_roots g m k n) (record? (root m k n))
unfolding push_roots
roots_next g m k n = refl

pub pointers_none : (g : Geometry) (m : Mem) (at : ℕ) → push_pointers g m at 0 ≡ m
unfolding push_pointers
pointers_none g m at = refl

pub pointers_next : (g : Geometry) (m : Mem) (at n : ℕ) → push_pointers g m at (suc n) ≡ push g (push_pointers g m at n) (record? (pointer m at n))
unfolding push_pointers
pointers_next g m at n = refl
