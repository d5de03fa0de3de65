-- A step in mark that traces: the block that it takes is in use and not marked, and is marked after it; and no block becomes unmarked.
use mathlib.Core.Path.{◌≡◌, sym, ◌∙◌, ap}
use mathlib.Core.Logic.{◌⊎◌, inl, inr}
use mathlib.Core.Bool.{false}
use Prim.Native.Nat.{ℕ, suc, ◌-◌, ◌<◌}
use native.Mathlib.Omega.{arith}
use lib.ListN.{length}
use Rattle.layout.specs.declared.Geometry.{Geometry}
use Rattle.layout.specs.Geometry.{segment_of}
use Rattle.layout.specs.Mem.{Mem, Sizes, trace_word, set_control}
use Rattle.theory.specs.Reach.{root}
use Rattle.model.specs.Fields.{trace_count, class}
use Rattle.model.specs.Records.{header_of, block_of, on_stack, marked, pointer_count}
use Rattle.model.specs.Reaching.{IsEntry}
use Rattle.model.specs.Tracing.{popped, traced}
use Rattle.model.specs.Consistent.{Consistent, RecordOk}
use Rattle.model_laws.proofs.Apart.{class_of}
use Rattle.model_laws.proofs.Blocks.{of_block, is_header}
use Rattle.model_laws.proofs.Marked.{stacked?, off_stack, entry_unmarked}
use Rattle.idle_twin.specs.SameHeap.{SameHeap}
use Rattle.idle_twin.proofs.Same.{same_then, leaves_control, leaves_pointers}
use Rattle.cycle_bound.proofs.MarksKept.{count_popped, traced_from, traced_kept}
use Rattle.cycle_bound.proofs.Unmarked.{Unmarked, WasUnmarked, was_same}

module _ (g : Geometry) (m : Mem) (s : Sizes g m) (c : Consistent g m) (n : ℕ) (is : trace_count m ≡ suc n) where
  abbrev at : ℕ
  at = trace_word m n - 1

  last : n < trace_count m
  last = omega arith

  last_word : trace_word m n ≡ suc at
  last_word = let z = c.sound.trace.named n last in omega arith

  entry : IsEntry m at
  entry = record { index = n; within = last; names = last_word }

  there : RecordOk g m at
  there = c.sound.records at (root (inr entry))

  -- ---- the block that it takes

  abbrev pub segment : ℕ
  segment = segment_of g at

  abbrev pub block : ℕ
  block = block_of g m at

  pub header : at ≡ header_of g segment (class m segment) block
  header = is_header g m at (class_of g m at there) there.aligned

  pub traced_unmarked : Unmarked g m segment block
  traced_unmarked = record {
    in_use = record { used = there.used; within = of_block g m at (class_of g m at there); block = there.block };
    unmarked = ap (marked g m) (sym header) ∙ entry_unmarked g m at entry;
  }

  -- ---- after it

  long : 1 < length m.control
  long = let l = s.control in omega arith

  marked_popped : marked g (popped g m at) at ≡ 1
  unfolding set_control
  marked_popped = go (stacked? g (popped g m at) at)
    where
      go : IsEntry (popped g m at) at ⊎ (on_stack (popped g m at).trace (trace_count (popped g m at)) at ≡ false) → marked g (popped g m at) at ≡ 1
      go (inl x) = let l : x.index < trace_count (popped g m at) = x.within in
          absurd (c.sound.trace.once x.index n (let z = count_popped g m long at in omega arith) last (x.names ∙ sym last_word))
      go (inr f) = off_stack g (popped g m at) at f ∙ c.sound.trace.bits at entry

  pub traced_marked : marked g (traced g m at) (header_of g segment (class m segment) block) ≡ 1
  traced_marked = ap (marked g (traced g m at)) (sym header) ∙ traced_from g m long at at marked_popped

  pub traced_same : SameHeap m (traced g m at)
  traced_same = same_then m (popped g m at) (traced g m at) (leaves_control m 1 (trace_count m - 1)) (leaves_pointers g (popped g m at) at (pointer_count m at))

  pub was_traced : WasUnmarked g m (traced g m at)
  was_traced = was_same g m (traced g m at) traced_same (traced_kept g m long at)
