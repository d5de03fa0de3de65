-- One block more is counted, and the place moves just past it: the segment stays held while a free block remains, else it becomes full.
use mathlib.Core.Path.{◌≡◌, refl, ◌∙◌, ap}
use mathlib.Core.Logic.{inl, inr}
use mathlib.Core.List.{List}
use Prim.Native.Nat.{ℕ, ◌+◌, ◌-◌, ◌*◌, ◌≤◌, ◌<◌}
use native.Mathlib.Omega.{arith}
use lib.ListN.{length, get_or}
use Rattle.std.specs.Prelude.{Ok, Err, Some, None}
use Rattle.words.specs.Bits.{bit_at}
use Rattle.words.proofs.FirstZero.{NoZero}
use Rattle.classes.specs.Class.{first_class}
use Rattle.classes.specs.declared.RecordShape.{RecordShape}
use Rattle.layout.specs.declared.Geometry.{Geometry}
use Rattle.layout.specs.Geometry.{mutator_words, segment_record_words, blocks_in}
use Rattle.layout.specs.Mem.{Mem, set_mutator, set_segment, Sizes}
use Rattle.bitmap_search.specs.Scan.{Found}
use Rattle.bitmap_search.proofs.Scan.{IsNext, next_is}
use Rattle.model.specs.declared.SegmentState.{SegmentState}
use Rattle.model.specs.declared.SegmentState.TheVariants.{Held, Full}
use Rattle.model.specs.Fields.{held_from, set_holding, owner_at, handed_at, kept_count, handed_count}
use Rattle.model.specs.Segments.{set_segment_state, bitmap, free}
use Rattle.model.specs.Making.{counted_out, advanced}
use Rattle.model_laws.proofs.Words.{Counted, Untouched, counted_then, untouched_same, untouched_then, untouched_as, recorded_as, state_others, state_there, state_other, state_counts}
use Rattle.model_laws.proofs.Words.{count_other, handed_there}
use Rattle.model_laws.proofs.Entries.{table_there, table_other}
use Rattle.model_laws.proofs.Lengths.{sizes_segment, sizes_state, sizes_mutator}
use Rattle.refine_making.proofs.Request.{Request}
use Rattle.refine_making.proofs.Result.{Moved}

module _ (g : Geometry) (m : Mem) (s : Sizes g m) (k d cl r b : ℕ) (shape : RecordShape) (q : Request g m k d cl r b shape) where
  abbrev m₀ : Mem
  m₀ = counted_out m r

  sizes₀ : Sizes g m₀
  sizes₀ = sizes_segment g m s _ _

  room : r * segment_record_words + owner_at < length m₀.segments
  room = let z = sizes₀.segments in let l = q.inside in omega arith

  -- ---- the counts

  counted : Counted m₀ r (kept_count m r) (handed_count m r + 1)
  counted = handed_there m r (handed_count m r + 1) (let z = s.segments in let l = q.inside in omega arith)

  counts_on : (x : SegmentState) → Counted (set_segment_state g m₀ r x) r (kept_count m r) (handed_count m r + 1)
  counts_on x = counted_then counted (state_counts g m₀ r x r)

  other_on : (x : SegmentState) (y : ℕ) → (y ≡ r → ⊥) → Untouched m (set_segment_state g m₀ r x) y
  other_on x y h = untouched_then (count_other m r handed_at (handed_count m r + 1) (omega arith) (omega arith) y h) (state_other g m₀ r x y h)

  -- ---- the state

  abbrev full : Mem
  full = set_segment_state g m₀ r (Full cl)

  still : (i : ℕ) → b + 1 ≤ i → i < blocks_in g cl → bit_at (bitmap g m r) i ≡ 0 → Moved g m (set_segment_state g m₀ r (Held cl (b + 1) k)) k cl r b
  unfolding set_segment
  still i a l e =
      let f = state_others g m₀ r (Held cl (b + 1) k) in
      record {
        sizes = sizes_state g m₀ sizes₀ r (Held cl (b + 1) k);
        control = f.control;
        stacks = f.stacks;
        bitmaps = f.bitmaps;
        marks = f.marks;
        trace = f.trace;
        heap = f.heap;
        words = λ j o h x. ap (λ (ws : List ℕ). get_or ws (j * mutator_words + o) 0) f.mutators;
        others = other_on (Held cl (b + 1) k);
        counts = counts_on (Held cl (b + 1) k);
        segment = inl (record {
          recorded = state_there g m₀ r (Held cl (b + 1) k) room;
          held = ap (λ (ws : List ℕ). get_or ws (k * mutator_words + held_from + (cl - first_class)) 0) f.mutators ∙ q.holds;
          next = i;
          after = a;
          below = l;
          unused = e;
        });
      }

  fills : NoZero (bit_at (bitmap g m r)) (b + 1) (blocks_in g cl) → Moved g m (set_holding full k cl 0) k cl r b
  unfolding set_mutator set_segment
  fills none =
      let f = state_others g m₀ r (Full cl) in
      let s₁ = sizes_state g m₀ sizes₀ r (Full cl) in
      record {
        sizes = sizes_mutator g full s₁ _ _;
        control = f.control;
        stacks = f.stacks;
        bitmaps = f.bitmaps;
        marks = f.marks;
        trace = f.trace;
        heap = f.heap;
        words = λ j o h x. table_other g full s₁ k cl 0 q.few q.is_class j o h x ∙ ap (λ (ws : List ℕ). get_or ws (j * mutator_words + o) 0) f.mutators;
        others = λ x h. untouched_as refl (other_on (Full cl) x h);
        counts = counted_then (counts_on (Full cl)) (untouched_same full (set_holding full k cl 0) r refl).counts;
        segment = inr (record {
          recorded = recorded_as full (set_holding full k cl 0) _ _ _ _ _ refl (state_there g m₀ r (Full cl) room);
          held = table_there g full s₁ k cl 0 q.few q.is_class;
          last = none;
        });
      }

  pub moved : Moved g m (advanced g m₀ k cl r (b + 1) (free g m r cl (b + 1))) k cl r b
  moved = go (free g m r cl (b + 1)) (next_is (bit_at (bitmap g m r)) (blocks_in g cl) (b + 1))
    where
      go : (f : Found) → IsNext (bit_at (bitmap g m r)) (blocks_in g cl) (b + 1) f → Moved g m (advanced g m₀ k cl r (b + 1) f) k cl r b
      go (Ok (Some i)) h = still i h.0 h.1 h.2
      go (Ok None) h = fills h
      go (Err _) h = absurd h
