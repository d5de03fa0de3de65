-- Every mutator's call keeps the lengths of the regions, over memory of any content.
use mathlib.Core.Bool.{Bool, true, false}
use mathlib.Core.Option.{Option, none, some}
use mathlib.Core.List.{◌∷◌, ◌++◌}
use Prim.Native.Nat.{ℕ, zero, suc, ◌+◌, ◌-◌, ◌*◌}
use lib.Dec.{eqb}
use lib.ListN.{replicate}
use Rattle.classes.specs.Class.{first_class, class_count, SizeClass}
use Rattle.std.specs.Prelude.{Some, None, Ok, Err}
use Rattle.classes.specs.Record.{of_counts, field_count_of, class_of_record}
use Rattle.classes.specs.declared.RecordShape.{RecordShape}
use Rattle.layout.specs.declared.Geometry.{Geometry}
use Rattle.layout.specs.Geometry.{mutator_words, segment_record_words, root_count, blocks_in, bitmap_words}
use Rattle.layout.specs.Mem.{Mem, set_heap, Sizes}
use Rattle.bitmap_search.specs.Scan.{Found}
use Rattle.bitmap_write.specs.Completed.{fresh}
use Rattle.theory.specs.Phases.{newcomer, duty, black, in_handshake}
use Rattle.theory.specs.Calls.{Call, c_attach, c_detach, c_check, c_leave, c_enter, c_spawn, c_make, c_load, c_store, c_copy, c_clear, c_put, c_get, c_same, c_shape, Answer, unless, refuse, refusal, on_record}
use Rattle.model.specs.declared.SegmentState.TheVariants.{Part, Held, Full}
use Rattle.model.specs.Fields.{phase, acks, inside, outside, holding, place, root, state_at, held_from, handed_at, handed_count}
use Rattle.model.specs.Segments.{part_stack, free_stack, stacked, count, pop, bitmap, above, free}
use Rattle.model.specs.Records.{record?, pointer_count, pointer, header_of, written, header_word}
use Rattle.model.specs.Mutators.{acknowledged, attached, detached, released, released_one}
use Rattle.model.specs.Making.{Source, held, part, unused, no_room, source_of, set_held, freshened, advanced, blackened, counted_out, handed_out, in_block, from_source, made}
use Rattle.model.specs.Calls.{observe, of_class, act, exec}
use Rattle.model_laws.proofs.Lengths.{sizes_mutator, sizes_entry, sizes_segment, sizes_stack, sizes_bitmap, sizes_entered, sizes_heap, sizes_heap_run, sizes_state}
use Rattle.model_laws.proofs.Operations.{sizes_pick, sizes_barrier, sizes_acknowledged, sizes_stacked}
use Rattle.model.specs.Segments as segments

module _ (g : Geometry) where
  -- ---- mutators

  sizes_attached : (m : Mem) → Sizes g m → (k v : ℕ) → Sizes g (attached m k v)
  unfolding attached
  sizes_attached m s k v = sizes_entry g m s (k * mutator_words) (v ∷ replicate (root_count - 1) 0 ++ inside ∷ newcomer (phase m) ∷ replicate (mutator_words - held_from) 0)

  released_one_lem : (m : Mem) → Sizes g m → (k c : ℕ) → Sizes g (released_one g m k c)
  released_one_lem m z k c =
      let s : ℕ = holding m k c - 1 in
      let m' : Mem = segments.set_segment_state g m s (Part c (place m s)) in
      sizes_pick g (eqb (holding m k c) 0) m (stacked g m' (part_stack c) s) z (sizes_stacked g m' (sizes_state g m z s (Part c (place m s))) (part_stack c) s)

  sizes_released : (m : Mem) → Sizes g m → (k n : ℕ) → Sizes g (released g m k n)
  unfolding released
  sizes_released m s k zero = s
  sizes_released m s k (suc n) = released_one_lem (released g m k n) (sizes_released m s k n) k (first_class + n)

  sizes_detached : (m : Mem) → Sizes g m → (k : ℕ) → Sizes g (detached g m k)
  unfolding detached
  sizes_detached m s k = sizes_entry g (released g m k class_count) (sizes_released m s k class_count) (k * mutator_words) (replicate mutator_words 0)

  -- ---- make

  sizes_set_held : (m : Mem) → Sizes g m → (k c s p : ℕ) → Sizes g (set_held g m k c s p)
  sizes_set_held m z k c s p = sizes_mutator g (segments.set_segment_state g m s (Held c p k)) (sizes_state g m z s (Held c p k)) (k * mutator_words + held_from + (c - first_class)) (suc s)

  sizes_advanced : (m : Mem) → Sizes g m → (k c s p : ℕ) (f : Found) → Sizes g (advanced g m k c s p f)
  sizes_advanced m z k c s p (Ok (Some b)) = sizes_state g m z s (Held c p k)
  sizes_advanced m z k c s p (Ok None) = sizes_mutator g (segments.set_segment_state g m s (Full c)) (sizes_state g m z s (Full c)) (k * mutator_words + held_from + (c - first_class)) 0
  sizes_advanced m z k c s p (Err _) = sizes_mutator g (segments.set_segment_state g m s (Full c)) (sizes_state g m z s (Full c)) (k * mutator_words + held_from + (c - first_class)) 0

  sizes_written : (m : Mem) → Sizes g m → (at : ℕ) (shape : RecordShape) → Sizes g (written m at shape)
  sizes_written m z at shape = sizes_heap_run g (set_heap m at (header_word shape)) (sizes_heap g m z at (header_word shape)) (at + 1) (replicate (field_count_of shape) 0)

  sizes_blackened : (m : Mem) → Sizes g m → (k at : ℕ) → Sizes g (blackened g m k at)
  sizes_blackened m z k at = sizes_pick g (black (phase m) (acks m k)) _ m (sizes_entered g m z at) z

  sizes_handed : (m : Mem) → Sizes g m → (k d c s b : ℕ) (shape : RecordShape) → Sizes g (handed_out g m k d c s b shape)
  unfolding handed_out
  sizes_handed m z k d c s b shape =
      let at : ℕ = header_of g s c b in
      let m₀ : Mem = counted_out m s in
      let z₀ : Sizes g m₀ = sizes_segment g m z (s * segment_record_words + handed_at) (handed_count m s + 1) in
      let m₁ : Mem = advanced g m₀ k c s (b + 1) (free g m s c (b + 1)) in
      let z₁ : Sizes g m₁ = sizes_advanced m₀ z₀ k c s (b + 1) (free g m s c (b + 1)) in
      let m₂ : Mem = written m₁ at shape in
      let z₂ : Sizes g m₂ = sizes_written m₁ z₁ at shape in
      sizes_mutator g (blackened g m₂ k at) (sizes_blackened m₂ z₂ k at) (k * mutator_words + d) (suc at)

  sizes_block : (m taken : Mem) → Sizes g m → Sizes g taken → (f : Found) (k d c s : ℕ) (shape : RecordShape) → Sizes g (in_block g m taken f k d c s shape).1
  sizes_block m taken z y (Ok (Some b)) k d c s shape = sizes_handed taken y k d c s b shape
  sizes_block m taken z y (Ok None) k d c s shape = z
  sizes_block m taken z y (Err _) k d c s shape = z

  sizes_source : (m : Mem) → Sizes g m → (k d c : ℕ) (shape : RecordShape) (x : Source) → Sizes g (from_source g m k d c shape x).1
  sizes_source m z k d c shape (held s) = sizes_block m m z z (free g m s c (place m s)) k d c s shape
  sizes_source m z k d c shape (part s) =
      let popped : Mem = pop g m (part_stack c) in
      let y : Sizes g popped = sizes_stack g m z (part_stack c * (1 + g.segments)) (count g m (part_stack c) - 1) in
      let taken : Mem = set_held g popped k c s (place m s) in
      sizes_block m taken z (sizes_set_held popped y k c s (place m s)) (free g taken s c (place taken s)) k d c s shape
  sizes_source m z k d c shape (unused s) =
      let popped : Mem = pop g m free_stack in
      let y : Sizes g popped = sizes_stack g m z (free_stack * (1 + g.segments)) (count g m free_stack - 1) in
      let owned : Mem = set_held g popped k c s 0 in
      let taken : Mem = freshened g owned s c in
      sizes_block m taken z
      (sizes_bitmap g owned (sizes_set_held popped y k c s 0) (s * bitmap_words g) (fresh (above g c) (blocks_in g c) (bitmap g owned s)))
      (free g taken s c (place taken s)) k d c s shape
  sizes_source m z k d c shape no_room = z

  sizes_made : (m : Mem) → Sizes g m → (k d c : ℕ) (shape : RecordShape) → Sizes g (made g m k d c shape).1
  unfolding made
  sizes_made m z k d c shape = sizes_source m z k d c shape (source_of g m k c)

  -- ---- calls

  sizes_class : (m : Mem) → Sizes g m → (x : SizeClass) (rest : ℕ → Answer × Mem) → ((c : ℕ) → Sizes g (rest c).1) → Sizes g (of_class m x rest).1
  sizes_class m z (Some c) rest f = f c
  sizes_class m z None rest f = z

  sizes_unless : (t : Bool) (n : ℕ) (m m' : Mem) → Sizes g m → Sizes g m' → Sizes g (unless t n m m').1
  sizes_unless true n m m' z y = z
  sizes_unless false n m m' z y = y

  sizes_record : (o : Option ℕ) (m : Mem) (rest : ℕ → Answer × Mem) → Sizes g m → ((at : ℕ) → Sizes g (rest at).1) → Sizes g (on_record o m rest).1
  sizes_record none m rest z f = z
  sizes_record (some at) m rest z f = f at

  sizes_refuse : (n : ℕ) (m : Mem) (r : Answer × Mem) → Sizes g m → Sizes g r.1 → Sizes g (refuse n m r).1
  sizes_refuse zero m r z y = y
  sizes_refuse (suc n) m r z y = z

  sizes_act : (m : Mem) → Sizes g m → (c : Call) → Sizes g (act g m c).1
  unfolding act
  sizes_act m z (c_attach k) = sizes_unless (in_handshake (phase m)) 11 m (attached m k 0) z (sizes_attached m z k 0)
  sizes_act m z (c_spawn k p i) = sizes_unless (in_handshake (phase m)) 11 m (attached m k (root m p i)) z (sizes_attached m z k (root m p i))
  sizes_act m z (c_detach k) = sizes_unless (in_handshake (phase m)) 11 m (detached g m k) z (sizes_detached m z k)
  sizes_act m z (c_check k) = sizes_acknowledged g m z k
  sizes_act m z (c_leave k) = sizes_mutator g (acknowledged g m k) (sizes_acknowledged g m z k) (k * mutator_words + state_at) outside
  sizes_act m z (c_enter k) = sizes_mutator g m z (k * mutator_words + state_at) inside
  sizes_act m z (c_make k d p n) = sizes_class m z (class_of_record (of_counts p n)) (λ c. made g m k d c (of_counts p n)) (λ c. sizes_made m z k d c (of_counts p n))
  sizes_act m z (c_load k d i f) = sizes_record (record? (root m k i)) m _ z (λ at. sizes_mutator g m z (k * mutator_words + d) (pointer m at f))
  sizes_act m z (c_store k i f j) =
      sizes_record (record? (root m k i)) m _ z
      (λ at. sizes_heap g _ (sizes_barrier g (duty (phase m) (acks m k)) m z (record? (root m k j)) (record? (pointer m at f))) (at + 1 + f) (root m k j))
  sizes_act m z (c_copy k d i) = sizes_mutator g m z (k * mutator_words + d) (root m k i)
  sizes_act m z (c_clear k d) = sizes_mutator g m z (k * mutator_words + d) 0
  sizes_act m z (c_put k i f v) = sizes_record (record? (root m k i)) m _ z (λ at. sizes_heap g m z (at + 1 + pointer_count m at + f) v)
  sizes_act m z (c_get k i f) = sizes_record (record? (root m k i)) m _ z (λ at. z)
  sizes_act m z (c_same k i j) = z
  sizes_act m z (c_shape k i) = sizes_record (record? (root m k i)) m _ z (λ at. z)

  pub sizes_exec : (m : Mem) → Sizes g m → (c : Call) → Sizes g (exec g m c).1
  unfolding exec
  sizes_exec m z c = sizes_refuse (refusal (observe m) c) m (act g m c) z (sizes_act m z c)
