-- A make over two memories of the same heap: the same segment and block, the same record, the same answer.
use mathlib.Core.Path.{◌≡◌, refl, sym, ◌∙◌, ap, subst}
use mathlib.Core.Bool.{Bool, true, false}
use mathlib.Core.List.{List}
use Prim.Native.Nat.{ℕ, suc, ◌+◌, ◌-◌, ◌*◌}
use lib.Dec.{eqb}
use lib.ListN.{take, drop, replicate}
use Rattle.std.specs.Prelude.{Ok, Err, Some, None}
use Rattle.basics.specs.Pick.{pick}
use Rattle.words.specs.Bits.{bit_at}
use Rattle.classes.specs.Class.{IsClass}
use Rattle.classes.specs.Record.{field_count_of}
use Rattle.classes.specs.declared.RecordShape.{RecordShape}
use Rattle.layout.specs.declared.Geometry.{Geometry}
use Rattle.layout.specs.Geometry.{mutator_words, blocks_in, bitmap_words}
use Rattle.layout.specs.Mem.{Mem, set_stack, set_run, with_region}
use Rattle.bitmap_search.specs.Scan.{Found, next_free}
use Rattle.bitmap_write.specs.Completed.{fresh}
use Rattle.theory.specs.Phases.{black}
use Rattle.theory.specs.Calls.{Answer}
use Rattle.model.specs.declared.SegmentState.TheVariants.{Held, Full}
use Rattle.model.specs.Fields.{phase, acks, place, handed_count, set_handed_count}
use Rattle.model.specs.Segments.{free_stack, part_stack, count, top, pop, above, bitmap, free}
use Rattle.model.specs.Records.{header_of, header_word, written, set_entered}
use Rattle.model.specs.Making.{Source, held, part, unused, no_room, source_of, set_held, freshened, advanced, blackened, counted_out, handed_out, in_block, in_segment, from_source, made}
use Rattle.idle_twin.specs.SameHeap.{SameHeap}
use Rattle.idle_twin.proofs.Same.{same_self, same_then, same_back, same_mutator, same_stack, same_heap, same_heap_run, same_bitmap, same_segment, same_state, same_count, leaves_entered}
use Rattle.idle_twin.proofs.Entries.{same_holding, same_place, same_handed_count}
use Rattle.layout.specs.Region as Region

-- two outcomes with one answer and the same heap
pub record Alike (r r' : Answer × Mem) : Type 0 where
  pub answer : r.0 ≡ r'.0
  pub memory : SameHeap r.1 r'.1

module _ (g : Geometry) (k d c : ℕ) (shape : RecordShape) where
  -- ---- the record in its block

  same_free : (m m' : Mem) → SameHeap m m' → (s p : ℕ) → free g m' s c p ≡ free g m s c p
  same_free m m' e s p = ap (λ (l : List ℕ). next_free (bit_at (take (bitmap_words g) (drop (s * bitmap_words g) l))) (blocks_in g c) p) e.bitmaps

  same_counted : (m m' : Mem) → SameHeap m m' → (s : ℕ) → SameHeap (counted_out m s) (counted_out m' s)
  same_counted m m' e s =
      subst (λ n. SameHeap (counted_out m s) (set_handed_count m' s (n + 1))) (sym (same_handed_count m m' e s)) (same_segment m m' e _ (handed_count m s + 1))

  same_advanced : (m m' : Mem) → SameHeap m m' → (s p : ℕ) (f : Found) → SameHeap (advanced g m k c s p f) (advanced g m' k c s p f)
  same_advanced m m' e s p (Ok (Some b)) = same_state g m m' e s (Held c p k)
  same_advanced m m' e s p (Ok None) = same_mutator _ _ (same_state g m m' e s (Full c)) _ 0
  same_advanced m m' e s p (Err _) = same_mutator _ _ (same_state g m m' e s (Full c)) _ 0

  leaves_blackened : (m : Mem) (at : ℕ) → SameHeap m (blackened g m k at)
  leaves_blackened m at = go (black (phase m) (acks m k))
    where
      go : (b : Bool) → SameHeap m (pick b (set_entered g m at) m)
      go true = leaves_entered g m at
      go false = same_self m

  same_handed : (m m' : Mem) → SameHeap m m' → (s b : ℕ) → SameHeap (handed_out g m k d c s b shape) (handed_out g m' k d c s b shape)
  unfolding handed_out
  same_handed m m' e s b =
      let at : ℕ = header_of g s c b in
      let m₁ : Mem = advanced g (counted_out m s) k c s (b + 1) (free g m s c (b + 1)) in
      let m₁' : Mem = advanced g (counted_out m' s) k c s (b + 1) (free g m' s c (b + 1)) in
      let e₁ : SameHeap m₁ m₁' = subst (λ f. SameHeap m₁ (advanced g (counted_out m' s) k c s (b + 1) f)) (sym (same_free m m' e s (b + 1)))
      (same_advanced (counted_out m s) (counted_out m' s) (same_counted m m' e s) s (b + 1) (free g m s c (b + 1))) in
      let m₂ : Mem = written m₁ at shape in
      let m₂' : Mem = written m₁' at shape in
      let e₂ : SameHeap m₂ m₂' = same_heap_run _ _ (same_heap m₁ m₁' e₁ at (header_word shape)) (at + 1) (replicate (field_count_of shape) 0) in
      let e₃ : SameHeap (blackened g m₂ k at) (blackened g m₂' k at) = same_then _ m₂ _ (same_back m₂ _ (leaves_blackened m₂ at)) (same_then m₂ m₂' _ e₂ (leaves_blackened m₂' at)) in
      same_mutator _ _ e₃ (k * mutator_words + d) (suc at)

  -- ---- out of the segment that is taken

  module _ (m m' : Mem) (e : SameHeap m m') where
    alike_block : (taken taken' : Mem) → SameHeap taken taken' → (s : ℕ) (f : Found) → Alike (in_block g m taken f k d c s shape) (in_block g m' taken' f k d c s shape)
    alike_block taken taken' a s (Ok (Some b)) = record { answer = refl; memory = same_handed taken taken' a s b }
    alike_block taken taken' a s (Ok None) = record { answer = refl; memory = e }
    alike_block taken taken' a s (Err _) = record { answer = refl; memory = e }

    alike_segment : (taken taken' : Mem) → SameHeap taken taken' → (s : ℕ) → Alike (in_segment g m taken k d c s shape) (in_segment g m' taken' k d c s shape)
    alike_segment taken taken' a s =
        let found : free g taken' s c (place taken' s) ≡ free g taken s c (place taken s) = same_free taken taken' a s (place taken' s) ∙ ap (free g taken s c) (same_place taken taken' a s) in
        subst (λ f. Alike (in_segment g m taken k d c s shape) (in_block g m' taken' f k d c s shape)) (sym found) (alike_block taken taken' a s (free g taken s c (place taken s)))

    same_pop : (t : ℕ) → SameHeap (pop g m t) (pop g m' t)
    same_pop t =
        subst (λ n. SameHeap (pop g m t) (set_stack m' (t * (1 + g.segments)) (n - 1))) (sym (same_count g m m' e t))
        (same_stack m m' e (t * (1 + g.segments)) (count g m t - 1))

    same_set_held : (t s p : ℕ) → SameHeap (set_held g (pop g m t) k c s p) (set_held g (pop g m' t) k c s p)
    same_set_held t s p = same_mutator _ _ (same_state g _ _ (same_pop t) s (Held c p k)) _ (suc s)

    same_fresh : (taken taken' : Mem) → SameHeap taken taken' → (s : ℕ) → SameHeap (freshened g taken s c) (freshened g taken' s c)
    same_fresh taken taken' a s =
        subst
        (λ (l : List ℕ). SameHeap (freshened g taken s c)
        (set_run taken' Region.bitmaps (s * bitmap_words g) (fresh (above g c) (blocks_in g c) (take (bitmap_words g) (drop (s * bitmap_words g) l)))))
        (sym a.bitmaps)
        (same_bitmap taken taken' a (s * bitmap_words g) (fresh (above g c) (blocks_in g c) (bitmap g taken s)))

    alike_source : (o : Source) → Alike (from_source g m k d c shape o) (from_source g m' k d c shape o)
    alike_source (held s) = alike_segment m m' e s
    alike_source (part s) =
        let a : SameHeap (set_held g (pop g m (part_stack c)) k c s (place m s)) (set_held g (pop g m' (part_stack c)) k c s (place m' s)) =
        subst (λ p. SameHeap (set_held g (pop g m (part_stack c)) k c s (place m s)) (set_held g (pop g m' (part_stack c)) k c s p)) (sym (same_place m m' e s))
        (same_set_held (part_stack c) s (place m s)) in
        alike_segment _ _ a s
    alike_source (unused s) = alike_segment _ _ (same_fresh _ _ (same_set_held free_stack s 0) s) s
    alike_source no_room = record { answer = refl; memory = e }

    same_source : IsClass c → source_of g m' k c ≡ source_of g m k c
    same_source i =
        ap
        (λ w. pick (eqb w 0)
        (pick (eqb (count g m' (part_stack c)) 0) (pick (eqb (count g m' free_stack) 0) no_room (unused (top g m' free_stack))) (part (top g m' (part_stack c))))
        (held (w - 1))) (same_holding m m' e k c i)
        ∙ ap (λ (l : List ℕ). source_of g (with_region m Region.stacks l) k c) e.stacks

    pub alike_made : IsClass c → Alike (made g m k d c shape) (made g m' k d c shape)
    unfolding made
    alike_made i = subst (λ o. Alike (made g m k d c shape) (from_source g m' k d c shape o)) (sym (same_source i)) (alike_source (source_of g m k c))
