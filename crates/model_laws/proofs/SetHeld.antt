-- The words of `set_held`: a word of a stack set, then a segment held and entered in its mutator's table.
use mathlib.Core.Path.{◌≡◌, refl, ◌∙◌, ap}
use mathlib.Core.List.{List}
use Prim.Native.Nat.{ℕ, suc, ◌+◌, ◌-◌, ◌*◌, ◌<◌}
use native.Mathlib.Omega.{arith}
use lib.ListN.{get_or}
use Rattle.classes.specs.Class.{first_class, IsClass}
use Rattle.layout.specs.declared.Geometry.{Geometry}
use Rattle.layout.specs.Geometry.{mutator_count, mutator_words}
use Rattle.layout.specs.Mem.{Mem, mutator_word, set_mutator, set_segment, set_stack, Sizes}
use Rattle.model.specs.declared.SegmentState.TheVariants.{Held}
use Rattle.model.specs.Fields.{holding, held_from}
use Rattle.model.specs.Segments.{set_segment_state}
use Rattle.model.specs.Making.{set_held}
use Rattle.model_laws.proofs.Words.{Recorded, CountsStay, Untouched, untouched_same, untouched_then, untouched_as, counted_then, recorded_as, state_there, state_other, state_counts}
use Rattle.model_laws.proofs.Entries.{table_there, table_other}
use Rattle.model_laws.proofs.Lengths.{sizes_stack, sizes_state, sizes_mutator}

module _ (g : Geometry) (m : Mem) (s : Sizes g m) (n v k cl r p : ℕ) where
  abbrev pub popped : Mem
  popped = set_stack m n v

  abbrev pub noted : Mem
  noted = set_segment_state g popped r (Held cl p k)

  abbrev pub after : Mem
  after = set_held g popped k cl r p

  noted_sizes : Sizes g noted
  noted_sizes = sizes_state g popped (sizes_stack g m s n v) r (Held cl p k)

  pub set_held-sizes : Sizes g after
  set_held-sizes = sizes_mutator g noted noted_sizes _ _

  segments_as : after.segments ≡ noted.segments
  unfolding set_mutator
  segments_as = refl

  pub set_held-there : r < g.segments → Recorded after r 2 cl p k
  set_held-there l = let z = (sizes_stack g m s n v).segments in recorded_as noted after r 2 cl p k segments_as (state_there g popped r (Held cl p k) (omega arith))

  pub set_held-other : (q : ℕ) → (q ≡ r → ⊥) → Untouched m after q
  unfolding set_stack
  set_held-other q f = untouched_as segments_as (untouched_then (untouched_same m popped q refl) (state_other g popped r (Held cl p k) q f))

  pub set_held-counts : (q : ℕ) → CountsStay m after q
  unfolding set_stack
  set_held-counts q = counted_then (counted_then (untouched_same m popped q refl).counts (state_counts g popped r (Held cl p k) q)) (untouched_same noted after q segments_as).counts

  mutators_as : noted.mutators ≡ m.mutators
  unfolding set_stack set_segment_state set_segment
  mutators_as = refl

  module _ (few : k < mutator_count) (ic : IsClass cl) where
    pub set_held-holds : holding after k cl ≡ suc r
    set_held-holds = table_there g noted noted_sizes k cl (suc r) few ic

    pub set_held-entries : (k' o : ℕ) → o < mutator_words → (k' ≡ k → o ≡ held_from + (cl - first_class) → ⊥) → mutator_word after (k' * mutator_words + o) ≡ mutator_word m (k' * mutator_words + o)
    set_held-entries k' o h f = table_other g noted noted_sizes k cl (suc r) few ic k' o h f ∙ ap (λ (l : List ℕ). get_or l (k' * mutator_words + o) 0) mutators_as
