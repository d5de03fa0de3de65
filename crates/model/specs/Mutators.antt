-- Mutators that acknowledge a handshake, come and go.
use Rattle.std.specs.Prelude.{List, ◌∷◌, ◌++◌, ℕ, zero, suc, ◌+◌, ◌-◌, ◌*◌, eqb, replicate}
use Rattle.basics.specs.Pick.{pick}
use Rattle.classes.specs.Class.{first_class, class_count}
use Rattle.layout.specs.declared.Geometry.{Geometry}
use Rattle.layout.specs.Geometry.{mutator_words, root_count}
use Rattle.layout.specs.Mem.{Mem, set_run}
use Rattle.theory.specs.Phases.{Phase, idle, sync1, sync2, mark, sweep, owes, newcomer}
use Rattle.model.specs.declared.SegmentState.TheVariants.{Part}
use Rattle.model.specs.Fields.{phase, inside, held_from, acks, set_acks, holding, place}
use Rattle.model.specs.Segments.{set_segment_state, part_stack, stacked}
use Rattle.model.specs.Tracing.{push_roots}
use Rattle.layout.specs.Region as Region

-- "In roll 2 this enters its slots, in slot order, on the trace stack."
abbrev pub given : Geometry → Phase → Mem → ℕ → Mem
given g idle m k = m
given g sync1 m k = set_acks m k 1
given g sync2 m k = set_acks (push_roots g m k root_count) k 2
given g mark m k = m
given g sweep m k = m

-- "a script that owes an answer to the roll call gives it .. Otherwise nothing changes."
unfoldable pub acknowledged : Geometry → Mem → ℕ → Mem
acknowledged g m k = pick (owes (phase m) (acks m k)) (given g (phase m) m k) m

-- a mutator's entry, written whole
abbrev pub set_entry : Mem → ℕ → List ℕ → Mem
set_entry m k ws = set_run m Region.mutators (k * mutator_words) ws

-- "attach: empty slots, inside. spawn: the same, but slot 0 is a copy of one slot of an inside parent."
unfoldable pub attached : Mem → ℕ → ℕ → Mem
attached m k v = set_entry m k (v ∷ replicate (root_count - 1) 0 ++ inside ∷ newcomer (phase m) ∷ replicate (mutator_words - held_from) 0)

-- "held segments go to part, places kept, in class order": the one of class c, and those of the first n classes
abbrev pub released_one : Geometry → Mem → ℕ → ℕ → Mem
released_one g m k c =
    pick (eqb (holding m k c) 0) m (stacked g (set_segment_state g m (holding m k c - 1) (Part c (place m (holding m k c - 1)))) (part_stack c) (holding m k c - 1))

unfoldable pub released : Geometry → Mem → ℕ → ℕ → Mem
released g m k zero = m
released g m k (suc n) = released_one g (released g m k n) k (first_class + n)

-- "detach: slots emptied; held segments go to part"
unfoldable pub detached : Geometry → Mem → ℕ → Mem
detached g m k = set_entry (released g m k class_count) k (replicate mutator_words 0)
