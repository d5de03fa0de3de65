-- Every mutator call over the memory: its refusals 2 to 9 by what the memory shows, in the order that theory's `refusal` writes once, then
-- 10 and 11, and what it does.
use Rattle.std.specs.Prelude.{Bool, not, ℕ, eqb, ltb, Some, None}
use Rattle.std.proofs.Math.Option.{map}
use Rattle.classes.specs.Record.{of_counts, class_of_record}
use Rattle.classes.specs.Class.{SizeClass}
use Rattle.layout.specs.declared.Geometry.{Geometry}
use Rattle.layout.specs.Geometry.{root_count}
use Rattle.layout.specs.Mem.{Mem}
use Rattle.theory.specs.Phases.{duty, in_handshake}
use Rattle.theory.specs.Calls.{Call, c_attach, c_detach, c_check, c_leave, c_enter, c_spawn, c_make, c_load, c_store, c_copy, c_clear, c_put, c_get, c_same, c_shape, Answer, a_ok, a_num, a_flag, a_shape, a_no, Observation, shape_if, refusal, refuse, on_record, unless, same_ref}
use Rattle.model.specs.Fields.{phase, absent, inside, outside, state, set_mutator_state, acks, root, set_root}
use Rattle.model.specs.Records.{record?, shape_of, pointer, set_pointer, value, set_value}
use Rattle.model.specs.Tracing.{barrier}
use Rattle.model.specs.Mutators.{acknowledged, attached, detached}
use Rattle.model.specs.Making.{made}

-- what the memory shows: "It is inside or outside", and the shape of the record in a root
abbrev pub is_attached : Mem → ℕ → Bool
is_attached m k = not (eqb (state m k) absent)

abbrev pub is_inside : Mem → ℕ → Bool
is_inside m k = eqb (state m k) inside

abbrev pub observe : Mem → Observation
observe m = record {
  attached = is_attached m;
  inside = is_inside m;
  shape = λ k i. shape_if (is_attached m k) (ltb i root_count) (map (shape_of m) (record? (root m k i)));
}

abbrev pub of_class : Mem → SizeClass → (ℕ → Answer × Mem) → Answer × Mem
of_class m (Some c) rest = rest c
of_class m None rest = (a_no 9, m)

-- what a call does that no number from 2 to 9 refuses; "11, not now: attach, spawn, detach in a roll call"
unfoldable pub act : Geometry → Mem → Call → Answer × Mem
act g m (c_attach k) = unless (in_handshake (phase m)) 11 m (attached m k 0)
act g m (c_spawn k p i) = unless (in_handshake (phase m)) 11 m (attached m k (root m p i))
act g m (c_detach k) = unless (in_handshake (phase m)) 11 m (detached g m k)
act g m (c_check k) = (a_ok, acknowledged g m k)
act g m (c_leave k) = (a_ok, set_mutator_state (acknowledged g m k) k outside)
act g m (c_enter k) = (a_ok, set_mutator_state m k inside)
act g m (c_make k d p n) = of_class m (class_of_record (of_counts p n)) (λ c. made g m k d c (of_counts p n))
act g m (c_load k d i f) = on_record (record? (root m k i)) m (λ at. (a_ok, set_root m k d (pointer m at f)))
act g m (c_store k i f j) =
    on_record (record? (root m k i)) m (λ at. (a_ok, set_pointer (barrier g (duty (phase m) (acks m k)) m (record? (root m k j)) (record? (pointer m at f))) at f (root m k j)))
act g m (c_copy k d i) = (a_ok, set_root m k d (root m k i))
act g m (c_clear k d) = (a_ok, set_root m k d 0)
act g m (c_put k i f v) = on_record (record? (root m k i)) m (λ at. (a_ok, set_value m at f v))
act g m (c_get k i f) = on_record (record? (root m k i)) m (λ at. (a_num (value m at f), m))
act g m (c_same k i j) = (a_flag (same_ref (record? (root m k i)) (record? (root m k j))), m)
act g m (c_shape k i) = on_record (record? (root m k i)) m (λ at. (a_shape (shape_of m at), m))

-- "The lowest number that applies is given."
unfoldable pub exec : Geometry → Mem → Call → Answer × Mem
exec g m c = refuse (refusal (observe m) c) m (act g m c)
