-- A mutator's side set: enter, and the second half of leave.
use mathlib.Core.Path.{◌≡◌, sym, ◌∙◌, ap}
use mathlib.Core.Logic.{⊎_elim}
use mathlib.Core.Bool.{not}
use Prim.Native.Nat.{ℕ, ◌≤◌, ◌<◌}
use native.Mathlib.Omega.{arith}
use lib.Dec.{eqb}
use Rattle.basics.proofs.Order.{same_or_not}
use Rattle.layout.specs.declared.Geometry.{Geometry}
use Rattle.layout.specs.Geometry.{mutator_count}
use Rattle.layout.specs.Mem.{Mem, set_mutator, Sizes}
use Rattle.model.specs.Fields.{absent, inside, state_at, state, set_mutator_state}
use Rattle.model.specs.Records.{record?}
use Rattle.model.specs.Calls.{is_attached, is_inside}
use Rattle.refine_view.specs.View.{view}
use Rattle.refine_view.specs.Refines.{Structure, Moves}
use Rattle.model_laws.proofs.Bools.{ne_not}
use Rattle.model_laws.proofs.Words.{mutator_there}
use Rattle.theory.proofs.Updates.{upd_by}
use Rattle.model_laws.proofs.Entries.{state_set, acks_set, root_set, mutators_set, held_set}
use Rattle.refine_view.proofs.EntriesOnly.{entries_moves}
use Rattle.theory.specs.Machine as machine

module _ (g : Geometry) (m : Mem) (s : Sizes g m) (o : Structure g m) (k v : ℕ) (l : k < mutator_count) (there : state m k ≡ absent → ⊥) (some : 1 ≤ v) (most : v ≤ 2) where
  abbrev now : Mem
  now = set_mutator_state m k v

  here : (j : ℕ) → j ≡ k → state now j ≡ v
  here j e = ap (state now) e ∙ mutator_there g m s k state_at v l (omega arith)

  elsewhere : (j : ℕ) → (j ≡ k → ⊥) → state now j ≡ state m j
  elsewhere j f = state_set g m s k state_at v l (omega arith) j (λ x y. f x)

  attached_at : (j : ℕ) → is_attached now j ≡ is_attached m j
  attached_at j =
      ⊎_elim (λ e. ne_not (state now j) absent (λ z. let y = here j e in omega arith) ∙ sym (ap (is_attached m) e ∙ ne_not _ _ there))
      (λ f. ap (λ x. not (eqb x absent)) (elsewhere j f)) (same_or_not j k)

  pub side_moves : Moves g m (set_mutator_state m k v) (machine.set_inside (view g m) k (eqb v inside))
  unfolding set_mutator
  side_moves = entries_moves g m _ _ _ _ _ s o (record {
    mutators = mutators_set g m s o.mutators k state_at v l (omega arith) there (λ _. (some, most)) (λ e. absurd (omega arith));
    held = held_set g m s o.mutators k state_at v l (omega arith) there (λ _. (some, most)) (λ e. absurd (omega arith));
    attached = attached_at;
    inside = λ j. upd_by (is_inside m) k (eqb v inside) j (is_inside now j) (λ e. ap (λ x. eqb x inside) (here j e)) (λ f. ap (λ x. eqb x inside) (elsewhere j f));
    acks = λ j. acks_set g m s k state_at v l (omega arith) j (λ x y. omega arith);
    root = λ j i a q. ap record? (root_set g m s k state_at v l (omega arith) j i q (λ x y. omega arith));
    live = λ x p. p;
  })
