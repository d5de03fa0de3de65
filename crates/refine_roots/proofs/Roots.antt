-- A root set to nil or to what is reached: load, copy and clear.
use mathlib.Core.Path.{◌≡◌, ◌∙◌, ap}
use mathlib.Core.Bool.{true, not}
use Prim.Native.Nat.{ℕ, suc, ◌<◌}
use native.Mathlib.Omega.{arith}
use lib.Dec.{eqb}
use Rattle.layout.specs.declared.Geometry.{Geometry}
use Rattle.layout.specs.Geometry.{mutator_count, root_count, segment_of}
use Rattle.layout.specs.Mem.{Mem, set_mutator, Sizes}
use Rattle.theory.specs.Update.{upd2}
use Rattle.theory.proofs.Invariant.{root_live}
use Rattle.model.specs.Fields.{absent, inside, state, set_root, root}
use Rattle.model.specs.Records.{record?}
use Rattle.model.specs.Calls.{is_attached}
use Rattle.model.specs.Reaching.{Reached}
use Rattle.refine_view.specs.View.{view}
use Rattle.refine_view.specs.Refines.{Ordered, Moves}
use Rattle.model_laws.proofs.Bools.{not_eq}
use Rattle.refine_view.proofs.Seeing.{reached_on}
use Rattle.model_laws.proofs.Rooted.{named}
use Rattle.refine_view.proofs.Invariants.{to_inv, structure_of}
use Rattle.model_laws.proofs.Words.{mutator_there}
use Rattle.theory.proofs.Updates.{upd2_by}
use Rattle.model_laws.proofs.Entries.{state_set, acks_set, root_set, mutators_set, held_set}
use Rattle.refine_view.proofs.EntriesOnly.{entries_moves}
use Rattle.theory.specs.Machine as machine

module _ (g : Geometry) (m : Mem) (s : Sizes g m) (c : Ordered g m) (k d v : ℕ) (l : k < mutator_count) (a : is_attached m k ≡ true) (h : d < root_count) where
  abbrev now : Mem
  now = set_root m k d v

  there : (j i : ℕ) → j ≡ k → i ≡ d → root now j i ≡ v
  there j i e f = ap (λ z. root now z i) e ∙ ap (root now k) f ∙ mutator_there g m s k d v l (omega arith)

  root_at : (j i : ℕ) → i < root_count → record? (root now j i) ≡ upd2 (λ j i. record? (root m j i)) k d (record? v) j i
  root_at j i q =
      upd2_by (λ j i. record? (root m j i)) k d (record? v) j i (record? (root now j i)) (λ e f. ap record? (there j i e f))
      (λ f. ap record? (root_set g m s k d v l (omega arith) j i q f))

  state_same : (j : ℕ) → state now j ≡ state m j
  state_same j = state_set g m s k d v l (omega arith) j (λ x y. omega arith)

  module _ (r : (b : ℕ) → v ≡ suc b → Reached m b) where
    pub root_moves : Moves g m (set_root m k d v) (machine.set_root (view g m) k d (record? v))
    unfolding set_mutator
    root_moves = entries_moves g m _ _ _ _ _ s (structure_of g m c) (record {
      mutators = mutators_set g m s c.mutators k d v l (omega arith) (not_eq _ _ a) (λ e. absurd (omega arith)) (λ e. absurd (omega arith));
      held = held_set g m s c.mutators k d v l (omega arith) (not_eq _ _ a) (λ e. absurd (omega arith)) (λ e. absurd (omega arith));
      attached = λ j. ap (λ x. not (eqb x absent)) (state_same j);
      inside = λ j. ap (λ x. eqb x inside) (state_same j);
      acks = λ j. acks_set g m s k d v l (omega arith) j (λ x y. omega arith);
      root = λ j i b q. root_at j i q;
      live = λ x p. root_live (segment_of g) (view g m) (to_inv g m s c) k d (record? v) (λ b e. reached_on g m (r b (named v b e))) p;
    })
