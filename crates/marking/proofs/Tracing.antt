-- A step in mark: with an empty trace stack it moves to sweep; else it traces the last entry, and in consistent memory nothing hinders it.
use mathlib.Core.Path.{◌≡◌, refl, sym, ◌∙◌, ap, subst}
use mathlib.Core.Logic.{◌⊎◌, inl, inr}
use Prim.Native.Nat.{ℕ, suc, ◌+◌, ◌-◌, ◌≤◌}
use native.Mathlib.Omega.{arith}
use native.Mathlib.Nat.{pos_of_ne-zero}
use Rattle.layout.specs.declared.Geometry.{Geometry}
use Rattle.layout.specs.Geometry.{len}
use Rattle.layout.specs.Mem.{Mem, Sizes, trace_word, set_control}
use Rattle.theory.specs.Phases.{sweep}
use Rattle.model.specs.PhaseNumbers.{phase_number}
use Rattle.model.specs.declared.Step.{Step}
use Rattle.model.specs.declared.Step.TheVariants.{Moved, Traced, Refused}
use Rattle.model.specs.Answers.{is_moved, is_traced}
use Rattle.model.specs.Fields.{trace_count}
use Rattle.model.specs.Records.{pointer_count, pointer}
use Rattle.model.specs.Tracing.{push_pointers, popped, traced}
use Rattle.model.specs.Collector.{traces}
use Rattle.model.specs.Consistent.{RecordOk, Consistent}
use Rattle.model.specs.StepParts.{StepsAs}
use Rattle.model_laws.proofs.Pushes.{PushReady, pointers_none, pointers_next}
use Rattle.model_laws.proofs.Popped.{entries_few, last_ok, last_inside, pointed_ok, ready_popped}
use Rattle.model_laws.proofs.StepParts.{steps_done, steps_13}
use Rattle.tracing.proofs.Succeeds.{fold_succeeds}
use Rattle.marking.specs.Visiting.{PointerFails, Visits}
use Rattle.theory.specs.Calls as theory
use Rattle.layout.specs.Region as Region

abbrev in_mark : Geometry → Mem → theory.Answer × Mem
in_mark g m = traces g (trace_count m) m

-- ---- nothing hinders the pushes of the last entry's pointers

module _ (g : Geometry) (m : Mem) (s : Sizes g m) (c : Consistent g m) (n at : ℕ) (is : trace_count m ≡ suc n) (names : trace_word m n ≡ suc at) where
  same_pointer : (i : ℕ) → pointer (popped g m at) at i ≡ pointer m at i
  unfolding set_control
  same_pointer i = refl

  pointers_succeed : PointerFails g (popped g m at) at (pointer_count m at) → ⊥
  pointers_succeed f =
      let l = f.within in
      fold_succeeds g (push_pointers g (popped g m at) at) (pointer (popped g m at) at) (pointers_next g (popped g m at) at)
      (subst (PushReady g) (sym (pointers_none g (popped g m at) at)) (ready_popped g m c n at is names s)) f.index
      (λ i x q e. subst (λ y. RecordOk g y x) (sym (pointers_none g (popped g m at) at)) (pointed_ok g m c n at is names i x (omega arith) (sym (same_pointer i) ∙ e))) f.why

  visit_succeeds : (len g Region.heap ≤ at + pointer_count m at) ⊎ PointerFails g (popped g m at) at (pointer_count m at) → ⊥
  visit_succeeds (inl l) = let h = last_inside g m c n at is names in omega arith
  visit_succeeds (inr f) = pointers_succeed f

-- ---- k is the count, w the last entry

module _ (g : Geometry) (m : Mem) (s : Sizes g m) (k : ℕ) (e : k ≡ trace_count m) where
  pub trace_moved : k ≡ 0 → (m' : Mem) → m' ≡ set_control m 0 (phase_number sweep) → StepsAs in_mark g m Moved m'
  trace_moved z m' u = steps_done in_mark g m refl is_moved (λ _. rw (sym e ∙ z) (refl, u))

  module _ (f : k ≡ 0 → ⊥) where
    count_is : trace_count m ≡ suc (k - 1)
    count_is = let l = pos_of_ne-zero f in omega arith

    pub trace_over : (d : ℕ) → d ≡ len g Region.trace → d ≤ k - 1 → (m' : Mem) → StepsAs in_mark g m (Refused 13) m'
    trace_over d z l m' = steps_13 in_mark g m (λ c. let h = entries_few g m c in let q = count_is in omega arith)

    module _ (w : ℕ) (ew : w ≡ trace_word m (k - 1)) where
      pub trace_nil : w ≡ 0 → (m' : Mem) → StepsAs in_mark g m (Refused 13) m'
      trace_nil z m' = steps_13 in_mark g m (λ c. let h = c.sound.trace.named (k - 1) (let q = count_is in omega arith) in omega arith)

      module _ (v : w ≡ 0 → ⊥) where
        names : trace_word m (k - 1) ≡ suc (w - 1)
        names = let l = pos_of_ne-zero v in omega arith

        pub trace_torn : (d : ℕ) → d ≡ len g Region.heap → d ≤ w - 1 → (m' : Mem) → StepsAs in_mark g m (Refused 13) m'
        trace_torn d z l m' = steps_13 in_mark g m (λ c. let i = (last_ok g m c (k - 1) (w - 1) count_is names).inside in omega arith)

        does : in_mark g m ≡ (theory.a_traced, traced g m (w - 1))
        does = ap (λ x. traces g x m) count_is ∙ ap (λ x. (theory.a_traced, traced g m (x - 1))) (sym ew)

        pub trace_visits : (r : Step) (m' : Mem) → Visits g m (w - 1) r m' → StepsAs in_mark g m r m'
        trace_visits r m' x = go x.either
          where
            go : ((r ≡ Traced) × (m' ≡ traced g m (w - 1)))
                ⊎ ((r ≡ Refused 13) × ((len g Region.heap ≤ w - 1 + pointer_count m (w - 1)) ⊎ PointerFails g (popped g m (w - 1)) (w - 1) (pointer_count m (w - 1))))
                → StepsAs in_mark g m r m'
            go (inl (u, y)) =
                subst (λ z. StepsAs in_mark g m z m') (sym u)
                (steps_done in_mark g m refl is_traced (λ _. (sym (ap (λ z. z.0) does), y ∙ sym (ap (λ z. z.1) does))))
            go (inr (u, y)) =
                subst (λ z. StepsAs in_mark g m z m') (sym u) (steps_13 in_mark g m (λ c. visit_succeeds g m s c (k - 1) (w - 1) count_is names y))
