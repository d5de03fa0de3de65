-- A step in a handshake, on the memory and on the machine.
use mathlib.Core.Path.{◌≡◌, refl, sym, ◌∙◌, ap, subst}
use mathlib.Core.Logic.{◌⊎◌, inl, inr}
use mathlib.Core.Bool.{Bool, true, not, ◌&&◌}
use Prim.Native.Nat.{ℕ, zero, suc, ◌≤◌, ◌<◌}
use native.Mathlib.Omega.{arith}
use lib.Dec.{eqb}
use borrow.Author.Tests.{ne_eqb}
use Rattle.basics.specs.Pick.{pick, one_if}
use Rattle.basics.proofs.Order.{same_or_not}
use Rattle.layout.specs.declared.Geometry.{Geometry}
use Rattle.layout.specs.Geometry.{mutator_count, segment_of}
use Rattle.layout.specs.Mem.{Mem, Sizes}
use Rattle.theory.specs.Phases.{Phase, sync1, sync2, mark, owes}
use Rattle.theory.specs.Machine.{State, check}
use Rattle.theory.specs.MachineCalls.{outside, answer_outside, move}
use Rattle.theory.proofs.Agree.{Agree, agree_inv}
use Rattle.theory.proofs.Invariant.{Tracing}
use Rattle.theory.proofs.CycleKeeps.{check_inv}
use Rattle.model.specs.Fields.{phase, state, acks}
use Rattle.model.specs.Calls.{is_attached}
use Rattle.model.specs.Mutators.{acknowledged}
use Rattle.model.specs.Collector.{outside_answered, waiting, moved_or_waiting}
use Rattle.refine_view.specs.View.{view}
use Rattle.refine_view.specs.Refines.{Ordered, EachOccupied, Moves, MarksIn, Steady}
use Rattle.model_laws.proofs.Bools.{not_eq, and_false}
use Rattle.model.specs.Consistent.{bit_word}
use Rattle.refine_view.proofs.Invariants.{to_inv, ordered_of, structure_of}
use Rattle.refine_view.proofs.SelfSimulation.{agree_self}
use Rattle.model_laws.proofs.Operations.{sizes_acknowledged}
use Rattle.refine_view.proofs.Phasing.{phase_moves}
use Rattle.refine_trace.proofs.Acknowledging.{acknowledged_moves}
use Rattle.theory.proofs.Agree.{agree_trans}
use Rattle.theory.proofs.AgreeKeeps.{check_agree}
use Rattle.theory.proofs.CollectorKeeps.{outside_later}
use Rattle.model.specs.Consistent.{Behind}
use Rattle.theory.specs.MachineCalls as machine
use Rattle.theory.specs.Reach as reach

-- a memory after answers, beside the machine's state after them
record Answered (g : Geometry) (m m' : Mem) (st : State) : Type 0 where
  pub sizes : Sizes g m'
  pub ordered : Ordered g m'
  pub occupied : EachOccupied g m → EachOccupied g m'
  pub behind : Behind g m → Behind g m'
  pub agree : Agree (segment_of g) st (view g m')
  pub steady : Steady g m m'

module _ (g : Geometry) (m : Mem) where
  -- one more mutator answers
  one_answers : (m' : Mem) (st : State) → Answered g m m' st → (k : ℕ) → k < mutator_count → st.attached k ≡ true → Answered g m (acknowledged g m' k) (check st k)
  one_answers m' st w k l h =
      let there : is_attached m' k ≡ true = w.agree.attached k ∙ h in
      let v = acknowledged_moves g m' w.sizes w.ordered k l (not_eq _ _ there) in
      let z = sizes_acknowledged g m' w.sizes k in
      record {
        sizes = z;
        ordered =
            ordered_of g (acknowledged g m' k) z v.structure
            (agree_inv (segment_of g) (check (view g m') k) (view g (acknowledged g m' k)) v.agree (check_inv (segment_of g) (view g m') (to_inv g m' w.sizes w.ordered) k there));
        agree = agree_trans (segment_of g) (check st k) (check (view g m') k) (check_agree (segment_of g) st (view g m') w.agree k h) (view g (acknowledged g m' k)) v.agree;
        occupied = λ u. v.occupied (w.occupied u);
        behind = λ u. v.behind (w.behind u);
        steady = λ x d e. let a = v.steady x d e in let b = w.steady x d a.0 in (b.0, a.1 ∙ b.1);
      }

  -- by the state of a mutator's entry
  by_state : (m' : Mem) (st : State) → Answered g m m' st → (k : ℕ) → k < mutator_count → (x : ℕ) → x ≤ 2 → st.attached k ≡ not (eqb x 0)
      → Answered g m (pick (eqb x 2) (acknowledged g m' k) m') (outside (not (eqb x 0)) (eqb x 1) st (check st k))
  by_state m' st w k l zero h a = w
  by_state m' st w k l (suc zero) h a = w
  by_state m' st w k l (suc (suc zero)) h a = one_answers m' st w k l a
  by_state m' st w k l (suc (suc (suc x))) h a = absurd (omega arith)

  answered_next : (k : ℕ) → outside_answered g m (suc k) ≡ pick (eqb (state m k) 2) (acknowledged g (outside_answered g m k) k) (outside_answered g m k)
  unfolding outside_answered
  answered_next k = refl

  answered_none : outside_answered g m 0 ≡ m
  unfolding outside_answered
  answered_none = refl

  module _ (s : Sizes g m) (c : Ordered g m) where
    all_answered : (n : ℕ) → n ≤ mutator_count → Answered g m (outside_answered g m n) (answer_outside n (view g m))
    all_answered zero h =
        subst (λ z. Answered g m z (view g m)) (sym answered_none)
        (record { sizes = s; ordered = c; occupied = λ u. u; behind = λ u. u; agree = agree_self g m; steady = λ x l e. (e, refl) })
    all_answered (suc n) h =
        let w = all_answered n (omega arith) in
        let u = outside_later n (view g m) in
        subst
        (λ z. Answered g m z (outside ((answer_outside n (view g m)).attached n) ((answer_outside n (view g m)).inside n) (answer_outside n (view g m)) (check (answer_outside n (view g m)) n)))
        (sym (answered_next n))
        (subst
        (λ z. Answered g m (pick (eqb (state m n) 2) (acknowledged g (outside_answered g m n) n) (outside_answered g m n))
        (outside z ((answer_outside n (view g m)).inside n) (answer_outside n (view g m)) (check (answer_outside n (view g m)) n)))
        (sym (u.attached n))
        (subst
        (λ z. Answered g m (pick (eqb (state m n) 2) (acknowledged g (outside_answered g m n) n) (outside_answered g m n))
        (outside (is_attached m n) z (answer_outside n (view g m)) (check (answer_outside n (view g m)) n))) (sym (u.inside n))
        (by_state (outside_answered g m n) (answer_outside n (view g m)) w n h (state m n) (c.mutators n h).states (u.attached n))))

-- ---- how many still owe an answer

inside_attached : (x : ℕ) (o : Bool) → (eqb x 1 && o) ≡ (not (eqb x 0) && (eqb x 1 && o))
inside_attached x o = go (same_or_not x 1)
  where
    go : (x ≡ 1) ⊎ (x ≡ 1 → ⊥) → (eqb x 1 && o) ≡ (not (eqb x 0) && (eqb x 1 && o))
    go (inl e) = rw e refl
    go (inr d) = rw (ne_eqb x 1 d) (sym (and_false (not (eqb x 0))))

module _ (g : Geometry) (m : Mem) (st : State) (a : Agree (segment_of g) st (view g m)) where
  owing : (k : ℕ) → one_if (eqb (state m k) 1 && owes (phase m) (acks m k)) ≡ one_if (st.attached k && (st.inside k && owes st.phase (st.acks k)))
  owing k = rw (← a.attached k, ← a.inside k, ← a.phase, ← a.acks k) (ap one_if (inside_attached (state m k) (owes (phase m) (acks m k))))

  waiting_same : (n : ℕ) → waiting m n ≡ machine.waiting n st
  unfolding waiting
  waiting_same zero = refl
  waiting_same (suc n) = let x = owing n in let y = waiting_same n in omega arith

-- ---- the step

module _ (g : Geometry) (m m' : Mem) (st : State) (w : Answered g m m' st) (p : Phase) (tracing : Tracing p → Tracing st.phase) (marks : MarksIn p g m') where
  now : Moves g m m' st
  now = record { structure = structure_of g m' w.ordered; occupied = w.occupied; behind = w.behind; agree = w.agree; steady = w.steady }

  by_waiting : (n : ℕ) → Moves g m (moved_or_waiting n m' p).1 (move n st p)
  by_waiting zero = phase_moves g m m' st now w.sizes p tracing marks
  by_waiting (suc n) = now

  stepped : (n : ℕ) → Moves g m (moved_or_waiting (waiting m' n) m' p).1 (move (machine.waiting n st) st p)
  stepped n = subst (λ z. Moves g m (moved_or_waiting (waiting m' n) m' p).1 (move z st p)) (waiting_same g m' st w.agree n) (by_waiting (waiting m' n))

module _ (g : Geometry) (m : Mem) (s : Sizes g m) (c : Ordered g m) where
  -- the phase after the answers
  phase_kept : (n : ℕ) → n ≤ mutator_count → phase (outside_answered g m n) ≡ phase m
  phase_kept n h = (all_answered g m s c n h).agree.phase ∙ (outside_later n (view g m)).phase

  marks_kept : (n : ℕ) → n ≤ mutator_count → (p : Phase) → phase m ≡ p → MarksIn p g (outside_answered g m n)
  marks_kept n h p e = subst (λ z. MarksIn z g (outside_answered g m n)) (phase_kept n h ∙ e) (structure_of g (outside_answered g m n) (all_answered g m s c n h).ordered).marks

  tracing_kept : (n : ℕ) (p : Phase) → phase m ≡ p → Tracing p → Tracing (answer_outside n (view g m)).phase
  tracing_kept n p e t = subst Tracing (sym ((outside_later n (view g m)).phase ∙ e)) t

  -- what has a bit is on the stack, so it is a record in order
  blank : (m' : Mem) → Ordered g m' → MarksIn sync1 g m' → MarksIn sync2 g m'
  blank m' o h = λ k l u e. let r = o.records (bit_word k) (reach.root (inr (h k l e))) in record { used = r.used; aligned = r.aligned; block = r.block }

  pub first_by : (n : ℕ) → n ≤ mutator_count → phase m ≡ sync1
      → Moves g m (moved_or_waiting (waiting (outside_answered g m n) n) (outside_answered g m n) sync2).1
      (move (machine.waiting n (answer_outside n (view g m))) (answer_outside n (view g m)) sync2)
  first_by n h e =
      stepped g m (outside_answered g m n) (answer_outside n (view g m)) (all_answered g m s c n h) sync2 (λ t. tracing_kept n sync1 e tt)
      (blank (outside_answered g m n) (all_answered g m s c n h).ordered (marks_kept n h sync1 e)) n

  pub second_by : (n : ℕ) → n ≤ mutator_count → phase m ≡ sync2
      → Moves g m (moved_or_waiting (waiting (outside_answered g m n) n) (outside_answered g m n) mark).1
      (move (machine.waiting n (answer_outside n (view g m))) (answer_outside n (view g m)) mark)
  second_by n h e = stepped g m (outside_answered g m n) (answer_outside n (view g m)) (all_answered g m s c n h) mark (λ t. tracing_kept n sync2 e tt) (marks_kept n h sync2 e) n
