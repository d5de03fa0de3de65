-- States that agree still do after the same acknowledgement, and after the same side.
use mathlib.Core.Path.{◌≡◌, refl, sym, ◌∙◌, ap, subst}
use mathlib.Core.Logic.{inl}
use mathlib.Core.Bool.{Bool, true}
use mathlib.Core.List.{List}
use Prim.Native.Nat.{ℕ, zero, suc}
use Rattle.layout.specs.Geometry.{root_count}
use Rattle.theory.specs.Phases.{Phase, idle, sync1, sync2, mark, sweep}
use Rattle.theory.specs.Reach.{root}
use Rattle.theory.specs.TraceStack.{tab, pushes}
use Rattle.theory.specs.Machine.{State, Live, set_acks, set_inside, acknowledge, check}
use Rattle.theory.proofs.Agree.{Agree}
use Rattle.theory.proofs.Invariant.{Tracing}
use Rattle.theory.proofs.Updates.{upd_alike, tab_inv, tab_same, pushes_alike}
use Rattle.theory.proofs.CycleKeeps.{acknowledge_live}

module _ (segment_of : ℕ → ℕ) (st st' : State) (a : Agree segment_of st st') where
  acks_agree : (i v : ℕ) (l l' : List ℕ) → l' ≡ l → ((b : ℕ) → Live (set_acks st i v l) b → Live st b) → Agree segment_of (set_acks st i v l) (set_acks st' i v l')
  acks_agree i v l l' e back = record {
    phase = a.phase;
    stack = e;
    attached = a.attached;
    inside = a.inside;
    acks = upd_alike st'.acks st.acks i v a.acks;
    root = a.root;
    marked = λ t x h. a.marked t x (back x h);
    condemned_marks = a.condemned_marks;
    condemned = a.condemned;
    pointer_count = λ x h. a.pointer_count x (back x h);
    values = λ x h. a.values x (back x h);
    pointer = λ x f h. a.pointer x f (back x h);
    used = λ x h. a.used x (back x h);
  }

  pub inside_agree : (i : ℕ) (b : Bool) → Agree segment_of (set_inside st i b) (set_inside st' i b)
  inside_agree i b = record {
    phase = a.phase;
    stack = a.stack;
    attached = a.attached;
    inside = upd_alike st'.inside st.inside i b a.inside;
    acks = a.acks;
    root = a.root;
    marked = a.marked;
    condemned_marks = a.condemned_marks;
    condemned = a.condemned;
    pointer_count = a.pointer_count;
    values = a.values;
    pointer = a.pointer;
    used = a.used;
  }

  module _ (i : ℕ) (there : st.attached i ≡ true) where
    abbrev entered : State → List ℕ
    entered z = pushes z.marked (tab root_count (z.root i)) z.stack

    entered_same : Tracing st.phase → entered st' ≡ entered st
    entered_same t =
        ap (λ z. pushes st'.marked z st'.stack) (tab_same root_count (st'.root i) (st.root i) (λ k l. a.root i k there l))
        ∙ ap (pushes st'.marked (tab root_count (st.root i))) a.stack
        ∙ pushes_alike st'.marked st.marked (tab root_count (st.root i)) st.stack
        (λ b h. let z = tab_inv root_count (st.root i) h in a.marked t b (root (inl (i, (z.0, there, z.1, z.2)))))

    first : Agree segment_of (set_acks st i 1 st.stack) (set_acks st' i 1 st'.stack)
    first = acks_agree i 1 st.stack st'.stack a.stack (λ b p. p)

    second : Tracing st.phase → Agree segment_of (set_acks st i 2 (entered st)) (set_acks st' i 2 (entered st'))
    second t = acks_agree i 2 (entered st) (entered st') (entered_same t) (λ b p. acknowledge_live st i there p)

    by_phase : (p : Phase) (n : ℕ) → st.phase ≡ p → Agree segment_of (acknowledge p n st i) (acknowledge p n st' i)
    by_phase idle n e = a
    by_phase sync1 zero e = first
    by_phase sync1 (suc n) e = a
    by_phase sync2 zero e = second (subst Tracing (sym e) tt)
    by_phase sync2 (suc zero) e = second (subst Tracing (sym e) tt)
    by_phase sync2 (suc (suc n)) e = a
    by_phase mark n e = a
    by_phase sweep n e = a

    pub check_agree : Agree segment_of (check st i) (check st' i)
    check_agree =
        subst (λ z. Agree segment_of (check st i) (acknowledge z (st'.acks i) st' i)) (sym a.phase)
        (subst (λ z. Agree segment_of (check st i) (acknowledge st.phase z st' i)) (sym (a.acks i)) (by_phase st.phase (st.acks i) refl))
