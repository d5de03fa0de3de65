-- What each phase asks, and what `Sound` is.
use mathlib.Core.Path.{◌≡◌, refl, sym, ap, ◌∙◌, subst}
use mathlib.Core.Logic.{◌⊎◌, inl, inr}
use mathlib.Core.Bool.{Bool, false}
use Prim.Native.Nat.{ℕ, zero, suc, ◌≤◌, ◌<◌}
use native.Mathlib.Omega.{arith}
use Rattle.basics.specs.Decides.{Decides}
use Rattle.basics.proofs.Deciding.{fails, via, refuted}
use Rattle.layout.specs.declared.Geometry.{Geometry}
use Rattle.layout.specs.Mem.{Mem, control_word}
use Rattle.theory.specs.Phases.{Phase, idle, sync1, sync2, mark, sweep}
use Rattle.theory.specs.Reach.{root}
use Rattle.theory.proofs.Graph.{reach_map}
use Rattle.model.specs.PhaseNumbers.{phase_of, phase_number}
use Rattle.model.specs.Fields.{phase, trace_count}
use Rattle.model.specs.Records.{entered, marked}
use Rattle.model.specs.Reaching.{IsRoot, IsEntry, Live, Reached}
use Rattle.model.specs.Consistent.{Sound}
use Rattle.model_laws.proofs.Marked.{entered_as, marked_entered}
use Rattle.examine_parts.specs.Parts.{Parts}
use Rattle.examine_trace.specs.Traced.{Traced}
use Rattle.examine_marks.specs.Heads.{Classes}
use Rattle.examine_sound.specs.Cycle.{Rest, IdleRest, SyncRest, MarkRest, SweepRest}

module _ (g : Geometry) (m : Mem) where
  -- with nothing on the trace stack, what is live is reached
  live_reached : trace_count m ≡ 0 → {x : ℕ} → Live m x → Reached m x
  live_reached e p = reach_map (λ x q. go x q) (λ x y r q. inl q) p
    where
      go : (x : ℕ) → IsRoot m x ⊎ IsEntry m x → Reached m x
      go x (inl r) = root r
      go x (inr q) = absurd (let l = q.within in omega arith)

  reached_live : {x : ℕ} → Reached m x → Live m x
  reached_live p = reach_map (λ x q. root (inl q)) (λ x y r q. inl q) p

  -- with nothing on the trace stack, what has a bit is marked
  bit_marked : trace_count m ≡ 0 → (x : ℕ) → entered g m x ≡ 1 → marked g m x ≡ 1
  bit_marked e x b = go (entered_as g m x b)
    where
      go : IsEntry m x ⊎ (marked g m x ≡ 1) → marked g m x ≡ 1
      go (inl q) = absurd (let l = q.within in omega arith)
      go (inr q) = q

  module _ (n : ℕ) (en : n ≡ control_word m 0) (r : Bool) where
    is : (k : ℕ) → n ≡ k → phase m ≡ phase_of k
    is k e = ap phase_of (sym en ∙ e)

    to : (p : Phase) → phase m ≡ p → Decides r (Rest p g m) → Decides r (Rest (phase m) g m)
    to p e d = subst (λ (z : Phase). Decides r (Rest z g m)) (sym e) d

    pub in_idle : n ≡ phase_number idle → Decides r (IdleRest g m) → Decides r (Rest (phase m) g m)
    in_idle e d = to idle (is (phase_number idle) e) (via
        (λ q. record { records = q.records; cycle = (q.empty, q.none) })
        (λ q. record { empty = q.cycle.0; none = q.cycle.1; records = q.records })
        d)

    pub in_sync : n ≡ phase_number sync1 → Decides r (SyncRest g m) → Decides r (Rest (phase m) g m)
    in_sync e d = to sync1 (is (phase_number sync1) e) (via (λ q. record { records = q.records; cycle = q.only }) (λ q. record { only = q.cycle; records = q.records }) d)

    pub in_mark : (n ≡ phase_number idle → ⊥) → (n ≡ phase_number sync1 → ⊥) → n < phase_number sweep → Decides r (MarkRest g m) → Decides r (Rest (phase m) g m)
    in_mark a b l d = go (two_or_three n a b l)
      where
        two_or_three : (k : ℕ) → (k ≡ phase_number idle → ⊥) → (k ≡ phase_number sync1 → ⊥) → k < phase_number sweep → (k ≡ phase_number sync2) ⊎ (k ≡ phase_number mark)
        two_or_three zero a b l = absurd (a refl)
        two_or_three (suc zero) a b l = absurd (b refl)
        two_or_three (suc (suc zero)) a b l = inl refl
        two_or_three (suc (suc (suc k))) a b l = inr (omega arith)

        go : (n ≡ phase_number sync2) ⊎ (n ≡ phase_number mark) → Decides r (Rest (phase m) g m)
        go (inl e) = to sync2 (is (phase_number sync2) e) (via
            (λ q. record { records = q.coloured.records; cycle = (q.marks, q.coloured.tricolour) })
            (λ q. record { marks = q.cycle.0; coloured = record { records = q.records; tricolour = q.cycle.1 } })
            d)
        go (inr e) = to mark (is (phase_number mark) e) (via
            (λ q. record { records = q.coloured.records; cycle = (q.marks, q.coloured.tricolour) })
            (λ q. record { marks = q.cycle.0; coloured = record { records = q.records; tricolour = q.cycle.1 } })
            d)

    pub in_sweep : phase_number sweep ≤ n → control_word m 0 ≤ phase_number sweep → Decides r (SweepRest g m) → Decides r (Rest (phase m) g m)
    in_sweep l h d = to sweep (is (phase_number sweep) (omega arith)) (via
        (λ q. record { records = λ at p. q.swept.records at (live_reached q.empty p); cycle = (q.empty, q.marks, λ at p t. bit_marked q.empty at (q.swept.entered at p t)) })
        (λ q. record { empty = q.cycle.0; marks = q.cycle.1; swept = record { records = λ at p. q.records at (reached_live p); entered = λ at p t. marked_entered g m at (q.cycle.2 at p t) } })
        d)

  -- ---- the whole of `Sound`, from its parts

  pub classes_of : Parts g m → Classes g m
  classes_of p s l f = (p.segments s l).classes f

  pub parts_fail : (r : Bool) → Decides r (Parts g m) → r ≡ false → Decides false (Sound g m)
  parts_fail r d e = fails (λ s. refuted d e (record {
    phases = s.phases;
    segments = s.segments;
    occupied = s.occupied;
    behind = s.behind;
    mutators = s.mutators;
    acknowledgements = s.acknowledgements;
  }))

  pub trace_fails : (r : Bool) → Decides r (Traced g m) → r ≡ false → Decides false (Sound g m)
  trace_fails r d e = fails (λ s. refuted d e (record { trace = s.trace; records = λ at q. s.records at (root (inr q)) }))

  pub all_of : Parts g m → Traced g m → (r : Bool) → Decides r (Rest (phase m) g m) → Decides r (Sound g m)
  all_of p t r d = via
      (λ q. record {
        phases = p.phases;
        segments = p.segments;
        occupied = p.occupied;
        behind = p.behind;
        mutators = p.mutators;
        acknowledgements = p.acknowledgements;
        records = q.records;
        trace = t.trace;
        cycle = q.cycle;
      })
      (λ s. record { records = s.records; cycle = s.cycle })
      d
