-- The calls on the abstract machine: what it shows of itself, and what a call does that is not refused.
use Rattle.std.specs.Prelude.{◌≡◌, Bool, true, false, ◌&&◌, List, [], ◌∷◌, ℕ, zero, suc, ◌+◌, ltb, length, get_or, set, replicate}
use Rattle.std.proofs.Math.Option.{Option, none, some, map}
use Rattle.theory.specs.Machine.{State, set_root, store, make, attach, detach, set_inside, set_values, check, set_phase, trace, sweep_segment}
use Rattle.theory.specs.Calls.{Call, CallKind, coming, working, asks_number, asks_flag, asks_shape, making, kind_of, Answer, Observation, shape_if, on_record, same_ref, c_attach, c_detach, c_check, c_leave, c_enter, c_spawn, c_make, c_load, c_store, c_copy, c_clear, c_put, c_get, c_same, c_shape, a_ok, a_num, a_flag, a_shape}
use Rattle.theory.specs.Phases.{Phase, idle, sync1, sync2, mark, sweep, in_handshake, owes}
use Rattle.theory.specs.Reach.{root}
use Rattle.basics.specs.Pick.{one_if}
use Rattle.classes.specs.Record.{of_counts}
use Rattle.classes.specs.declared.RecordShape.{RecordShape}
use Rattle.layout.specs.Geometry.{root_count, mutator_count}

-- ---- what it shows of itself, as the unbounded heap does

abbrev pub shape_at : State → ℕ → RecordShape
shape_at st b = of_counts (st.pointer_count b) (length (st.values b))

abbrev pub observe : State → Observation
observe st = record { attached = st.attached; inside = st.inside; shape = λ i k. shape_if (st.attached i) (ltb k root_count) (map (shape_at st) (st.root i k)) }

-- ---- what a call does that is not refused

-- b: the block that a make is handed
abbrev pub act : ℕ → State → Call → Answer × State
act b st (c_attach i) = (a_ok, attach st i none)
act b st (c_spawn i p k) = (a_ok, attach st i (st.root p k))
act b st (c_detach i) = (a_ok, detach st i)
act b st (c_check i) = (a_ok, check st i)
act b st (c_leave i) = (a_ok, set_inside (check st i) i false)
act b st (c_enter i) = (a_ok, set_inside st i true)
act b st (c_make i d p n) = (a_ok, make st i d b p (replicate n 0))
act b st (c_load i d s f) = on_record (st.root i s) st (λ a. (a_ok, set_root st i d (st.pointer a f)))
act b st (c_store i s f t) = on_record (st.root i s) st (λ a. (a_ok, store st i a f (st.root i t)))
act b st (c_copy i d s) = (a_ok, set_root st i d (st.root i s))
act b st (c_clear i d) = (a_ok, set_root st i d none)
act b st (c_put i s k v) = on_record (st.root i s) st (λ a. (a_ok, set_values st a (set (st.values a) k v)))
act b st (c_get i s k) = on_record (st.root i s) st (λ a. (a_num (get_or (st.values a) k 0), st))
act b st (c_same i s t) = (a_flag (same_ref (st.root i s) (st.root i t)), st)
act b st (c_shape i s) = on_record (st.root i s) st (λ a. (a_shape (shape_at st a), st))

-- when it may: mutators come outside the handshakes, and the block handed out is not in use and lies in no condemned segment
abbrev pub PermittedBy : (ℕ → ℕ) → ℕ → State → CallKind → Type 0
PermittedBy segment_of b st coming = in_handshake st.phase ≡ false
PermittedBy segment_of b st (making i d) = (st.used b ≡ false) × (st.condemned (segment_of b) ≡ false)
PermittedBy segment_of b st working = Unit
PermittedBy segment_of b st asks_number = Unit
PermittedBy segment_of b st asks_flag = Unit
PermittedBy segment_of b st asks_shape = Unit

abbrev pub Permitted : (ℕ → ℕ) → ℕ → State → Call → Type 0
Permitted segment_of b st c = PermittedBy segment_of b st (kind_of c)

-- ---- the collector's calls

abbrev pub outside : Bool → Bool → State → State → State
outside true false st st' = st'
outside true true st st' = st
outside false b st st' = st

-- the outside mutators below n acknowledge, in order
abbrev pub answer_outside : ℕ → State → State
answer_outside zero st = st
answer_outside (suc n) st = let st₁ : State = answer_outside n st in outside (st₁.attached n) (st₁.inside n) st₁ (check st₁ n)

-- inside mutators below n that owe
abbrev pub waiting : ℕ → State → ℕ
waiting zero st = 0
waiting (suc n) st = one_if (st.attached n && (st.inside n && owes st.phase (st.acks n))) + waiting n st

-- where a step leads
abbrev pub move : ℕ → State → Phase → State
move zero st p = set_phase st p
move (suc n) st p = st

abbrev pub trace_step : List ℕ → State → State
trace_step [] st = set_phase st sweep
trace_step (b ∷ l) st = trace st b l

abbrev pub sweep_step : (ℕ → ℕ) → Option ℕ → State → State
sweep_step segment_of none st = set_phase st idle
sweep_step segment_of (some g) st = sweep_segment segment_of st g

abbrev pub step_by : (ℕ → ℕ) → (State → Option ℕ) → Phase → State → State
step_by segment_of lowest idle st = st
step_by segment_of lowest sync1 st = move (waiting mutator_count (answer_outside mutator_count st)) (answer_outside mutator_count st) sync2
step_by segment_of lowest sync2 st = move (waiting mutator_count (answer_outside mutator_count st)) (answer_outside mutator_count st) mark
step_by segment_of lowest mark st = trace_step st.stack st
step_by segment_of lowest sweep st = sweep_step segment_of (lowest st) st

abbrev pub step : (ℕ → ℕ) → (State → Option ℕ) → State → State
step segment_of lowest st = step_by segment_of lowest st.phase st
