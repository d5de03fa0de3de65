-- Which segments are condemned on the abstract machine: a mutator's call changes none, and a step outside sweep none.
use mathlib.Core.Path.{◌≡◌, refl, ◌∙◌}
use mathlib.Core.Bool.{Bool, true, false}
use mathlib.Core.Option.{Option, none, some}
use mathlib.Core.List.{List, [], ◌∷◌}
use Prim.Native.Nat.{ℕ, zero, suc}
use Rattle.layout.specs.Geometry.{mutator_count}
use Rattle.theory.specs.Phases.{Phase, idle, sync1, sync2, mark, sweep}
use Rattle.theory.specs.Calls.{Call, c_attach, c_detach, c_check, c_leave, c_enter, c_spawn, c_make, c_load, c_store, c_copy, c_clear, c_put, c_get, c_same, c_shape, Answer, on_record}
use Rattle.theory.specs.Machine.{State, acknowledge, check}
use Rattle.theory.specs.MachineCalls.{act, outside, answer_outside, waiting, move, trace_step, step_by}

-- ---- a mutator's call

acknowledge_condemned : (p : Phase) (a : ℕ) (st : State) (i : ℕ) → (acknowledge p a st i).condemned ≡ st.condemned
acknowledge_condemned idle a st i = refl
acknowledge_condemned sync1 zero st i = refl
acknowledge_condemned sync1 (suc a) st i = refl
acknowledge_condemned sync2 zero st i = refl
acknowledge_condemned sync2 (suc zero) st i = refl
acknowledge_condemned sync2 (suc (suc a)) st i = refl
acknowledge_condemned mark a st i = refl
acknowledge_condemned sweep a st i = refl

check_condemned : (st : State) (i : ℕ) → (check st i).condemned ≡ st.condemned
check_condemned st i = acknowledge_condemned st.phase (st.acks i) st i

record_condemned : (o : Option ℕ) (st : State) (rest : ℕ → Answer × State) → ((a : ℕ) → (rest a).1.condemned ≡ st.condemned) → (on_record o st rest).1.condemned ≡ st.condemned
record_condemned none st rest f = refl
record_condemned (some a) st rest f = f a

pub act_condemned : (b : ℕ) (st : State) (c : Call) → (act b st c).1.condemned ≡ st.condemned
act_condemned b st (c_attach i) = refl
act_condemned b st (c_spawn i p k) = refl
act_condemned b st (c_detach i) = refl
act_condemned b st (c_check i) = check_condemned st i
act_condemned b st (c_leave i) = check_condemned st i
act_condemned b st (c_enter i) = refl
act_condemned b st (c_make i d p n) = refl
act_condemned b st (c_load i d s f) = record_condemned (st.root i s) st _ (λ a. refl)
act_condemned b st (c_store i s f t) = record_condemned (st.root i s) st _ (λ a. refl)
act_condemned b st (c_copy i d s) = refl
act_condemned b st (c_clear i d) = refl
act_condemned b st (c_put i s k v) = record_condemned (st.root i s) st _ (λ a. refl)
act_condemned b st (c_get i s k) = record_condemned (st.root i s) st _ (λ a. refl)
act_condemned b st (c_same i s t) = refl
act_condemned b st (c_shape i s) = record_condemned (st.root i s) st _ (λ a. refl)

-- ---- a step

outside_condemned : (n : ℕ) (st : State) → (answer_outside n st).condemned ≡ st.condemned
outside_condemned zero st = refl
outside_condemned (suc n) st = go ((answer_outside n st).attached n) ((answer_outside n st).inside n) (outside_condemned n st)
  where
    go : (a b : Bool) → (answer_outside n st).condemned ≡ st.condemned → (outside a b (answer_outside n st) (check (answer_outside n st) n)).condemned ≡ st.condemned
    go true false e = check_condemned (answer_outside n st) n ∙ e
    go true true e = e
    go false b e = e

move_condemned : (n : ℕ) (st : State) (p : Phase) → (move n st p).condemned ≡ st.condemned
move_condemned zero st p = refl
move_condemned (suc n) st p = refl

trace_condemned : (l : List ℕ) (st : State) → (trace_step l st).condemned ≡ st.condemned
trace_condemned [] st = refl
trace_condemned (b ∷ l) st = refl

pub step_condemned : (segment_of : ℕ → ℕ) (lowest : State → Option ℕ) (p : Phase) (st : State) → (p ≡ sweep → ⊥) → (step_by segment_of lowest p st).condemned ≡ st.condemned
step_condemned segment_of lowest idle st f = refl
step_condemned segment_of lowest sync1 st f = move_condemned (waiting mutator_count (answer_outside mutator_count st)) (answer_outside mutator_count st) sync2 ∙ outside_condemned mutator_count st
step_condemned segment_of lowest sync2 st f = move_condemned (waiting mutator_count (answer_outside mutator_count st)) (answer_outside mutator_count st) mark ∙ outside_condemned mutator_count st
step_condemned segment_of lowest mark st f = trace_condemned st.stack st
step_condemned segment_of lowest sweep st f = absurd (f refl)
