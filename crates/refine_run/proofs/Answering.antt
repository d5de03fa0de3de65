-- The answers of the definitions: a result of the call's kind, or a refusal that the call may give and that is not 1.
use mathlib.Core.Path.{◌≡◌, refl, sym, ◌∙◌, ap, subst}
use mathlib.Core.Bool.{Bool, true, false, ◌&&◌}
use mathlib.Core.Option.{Option, none, some, none-ne-some, some-injective}
use mathlib.Core.List.{List}
use Prim.Native.Nat.{ℕ, zero, suc, ◌-◌, ◌≤◌, ◌<◌}
use native.Mathlib.Omega.{arith}
use lib.Dec.{eqb}
use Rattle.classes.specs.Class.{SizeClass}
use Rattle.std.specs.Prelude.{Some, None, Ok, Err}
use Rattle.classes.specs.Record.{of_counts, class_of_record}
use Rattle.layout.specs.declared.Geometry.{Geometry}
use Rattle.layout.specs.Mem.{Mem}
use Rattle.layout.specs.Geometry.{mutator_count, blocks_in, most_blocks}
use Rattle.layout.proofs.Sizes.{whole}
use Rattle.bitmap_search.specs.Scan.{Found}
use Rattle.theory.specs.Phases.{Phase, idle, sync1, sync2, mark, sweep, in_handshake, owes}
use Rattle.theory.specs.Calls.{Call, c_attach, c_detach, c_check, c_leave, c_enter, c_spawn, c_make, c_load, c_store, c_copy, c_clear, c_put, c_get, c_same, c_shape, a_ok, a_moved, a_traced, a_done, a_idle, a_num, a_flag, a_shape, a_no, refusal, unless, on_record, same_ref}
use Rattle.model.specs.declared.Refusal.{Refusal}
use Rattle.model.specs.Refusals.{number_of}
use Rattle.model.specs.Answers.{answer_of, step_answer_of, refusal_in, IsOk, ResultOf, StepResult, is_waiting, is_moved, is_traced, is_swept, is_done, is_idle, among, may_give, start_may_give}
use Rattle.model.specs.Fields.{phase, inside, state, acks, place, root, class, trace_count}
use Rattle.model.specs.Segments.{free_stack, part_stack, pop, free, in_use}
use Rattle.model.specs.Records.{record?, value, shape_of}
use Rattle.model.specs.Making.{Source, held, part, unused, no_room, source_of, set_held, freshened, in_block, from_source, made}
use Rattle.model.specs.Calls.{observe, of_class, act}
use Rattle.model.specs.Collector.{start_in, start_of, moved_or_waiting, traces, lowest, swept, sweeps, waiting, outside_answered, step_in, step_of}
use Rattle.model.specs.Consistent.{Consistent, SegmentOk}
use Rattle.model.specs.Run.{declared, declared_step}
use Rattle.theory.proofs.Refusals.{by_ok, root_ok}
use Rattle.model.proofs.Refusals.{numbered_back}
use Rattle.model_laws.proofs.Headers.{class_halves}
use Rattle.model_laws.proofs.Rooted.{named, rooted}
use Rattle.model_laws.proofs.Bools.{one_less}
use Rattle.model_laws.proofs.Segments.{in_use-le}
use Rattle.model_laws.proofs.Lowest.{found_condemned}
use Rattle.theory.specs.Calls as theory
use Rattle.model.specs.declared.Refusal.TheVariants as refusal_is

-- an answer of a definition that the declared enum has, of the kind `Result` or among the refusals ns
pub record Answers (Result : theory.Answer → Type 0) (ns : List ℕ) (a : theory.Answer) : Type 0 where
  pub same : answer_of (declared a) ≡ a
  pub kind : refusal_in a ≡ none → Result a
  pub allowed : (n : ℕ) → refusal_in a ≡ some n → among n ns ≡ true
  pub not_size : refusal_in a ≡ some 1 → ⊥

module _ (Result : theory.Answer → Type 0) (ns : List ℕ) where
  pub refuses : (w : Refusal) → among (number_of w) ns ≡ true → (number_of w ≡ 1 → ⊥) → Answers Result ns (a_no (number_of w))
  refuses w e f = record {
    same = ap (λ v. a_no (number_of v)) (numbered_back w);
    kind = λ q. absurd (none-ne-some (number_of w) (sym q));
    allowed = λ k q. subst (λ k. among k ns ≡ true) (some-injective (number_of w) k q) e;
    not_size = λ q. f (some-injective (number_of w) 1 q);
  }

  gives : (a : theory.Answer) → answer_of (declared a) ≡ a → refusal_in a ≡ none → Result a → Answers Result ns a
  gives a s e k = record {
    same = s;
    kind = λ _. k;
    allowed = λ n q. absurd (none-ne-some n (sym e ∙ q));
    not_size = λ q. absurd (none-ne-some 1 (sym e ∙ q));
  }

  record_answers : (o : Option ℕ) (m : Mem) (rest : ℕ → theory.Answer × Mem) → among 7 ns ≡ true → ((at : ℕ) → Answers Result ns (rest at).0) → Answers Result ns (on_record o m rest).0
  record_answers none m rest e f = refuses refusal_is.Nil e (λ q. omega arith)
  record_answers (some at) m rest e f = f at

  unless_answers : (t : Bool) (m m' : Mem) → among 11 ns ≡ true → Answers Result ns a_ok → Answers Result ns (unless t 11 m m').0
  unless_answers true m m' e a = refuses refusal_is.NotNow e (λ q. omega arith)
  unless_answers false m m' e a = a

-- ---- make

module _ (g : Geometry) (m : Mem) (k d p n : ℕ) where
  abbrev Fine : theory.Answer → Type 0
  Fine = Answers (ResultOf (c_make k d p n)) (may_give (c_make k d p n))

  made_ok : Fine a_ok
  made_ok = gives _ _ a_ok refl refl refl

  block_answers : (taken : Mem) (f : Found) (c s : ℕ) → Fine (in_block g m taken f k d c s (of_counts p n)).0
  block_answers taken (Ok (Some b)) c s = made_ok
  block_answers taken (Ok None) c s = refuses _ _ refusal_is.Torn refl (λ q. omega arith)
  block_answers taken (Err _) c s = refuses _ _ refusal_is.Torn refl (λ q. omega arith)

  source_answers : (c : ℕ) (x : Source) → Fine (from_source g m k d c (of_counts p n) x).0
  source_answers c (held s) = block_answers m (free g m s c (place m s)) c s
  source_answers c (part s) =
      let taken : Mem = set_held g (pop g m (part_stack c)) k c s (place m s) in
      block_answers taken (free g taken s c (place taken s)) c s
  source_answers c (unused s) =
      let taken : Mem = freshened g (set_held g (pop g m free_stack) k c s 0) s c in
      block_answers taken (free g taken s c (place taken s)) c s
  source_answers c no_room = refuses _ _ refusal_is.NoRoom refl (λ q. omega arith)

  made_answers : (c : ℕ) → Fine (made g m k d c (of_counts p n)).0
  unfolding made
  made_answers c = source_answers c (source_of g m k c)

  class_answers : (x : SizeClass) → Fine (of_class m x (λ c. made g m k d c (of_counts p n))).0
  class_answers (Some c) = made_answers c
  class_answers None = refuses _ _ refusal_is.TooBig refl (λ q. omega arith)

-- ---- what a call answers that no number from 2 to 9 refuses

-- of a record that a root names
shape_answers : (g : Geometry) (m : Mem) → Consistent g m → (k i : ℕ) → refusal (observe m) (c_shape k i) ≡ 0 → (o : Option ℕ) → record? (root m k i) ≡ o
    → Answers (ResultOf (c_shape k i)) (may_give (c_shape k i)) (on_record o m (λ at. (a_shape (shape_of m at), m))).0
shape_answers g m c k i e none h = refuses _ _ refusal_is.Nil refl (λ q. omega arith)
shape_answers g m c k i e (some at) h =
    let a = by_ok (observe m) k _ e in
    let b = root_ok i _ a.3 in
    let r = rooted m k i at a.0 b.0 a.1 (named (root m k i) at h) g c in
    gives _ _ (a_shape (shape_of m at)) refl refl (shape_of m at, refl, class_halves (shape_of m at) _ r.sized)

-- over consistent memory, for the range of a shape
pub act_answers : (g : Geometry) (m : Mem) → Consistent g m → (c : Call) → refusal (observe m) c ≡ 0 → Answers (ResultOf c) (may_give c) (act g m c).0
unfolding act
act_answers g m z (c_attach k) e = unless_answers _ _ (in_handshake (phase m)) m _ refl (gives _ _ a_ok refl refl refl)
act_answers g m z (c_spawn k p i) e = unless_answers _ _ (in_handshake (phase m)) m _ refl (gives _ _ a_ok refl refl refl)
act_answers g m z (c_detach k) e = unless_answers _ _ (in_handshake (phase m)) m _ refl (gives _ _ a_ok refl refl refl)
act_answers g m z (c_check k) e = gives _ _ a_ok refl refl refl
act_answers g m z (c_leave k) e = gives _ _ a_ok refl refl refl
act_answers g m z (c_enter k) e = gives _ _ a_ok refl refl refl
act_answers g m z (c_make k d p n) e = class_answers g m k d p n (class_of_record (of_counts p n))
act_answers g m z (c_load k d i f) e = record_answers _ _ (record? (root m k i)) m _ refl (λ at. gives _ _ a_ok refl refl refl)
act_answers g m z (c_store k i f j) e = record_answers _ _ (record? (root m k i)) m _ refl (λ at. gives _ _ a_ok refl refl refl)
act_answers g m z (c_copy k d i) e = gives _ _ a_ok refl refl refl
act_answers g m z (c_clear k d) e = gives _ _ a_ok refl refl refl
act_answers g m z (c_put k i f v) e = record_answers _ _ (record? (root m k i)) m _ refl (λ at. gives _ _ a_ok refl refl refl)
act_answers g m z (c_get k i f) e = record_answers _ _ (record? (root m k i)) m _ refl (λ at. gives _ _ (a_num (value m at f)) refl refl (value m at f, refl))
act_answers g m z (c_same k i j) e = gives _ _ (a_flag (same_ref (record? (root m k i)) (record? (root m k j)))) refl refl (same_ref (record? (root m k i)) (record? (root m k j)), refl)
act_answers g m z (c_shape k i) e = shape_answers g m z k i e (record? (root m k i)) refl

-- ---- start

start_in_lem : (p : Phase) (g : Geometry) (m : Mem) → Answers IsOk start_may_give (start_in p g m).0
start_in_lem idle g m = gives _ _ a_ok refl refl refl
start_in_lem sync1 g m = refuses _ _ refusal_is.NotNow refl (λ q. omega arith)
start_in_lem sync2 g m = refuses _ _ refusal_is.NotNow refl (λ q. omega arith)
start_in_lem mark g m = refuses _ _ refusal_is.NotNow refl (λ q. omega arith)
start_in_lem sweep g m = refuses _ _ refusal_is.NotNow refl (λ q. omega arith)

pub start_answers : (g : Geometry) (m : Mem) → Answers IsOk start_may_give (start_of g m).0
unfolding start_of
start_answers g m = start_in_lem (phase m) g m

-- ---- step: it never refuses

moves_answers : (n : ℕ) (m : Mem) (p : Phase) → refusal_in (moved_or_waiting n m p).0 ≡ none
moves_answers zero m p = refl
moves_answers (suc n) m p = refl

traces_answers : (g : Geometry) (n : ℕ) (m : Mem) → refusal_in (traces g n m).0 ≡ none
traces_answers g zero m = refl
traces_answers g (suc n) m = refl

sweeps_answers : (g : Geometry) (o : Option ℕ) (m : Mem) → refusal_in (sweeps g o m).0 ≡ none
sweeps_answers g none m = refl
sweeps_answers g (some s) m = refl

step_in_lem : (p : Phase) (g : Geometry) (m : Mem) → refusal_in (step_in p g m).0 ≡ none
step_in_lem idle g m = refl
step_in_lem sync1 g m = moves_answers (waiting (outside_answered g m mutator_count) mutator_count) (outside_answered g m mutator_count) sync2
step_in_lem sync2 g m = moves_answers (waiting (outside_answered g m mutator_count) mutator_count) (outside_answered g m mutator_count) mark
step_in_lem mark g m = traces_answers g (trace_count m) m
step_in_lem sweep g m = sweeps_answers g (lowest m g.segments) m

pub step_answers : (g : Geometry) (m : Mem) → refusal_in (step_of g m).0 ≡ none
unfolding step_of
step_answers g m = step_in_lem (phase m) g m

-- ---- and over consistent memory its results are in their ranges

waiting_le : (m : Mem) (n : ℕ) → waiting m n ≤ n
unfolding waiting
waiting_le m zero = omega arith
waiting_le m (suc n) = let h = waiting_le m n in let o = one_less (eqb (state m n) inside && owes (phase m) (acks m n)) in omega arith

moves_result : (g : Geometry) (n : ℕ) (m : Mem) (p : Phase) → n ≤ mutator_count → StepResult g (moved_or_waiting n m p).0
moves_result g zero m p l = is_moved
moves_result g (suc n) m p l = is_waiting (suc n) (omega arith) l

traces_result : (g : Geometry) (n : ℕ) (m : Mem) → StepResult g (traces g n m).0
traces_result g zero m = is_moved
traces_result g (suc n) m = is_traced

-- "how many blocks in use became free"
sweeps_result : (g : Geometry) (m : Mem) → ((s : ℕ) → s < g.segments → SegmentOk g m s) → (o : Option ℕ) → lowest m g.segments ≡ o → StepResult g (sweeps g o m).0
sweeps_result g m ok none e = is_done
sweeps_result g m ok (some s) e =
    let f = found_condemned m g.segments s e in
    let k = (ok s f.0).classes (λ z. let t = f.1 in omega arith) in
    let u = in_use-le g m s in
    let w : blocks_in g (class m s) ≤ most_blocks g = (whole g (class m s) k).most in
    is_swept s (in_use g m s - in_use g (swept g m s) s) f.0 (omega arith)

result_in : (p : Phase) (g : Geometry) (m : Mem) → ((s : ℕ) → s < g.segments → SegmentOk g m s) → StepResult g (step_in p g m).0
result_in idle g m ok = is_idle
result_in sync1 g m ok = moves_result g (waiting (outside_answered g m mutator_count) mutator_count) (outside_answered g m mutator_count) sync2 (waiting_le (outside_answered g m mutator_count) mutator_count)
result_in sync2 g m ok = moves_result g (waiting (outside_answered g m mutator_count) mutator_count) (outside_answered g m mutator_count) mark (waiting_le (outside_answered g m mutator_count) mutator_count)
result_in mark g m ok = traces_result g (trace_count m) m
result_in sweep g m ok = sweeps_result g m ok (lowest m g.segments) refl

pub step_result : (g : Geometry) (m : Mem) → Consistent g m → StepResult g (step_of g m).0
unfolding step_of
step_result g m c = result_in (phase m) g m c.sound.segments

-- which the declared enum has
pub result_declared : (g : Geometry) (a : theory.Answer) → StepResult g a → step_answer_of (declared_step a) ≡ a
result_declared g _ (is_waiting n l h) = refl
result_declared g a_moved is_moved = refl
result_declared g a_traced is_traced = refl
result_declared g _ (is_swept s f l h) = refl
result_declared g a_done is_done = refl
result_declared g a_idle is_idle = refl
