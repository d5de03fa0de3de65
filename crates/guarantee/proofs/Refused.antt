-- A refusal leaves the memory as it was, by the definitions alone, and "no room" by where a make finds no segment.
use mathlib.Core.Path.{◌≡◌, refl, sym, ◌∙◌, ap}
use mathlib.Core.Logic.{◌⊎◌, inl, inr}
use mathlib.Core.Bool.{Bool, true, false}
use mathlib.Core.Option.{Option, none, some, some-injective}
use Prim.Native.Nat.{ℕ, zero, suc, ◌+◌, ◌≤◌}
use native.Mathlib.Omega.{arith}
use Rattle.classes.specs.Class.{class_of, SizeClass}
use Rattle.std.specs.Prelude.{Some, None, Ok, Err}
use Rattle.classes.specs.Record.{of_counts, class_of_record}
use Rattle.classes.specs.declared.RecordShape.{RecordShape}
use Rattle.layout.specs.declared.Geometry.{Geometry}
use Rattle.layout.specs.Mem.{Mem}
use Rattle.bitmap_search.specs.Scan.{Found}
use Rattle.theory.specs.Phases.{Phase, idle, sync1, sync2, mark, sweep, in_handshake}
use Rattle.theory.specs.Calls.{Call, c_attach, c_detach, c_check, c_leave, c_enter, c_spawn, c_make, c_load, c_store, c_copy, c_clear, c_put, c_get, c_same, c_shape, Answer, a_ok, a_no, refusal, refuse, unless, on_record}
use Rattle.theory.proofs.Invariant.{none_some}
use Rattle.model.specs.Fields.{phase, place, root}
use Rattle.model.specs.Segments.{free, free_stack, part_stack, pop}
use Rattle.model.specs.Records.{record?}
use Rattle.model.specs.Making.{Source, held, part, unused, no_room, source_of, set_held, freshened, in_block, from_source, made}
use Rattle.model.specs.Calls.{observe, act, exec, of_class}
use Rattle.model.specs.Collector.{start_in, start_of, started}
use Rattle.model.specs.Answers.{refusal_in}
use Rattle.guarantee.proofs.Numbers.{refusal_stays}

-- no result is a refusal
pub result : {A : Type 0} (a : Answer) (n : ℕ) → refusal_in a ≡ none → a ≡ a_no n → A
result a n l e = none_some (sym l ∙ ap refusal_in e)

unless_same : (b : Bool) (m m' : Mem) (n : ℕ) → (unless b 11 m m').0 ≡ a_no n → (unless b 11 m m').1 ≡ m
unless_same true m m' n e = refl
unless_same false m m' n e = result a_ok n refl e

record_same : (o : Option ℕ) (m : Mem) (K : ℕ → Answer × Mem) (n : ℕ) → ((at : ℕ) → refusal_in (K at).0 ≡ none) → (on_record o m K).0 ≡ a_no n → (on_record o m K).1 ≡ m
record_same none m K n h e = refl
record_same (some at) m K n h e = result (K at).0 n (h at) e

block_same : (g : Geometry) (m m₁ : Mem) (f : Found) (k d c s : ℕ) (shape : RecordShape) (n : ℕ) → (in_block g m m₁ f k d c s shape).0 ≡ a_no n → (in_block g m m₁ f k d c s shape).1 ≡ m
block_same g m m₁ (Ok (Some b)) k d c s shape n e = result a_ok n refl e
block_same g m m₁ (Ok None) k d c s shape n e = refl
block_same g m m₁ (Err _) k d c s shape n e = refl

source_same : (g : Geometry) (m : Mem) (k d c : ℕ) (shape : RecordShape) (o : Source) (n : ℕ) → (from_source g m k d c shape o).0 ≡ a_no n → (from_source g m k d c shape o).1 ≡ m
source_same g m k d c shape (held s) n e = block_same g m m (free g m s c (place m s)) k d c s shape n e
source_same g m k d c shape (part s) n e =
    block_same g m (set_held g (pop g m (part_stack c)) k c s (place m s))
    (free g (set_held g (pop g m (part_stack c)) k c s (place m s)) s c (place (set_held g (pop g m (part_stack c)) k c s (place m s)) s)) k d
    c s shape n e
source_same g m k d c shape (unused s) n e =
    block_same g m (freshened g (set_held g (pop g m free_stack) k c s 0) s c)
    (free g (freshened g (set_held g (pop g m free_stack) k c s 0) s c) s c (place (freshened g (set_held g (pop g m free_stack) k c s 0) s c) s))
    k d c s shape n e
source_same g m k d c shape no_room n e = refl

made_same : (g : Geometry) (m : Mem) (k d : ℕ) (shape : RecordShape) (o : SizeClass) (n : ℕ) → (of_class m o (λ c. made g m k d c shape)).0 ≡ a_no n → (of_class m o (λ c. made g m k d c shape)).1 ≡ m
unfolding made
made_same g m k d shape (Some c) n e = source_same g m k d c shape (source_of g m k c) n e
made_same g m k d shape None n e = refl

act_same : (g : Geometry) (m : Mem) (c : Call) (n : ℕ) → (act g m c).0 ≡ a_no n → (act g m c).1 ≡ m
unfolding act
act_same g m (c_attach k) n e = unless_same (in_handshake (phase m)) m _ n e
act_same g m (c_spawn k p i) n e = unless_same (in_handshake (phase m)) m _ n e
act_same g m (c_detach k) n e = unless_same (in_handshake (phase m)) m _ n e
act_same g m (c_check k) n e = result a_ok n refl e
act_same g m (c_leave k) n e = result a_ok n refl e
act_same g m (c_enter k) n e = result a_ok n refl e
act_same g m (c_make k d p q) n e = made_same g m k d (of_counts p q) (class_of_record (of_counts p q)) n e
act_same g m (c_load k d i f) n e = record_same (record? (root m k i)) m _ n (λ at. refl) e
act_same g m (c_store k i f j) n e = record_same (record? (root m k i)) m _ n (λ at. refl) e
act_same g m (c_copy k d i) n e = result a_ok n refl e
act_same g m (c_clear k d) n e = result a_ok n refl e
act_same g m (c_put k i f v) n e = record_same (record? (root m k i)) m _ n (λ at. refl) e
act_same g m (c_get k i f) n e = record_same (record? (root m k i)) m _ n (λ at. refl) e
act_same g m (c_same k i j) n e = refl
act_same g m (c_shape k i) n e = record_same (record? (root m k i)) m _ n (λ at. refl) e

pub exec_same : (g : Geometry) (m : Mem) (c : Call) (n : ℕ) → (exec g m c).0 ≡ a_no n → (exec g m c).1 ≡ m
unfolding exec
exec_same g m c n e = go (refusal (observe m) c) e
  where
    go : (x : ℕ) → (refuse x m (act g m c)).0 ≡ a_no n → (refuse x m (act g m c)).1 ≡ m
    go zero e = act_same g m c n e
    go (suc x) e = refl

-- a start begins a cycle in idle, and is refused 11 elsewhere
pub start_either : (g : Geometry) (m : Mem) → ((phase m ≡ idle) × (start_of g m ≡ (a_ok, started g m))) ⊎ (start_of g m ≡ (a_no 11, m))
unfolding start_of
start_either g m = go (phase m) refl
  where
    go : (p : Phase) → phase m ≡ p → ((phase m ≡ idle) × (start_in p g m ≡ (a_ok, started g m))) ⊎ (start_in p g m ≡ (a_no 11, m))
    go idle i = inl (i, refl)
    go sync1 i = inr refl
    go sync2 i = inr refl
    go mark i = inr refl
    go sweep i = inr refl

pub start_number : (g : Geometry) (m : Mem) (n : ℕ) → (start_of g m).0 ≡ a_no n → n ≡ 11
start_number g m n e = go (start_either g m)
  where
    go : ((phase m ≡ idle) × (start_of g m ≡ (a_ok, started g m))) ⊎ (start_of g m ≡ (a_no 11, m)) → n ≡ 11
    go (inl h) = result a_ok n refl (sym (ap (λ y. y.0) h.1) ∙ e)
    go (inr h) = some-injective n 11 (ap refusal_in (sym e ∙ ap (λ y. y.0) h))

-- ---- 10: no lower number applies, and there is no segment to take from

pub other : {A : Type 0} (x y : ℕ) → (x ≡ y → ⊥) → a_no x ≡ a_no y → A
other x y f e = absurd (f (some-injective x y (ap refusal_in e)))

pub record Roomless (g : Geometry) (m : Mem) (k d p q : ℕ) : Type 0 where
  pub lower : refusal (observe m) (c_make k d p q) ≡ 0
  pub class : ℕ
  pub sized : class_of (p + q) ≡ Some class
  pub source : source_of g m k class ≡ no_room

pub roomless_of : (g : Geometry) (m : Mem) (k d p q : ℕ) → (exec g m (c_make k d p q)).0 ≡ a_no 10 → Roomless g m k d p q
unfolding exec act made
roomless_of g m k d p q e = go (refusal (observe m) (c_make k d p q)) refl (refusal_stays (observe m) (c_make k d p q)).either e
  where
    block : (m₁ : Mem) (f : Found) (c s : ℕ) → (in_block g m m₁ f k d c s (of_counts p q)).0 ≡ a_no 10 → ⊥
    block m₁ (Ok (Some b)) c s e = result a_ok 10 refl e
    block m₁ (Ok None) c s e = other 13 10 (λ z. omega arith) e
    block m₁ (Err _) c s e = other 13 10 (λ z. omega arith) e

    from : refusal (observe m) (c_make k d p q) ≡ 0 → (c : ℕ) → class_of (p + q) ≡ Some c → (o : Source) → source_of g m k c ≡ o
        → (from_source g m k d c (of_counts p q) o).0 ≡ a_no 10 → Roomless g m k d p q
    from z c h (held s) i e = absurd (block m (free g m s c (place m s)) c s e)
    from z c h (part s) i e =
        absurd
        (block (set_held g (pop g m (part_stack c)) k c s (place m s))
        (free g (set_held g (pop g m (part_stack c)) k c s (place m s)) s c (place (set_held g (pop g m (part_stack c)) k c s (place m s)) s)) c s
        e)
    from z c h (unused s) i e =
        absurd
        (block (freshened g (set_held g (pop g m free_stack) k c s 0) s c)
        (free g (freshened g (set_held g (pop g m free_stack) k c s 0) s c) s c (place (freshened g (set_held g (pop g m free_stack) k c s 0) s c) s))
        c s e)
    from z c h no_room i e = record { lower = z; class = c; sized = h; source = i }

    classed : refusal (observe m) (c_make k d p q) ≡ 0 → (o : SizeClass) → class_of (p + q) ≡ o
        → (of_class m o (λ c. from_source g m k d c (of_counts p q) (source_of g m k c))).0 ≡ a_no 10 → Roomless g m k d p q
    classed z (Some c) h e = from z c h (source_of g m k c) refl e
    classed z None h e = other 9 10 (λ y. omega arith) e

    go : (x : ℕ) → refusal (observe m) (c_make k d p q) ≡ x → (x ≡ 0) ⊎ ((2 ≤ x) × (x ≤ 9))
        → (refuse x m (of_class m (class_of (p + q)) (λ c. from_source g m k d c (of_counts p q) (source_of g m k c)))).0 ≡ a_no 10
        → Roomless g m k d p q
    go zero z l e = classed z (class_of (p + q)) refl e
    go (suc x) z (inl y) e = absurd (omega arith)
    go (suc x) z (inr y) e = other (suc x) 10 (λ w. let l = y.1 in omega arith) e

pub roomless_is : (g : Geometry) (m : Mem) (k d p q : ℕ) → Roomless g m k d p q → (exec g m (c_make k d p q)).0 ≡ a_no 10
unfolding exec act made
roomless_is g m k d p q r =
    ap (λ x. (refuse x m (of_class m (class_of (p + q)) (λ c. from_source g m k d c (of_counts p q) (source_of g m k c)))).0) r.lower
    ∙ ap (λ o. (of_class m o (λ c. from_source g m k d c (of_counts p q) (source_of g m k c))).0) r.sized
    ∙ ap (λ o. (from_source g m k d r.class (of_counts p q) o).0) r.source
