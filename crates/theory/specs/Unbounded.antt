-- The unbounded heap (document 01: the endless rack), which never takes a record back. "Its state: each script is absent, or inside
-- or outside with 16 slots; and a list of records, each with its shape, links and numbers. A slot or link is nil or a position in
-- that list. It begins with all scripts absent and no record."
use Rattle.std.specs.Prelude.{◌≡◌, Bool, true, false, List, [], ◌∷◌, ℕ, suc, ◌<◌, ltb, length, get_or, set, replicate}
use Rattle.std.proofs.Math.Option.{Option, none, some, map}
use Rattle.classes.specs.Record.{of_counts}
use Rattle.classes.specs.declared.RecordShape.{RecordShape}
use Rattle.layout.specs.Geometry.{root_count}
use Rattle.theory.specs.Reach.{Reach}
use Rattle.theory.specs.Update.{upd, upd2}
use Rattle.theory.specs.Calls.{Call, CallKind, coming, working, asks_number, asks_flag, asks_shape, making, kind_of, c_attach, c_detach, c_check, c_leave, c_enter, c_spawn, c_make, c_load, c_store, c_copy, c_clear, c_put, c_get, c_same, c_shape, Answer, a_ok, a_num, a_flag, a_shape, Observation, shape_if, refusal, refuse, on_record, same_ref}

-- the records are those below the count: how many pointer fields each has, the pointers, and the data fields' values
pub record Unbounded : Type 0 where
  pub count : ℕ
  pub pointer_count : ℕ → ℕ
  pub values : ℕ → List ℕ
  pub pointer : ℕ → ℕ → Option ℕ
  pub attached : ℕ → Bool
  pub inside : ℕ → Bool
  pub root : ℕ → ℕ → Option ℕ

abbrev pub empty : Unbounded
empty = record { count = 0; pointer_count = λ _. 0; values = λ _. []; pointer = λ _ _. none; attached = λ _. false; inside = λ _. false; root = λ _ _. none }

abbrev pub u_set_root : Unbounded → ℕ → ℕ → Option ℕ → Unbounded
u_set_root un i k w = record {
  count = un.count;
  pointer_count = un.pointer_count;
  values = un.values;
  pointer = un.pointer;
  attached = un.attached;
  inside = un.inside;
  root = upd2 un.root i k w;
}

abbrev pub u_store : Unbounded → ℕ → ℕ → Option ℕ → Unbounded
u_store un r f w = record {
  count = un.count;
  pointer_count = un.pointer_count;
  values = un.values;
  pointer = upd2 un.pointer r f w;
  attached = un.attached;
  inside = un.inside;
  root = un.root;
}

-- "a new record ends the list, links nil, numbers 0; the slot gets its position"
abbrev pub u_make : Unbounded → ℕ → ℕ → ℕ → List ℕ → Unbounded
u_make un i d n z = record {
  count = suc un.count;
  pointer_count = upd un.pointer_count un.count n;
  values = upd un.values un.count z;
  pointer = upd un.pointer un.count (λ _. none);
  attached = un.attached;
  inside = un.inside;
  root = upd2 un.root i d (some un.count);
}

-- "inside, slots nil", then the first root
abbrev pub u_attach : Unbounded → ℕ → Option ℕ → Unbounded
u_attach un i w = record {
  count = un.count;
  pointer_count = un.pointer_count;
  values = un.values;
  pointer = un.pointer;
  attached = upd un.attached i true;
  inside = upd un.inside i true;
  root = upd un.root i (upd (λ _. none) 0 w);
}

abbrev pub u_detach : Unbounded → ℕ → Unbounded
u_detach un i = record {
  count = un.count;
  pointer_count = un.pointer_count;
  values = un.values;
  pointer = un.pointer;
  attached = upd un.attached i false;
  inside = upd un.inside i false;
  root = upd un.root i (λ _. none);
}

abbrev pub u_set_values : Unbounded → ℕ → List ℕ → Unbounded
u_set_values un r z = record {
  count = un.count;
  pointer_count = un.pointer_count;
  values = upd un.values r z;
  pointer = un.pointer;
  attached = un.attached;
  inside = un.inside;
  root = un.root;
}

abbrev pub u_set_inside : Unbounded → ℕ → Bool → Unbounded
u_set_inside un i v = record {
  count = un.count;
  pointer_count = un.pointer_count;
  values = un.values;
  pointer = un.pointer;
  attached = un.attached;
  inside = upd un.inside i v;
  root = un.root;
}

abbrev pub ushape_at : Unbounded → ℕ → RecordShape
ushape_at un b = of_counts (un.pointer_count b) (length (un.values b))

abbrev pub uobserve : Unbounded → Observation
uobserve un = record { attached = un.attached; inside = un.inside; shape = λ i k. shape_if (un.attached i) (ltb k root_count) (map (ushape_at un) (un.root i k)) }

-- what a call does that no number from 2 to 9 refuses
abbrev pub uact : Unbounded → Call → Answer × Unbounded
uact un (c_attach i) = (a_ok, u_attach un i none)
uact un (c_spawn i p k) = (a_ok, u_attach un i (un.root p k))
uact un (c_detach i) = (a_ok, u_detach un i)
uact un (c_check i) = (a_ok, un)
uact un (c_leave i) = (a_ok, u_set_inside un i false)
uact un (c_enter i) = (a_ok, u_set_inside un i true)
uact un (c_make i d p n) = (a_ok, u_make un i d p (replicate n 0))
uact un (c_load i d s f) = on_record (un.root i s) un (λ a. (a_ok, u_set_root un i d (un.pointer a f)))
uact un (c_store i s f t) = on_record (un.root i s) un (λ a. (a_ok, u_store un a f (un.root i t)))
uact un (c_copy i d s) = (a_ok, u_set_root un i d (un.root i s))
uact un (c_clear i d) = (a_ok, u_set_root un i d none)
uact un (c_put i s k v) = on_record (un.root i s) un (λ a. (a_ok, u_set_values un a (set (un.values a) k v)))
uact un (c_get i s k) = on_record (un.root i s) un (λ a. (a_num (get_or (un.values a) k 0), un))
uact un (c_same i s t) = (a_flag (same_ref (un.root i s) (un.root i t)), un)
uact un (c_shape i s) = on_record (un.root i s) un (λ a. (a_shape (ushape_at un a), un))

-- "If a number from 2 to 9 applies in this state, it answers the lowest and nothing changes."
abbrev pub uexec : Unbounded → Call → Answer × Unbounded
uexec un c = refuse (refusal (uobserve un) c) un (uact un c)

-- a record in a root of an inside or outside mutator
abbrev pub URoot : Unbounded → ℕ → Type 0
URoot un r = (i : ℕ) × (k : ℕ) × (un.attached i ≡ true) × (k < root_count) × (un.root i k ≡ some r)

abbrev pub UPoints : Unbounded → ℕ → ℕ → Type 0
UPoints un x y = (f : ℕ) × (f < un.pointer_count x) × (un.pointer x f ≡ some y)

-- "A record is reached when .. a slot of an inside or outside script names it, or a link of a reached record."
abbrev pub UReached : Unbounded → ℕ → Type 0
UReached un = Reach (URoot un) (UPoints un)

-- the answers to a list of calls, in order
abbrev pub uanswers : Unbounded → List Call → List Answer
uanswers un [] = []
uanswers un (c ∷ cs) = (uexec un c).0 ∷ uanswers (uexec un c).1 cs

-- the record last put into each block: "A make that is not refused puts its record into the block handed out", here the one that its root names
abbrev pub puts_by : CallKind → (block : ℕ → ℕ → ℕ) → ℕ → (ℕ → Option ℕ) → ℕ → Option ℕ
puts_by (making i d) block r put = upd put (block i d) (some r)
puts_by coming block r put = put
puts_by working block r put = put
puts_by asks_number block r put = put
puts_by asks_flag block r put = put
puts_by asks_shape block r put = put

abbrev pub puts : Call → (block : ℕ → ℕ → ℕ) → ℕ → (ℕ → Option ℕ) → ℕ → Option ℕ
puts c = puts_by (kind_of c)
