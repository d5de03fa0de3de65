-- The abstract machine: blocks are numbers, with no bitmaps and no words. Its operations, after their refusals.
use Rattle.std.specs.Prelude.{◌≡◌, ◌⊎◌, Bool, true, false, ℕ, zero, suc, ◌<◌}
use Rattle.std.proofs.Math.Option.{Option, none, some}
use mathlib.Core.List.{List, Memᴰ}
use Rattle.std.proofs.Math.Decide.{ℕ_discrete}
use Rattle.theory.specs.Reach.{Cover, Reach, root}
use Rattle.theory.specs.TraceStack.{tab, push, pushes}
use Rattle.theory.specs.Phases.{Phase, Duty, duty, black, newcomer, idle, sync1, sync2, mark, sweep, nothing, both, old}
use Rattle.theory.specs.Update.{if_dec, upd, upd2}
use Rattle.layout.specs.Geometry.{root_count}

pub record State : Type 0 where
  pub pointer_count : ℕ → ℕ  -- of the record in a block
  pub pointer : ℕ → ℕ → Option ℕ  -- block, field
  pub values : ℕ → List ℕ  -- the record's data fields
  pub used : ℕ → Bool  -- block
  pub condemned : ℕ → Bool  -- segment: condemned
  pub marked : ℕ → Bool  -- block
  pub stack : List ℕ
  pub attached : ℕ → Bool  -- mutator: attached
  pub inside : ℕ → Bool  -- mutator: inside
  pub acks : ℕ → ℕ  -- mutator: acknowledgements in this cycle
  pub root : ℕ → ℕ → Option ℕ  -- mutator, root
  pub phase : Phase

-- ---- what the invariants speak of

abbrev pub Holds : State → ℕ → ℕ → Type 0
Holds st i b = (k : ℕ) × (st.attached i ≡ true) × (k < root_count) × (st.root i k ≡ some b)

abbrev pub Root : State → ℕ → Type 0
Root st b = (i : ℕ) × Holds st i b

abbrev pub Points : State → ℕ → ℕ → Type 0
Points st x y = (f : ℕ) × (f < st.pointer_count x) × (st.pointer x f ≡ some y)

abbrev pub Grey : State → ℕ → Type 0
Grey st b = Memᴰ b st.stack

abbrev pub LiveRoot : State → ℕ → Type 0
LiveRoot st b = Root st b ⊎ Grey st b

abbrev pub Live : State → ℕ → Type 0
Live st = Reach (LiveRoot st) (Points st)

abbrev pub Reached : State → ℕ → Type 0
Reached st = Reach (Root st) (Points st)

abbrev pub Covered : State → ℕ → Type 0
Covered st = Cover (Grey st) st.marked (Points st)

-- ---- the operations

abbrev pub barrier : Duty → (ℕ → Bool) → Option ℕ → Option ℕ → List ℕ → List ℕ
barrier nothing m new o l = l
barrier both m new o l = push m o (push m new l)
barrier old m new o l = push m o l

abbrev pub set_root : State → ℕ → ℕ → Option ℕ → State
set_root st i k v = record { pointer_count = st.pointer_count; values = st.values; pointer = st.pointer; used = st.used; condemned = st.condemned; marked = st.marked; stack = st.stack; attached = st.attached; inside = st.inside; acks = st.acks; root = upd2 st.root i k v; phase = st.phase }

-- mutator i stores the value `new` of a root into field f of block a
abbrev pub store : State → ℕ → ℕ → ℕ → Option ℕ → State
store st i a f new = record { pointer_count = st.pointer_count; values = st.values; pointer = upd2 st.pointer a f new; used = st.used; condemned = st.condemned; marked = st.marked; stack = barrier (duty st.phase (st.acks i)) st.marked new (st.pointer a f) st.stack; attached = st.attached; inside = st.inside; acks = st.acks; root = st.root; phase = st.phase }

-- mutator i makes a record of n pointers and the values z in block b, into its root d
abbrev pub make : State → ℕ → ℕ → ℕ → ℕ → List ℕ → State
make st i d b n z = record { pointer_count = upd st.pointer_count b n; values = upd st.values b z; pointer = upd st.pointer b (λ _. none); used = upd st.used b true; condemned = st.condemned; marked = upd st.marked b (black st.phase (st.acks i)); stack = st.stack; attached = st.attached; inside = st.inside; acks = st.acks; root = upd2 st.root i d (some b); phase = st.phase }

-- attach and spawn: root 0 starts as v
abbrev pub attach : State → ℕ → Option ℕ → State
attach st i v = record { pointer_count = st.pointer_count; values = st.values; pointer = st.pointer; used = st.used; condemned = st.condemned; marked = st.marked; stack = st.stack; attached = upd st.attached i true; inside = upd st.inside i true; acks = upd st.acks i (newcomer st.phase); root = upd st.root i (upd (λ _. none) 0 v); phase = st.phase }

abbrev pub detach : State → ℕ → State
detach st i = record { pointer_count = st.pointer_count; values = st.values; pointer = st.pointer; used = st.used; condemned = st.condemned; marked = st.marked; stack = st.stack; attached = upd st.attached i false; inside = upd st.inside i false; acks = upd st.acks i 0; root = upd st.root i (λ _. none); phase = st.phase }

-- the data fields of the record in block a become z
abbrev pub set_values : State → ℕ → List ℕ → State
set_values st a z = record { pointer_count = st.pointer_count; values = upd st.values a z; pointer = st.pointer; used = st.used; condemned = st.condemned; marked = st.marked; stack = st.stack; attached = st.attached; inside = st.inside; acks = st.acks; root = st.root; phase = st.phase }

abbrev pub set_inside : State → ℕ → Bool → State
set_inside st i v = record { pointer_count = st.pointer_count; values = st.values; pointer = st.pointer; used = st.used; condemned = st.condemned; marked = st.marked; stack = st.stack; attached = st.attached; inside = upd st.inside i v; acks = st.acks; root = st.root; phase = st.phase }

abbrev pub set_acks : State → ℕ → ℕ → List ℕ → State
set_acks st i a l = record { pointer_count = st.pointer_count; values = st.values; pointer = st.pointer; used = st.used; condemned = st.condemned; marked = st.marked; stack = l; attached = st.attached; inside = st.inside; acks = upd st.acks i a; root = st.root; phase = st.phase }

-- check of an attached mutator: by phase and its acknowledgements
abbrev pub acknowledge : Phase → ℕ → State → ℕ → State
acknowledge idle a st i = st
acknowledge sync1 zero st i = set_acks st i 1 st.stack
acknowledge sync1 (suc a) st i = st
acknowledge sync2 zero st i = set_acks st i 2 (pushes st.marked (tab root_count (st.root i)) st.stack)
acknowledge sync2 (suc zero) st i = set_acks st i 2 (pushes st.marked (tab root_count (st.root i)) st.stack)
acknowledge sync2 (suc (suc a)) st i = st
acknowledge mark a st i = st
acknowledge sweep a st i = st

abbrev pub check : State → ℕ → State
check st i = acknowledge st.phase (st.acks i) st i

abbrev pub start : State → (ℕ → Bool) → State
start st full = record { pointer_count = st.pointer_count; values = st.values; pointer = st.pointer; used = st.used; condemned = full; marked = λ _. false; stack = st.stack; attached = st.attached; inside = st.inside; acks = λ _. 0; root = st.root; phase = sync1 }

abbrev pub set_phase : State → Phase → State
set_phase st p = record { pointer_count = st.pointer_count; values = st.values; pointer = st.pointer; used = st.used; condemned = st.condemned; marked = st.marked; stack = st.stack; attached = st.attached; inside = st.inside; acks = st.acks; root = st.root; phase = p }

-- mark: b was the top, l the rest
abbrev pub trace : State → ℕ → List ℕ → State
trace st b l = record { pointer_count = st.pointer_count; values = st.values; pointer = st.pointer; used = st.used; condemned = st.condemned; marked = upd st.marked b true; stack = pushes (upd st.marked b true) (tab (st.pointer_count b) (st.pointer b)) l; attached = st.attached; inside = st.inside; acks = st.acks; root = st.root; phase = st.phase }

-- sweep of segment g: what is in use there is what is marked
abbrev pub sweep_segment : (ℕ → ℕ) → State → ℕ → State
sweep_segment segment_of st g = record { pointer_count = st.pointer_count; values = st.values; pointer = st.pointer; used = λ b. if_dec (ℕ_discrete (segment_of b) g) (st.marked b) (st.used b); condemned = upd st.condemned g false; marked = st.marked; stack = st.stack; attached = st.attached; inside = st.inside; acks = st.acks; root = st.root; phase = st.phase }
