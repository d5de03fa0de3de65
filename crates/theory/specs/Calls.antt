-- The mutators' calls, the answers, and the refusals 2 to 9 in the order of their numbers. A refusal is computed from what the heap
-- and the unbounded heap both show of themselves, so that the order is written once for both.
use Rattle.std.specs.Prelude.{Bool, true, false, not, ℕ, zero, suc, ◌+◌, ltb, leb, eqb}
use Rattle.std.proofs.Math.Option.{Option, none, some}
use Rattle.classes.specs.Class.{max_fields}
use Rattle.classes.specs.Record.{has_pointer, has_value}
use Rattle.classes.specs.declared.RecordShape.{RecordShape}
use Rattle.layout.specs.Geometry.{mutator_count, root_count}

-- document 01, "Scripts"
pub data Call : Type 0 where
  c_attach c_detach c_check c_leave c_enter : ℕ → Call
  c_spawn : (new parent root : ℕ) → Call
  c_make : (mutator root pointers values : ℕ) → Call
  c_load : (mutator to root field : ℕ) → Call
  c_store : (mutator root field from : ℕ) → Call
  c_copy : (mutator to from : ℕ) → Call
  c_clear : (mutator root : ℕ) → Call
  c_put : (mutator root field value : ℕ) → Call
  c_get : (mutator root field : ℕ) → Call
  c_same : (mutator root other : ℕ) → Call
  c_shape : (mutator root : ℕ) → Call

-- what a call asks for: to come among the mutators, a block for a root, a number, a yes or no, a shape, or none of these
pub data CallKind : Type 0 where
  coming working asks_number asks_flag asks_shape : CallKind
  making : (mutator root : ℕ) → CallKind

abbrev pub kind_of : Call → CallKind
kind_of (c_attach i) = coming
kind_of (c_spawn i p k) = coming
kind_of (c_detach i) = working
kind_of (c_check i) = working
kind_of (c_leave i) = working
kind_of (c_enter i) = working
kind_of (c_make i d p n) = making i d
kind_of (c_load i d s f) = working
kind_of (c_store i s f t) = working
kind_of (c_copy i d s) = working
kind_of (c_clear i d) = working
kind_of (c_put i s k v) = working
kind_of (c_get i s k) = asks_number
kind_of (c_same i s t) = asks_flag
kind_of (c_shape i s) = asks_shape

-- an answer, as document 01 has it: a result with its values, or a refusal's number; the results of step are moved, traced, done, idle, waiting "and
-- how many", and swept, "the segment, and how many blocks in use became free"
pub data Answer : Type 0 where
  a_ok a_moved a_traced a_done a_idle : Answer
  a_num : ℕ → Answer
  a_flag : Bool → Answer
  a_shape : RecordShape → Answer
  a_no : ℕ → Answer
  a_waiting : (mutators : ℕ) → Answer
  a_swept : (segment freed : ℕ) → Answer

-- what a heap shows: which mutators are attached, which are inside, and the shape of the record in a root
pub record Observation : Type 0 where
  pub attached : ℕ → Bool
  pub inside : ℕ → Bool
  pub shape : ℕ → ℕ → Option RecordShape

-- the refusal n unless the test holds, and then what follows; 0 stands for none
unfoldable pub require : Bool → ℕ → ℕ → ℕ
require true n rest = rest
require false n rest = n

-- "7, dark: nil in the slot whose record is wanted"
unfoldable pub if_record : Option RecordShape → (RecordShape → ℕ) → ℕ
if_record none rest = 7
if_record (some shape) rest = rest shape

-- "2, script: a script number over 31", "4, absent", "5, side"
abbrev pub if_inside : Observation → ℕ → ℕ → ℕ
if_inside F i rest = require (ltb i mutator_count) 2 (require (F.attached i) 4 (require (F.inside i) 5 rest))

-- "6, slot: slot over 15"
abbrev pub if_root : ℕ → ℕ → ℕ
if_root k rest = require (ltb k root_count) 6 rest

-- "8, field: no such link or number"
abbrev pub pointer? : ℕ → RecordShape → ℕ
pointer? f shape = require (has_pointer shape f) 8 0

abbrev pub value? : ℕ → RecordShape → ℕ
value? f shape = require (has_value shape f) 8 0

-- the lowest of the numbers 2 to 9 that applies, and 0 where none does
abbrev pub refusal : Observation → Call → ℕ
refusal F (c_attach i) = require (ltb i mutator_count) 2 (require (not (F.attached i)) 3 0)
refusal F (c_spawn i p k) =
    require (ltb i mutator_count) 2
    (require (ltb p mutator_count) 2
    (require (not (F.attached i)) 3 (require (F.attached p) 4 (require (F.inside p) 5 (if_root k 0)))))
refusal F (c_detach i) = if_inside F i 0
refusal F (c_check i) = if_inside F i 0
refusal F (c_leave i) = if_inside F i 0
refusal F (c_enter i) = require (ltb i mutator_count) 2 (require (F.attached i) 4 (require (not (F.inside i)) 5 0))
refusal F (c_make i d p n) = if_inside F i (if_root d (require (leb (p + n) max_fields) 9 0))
refusal F (c_load i d s f) = if_inside F i (if_root d (if_root s (if_record (F.shape i s) (pointer? f))))
refusal F (c_store i s f t) = if_inside F i (if_root s (if_root t (if_record (F.shape i s) (pointer? f))))
refusal F (c_copy i d s) = if_inside F i (if_root d (if_root s 0))
refusal F (c_clear i d) = if_inside F i (if_root d 0)
refusal F (c_put i s k v) = if_inside F i (if_root s (if_record (F.shape i s) (value? k)))
refusal F (c_get i s k) = if_inside F i (if_root s (if_record (F.shape i s) (value? k)))
refusal F (c_same i s t) = if_inside F i (if_root s (if_root t 0))
refusal F (c_shape i s) = if_inside F i (if_root s (if_record (F.shape i s) (λ _. 0)))

-- the shape in a root of an attached mutator
abbrev pub shape_if : Bool → Bool → Option RecordShape → Option RecordShape
shape_if true true o = o
shape_if true false o = none
shape_if false b o = none

-- ---- what a call does that is not refused so: over any state

module _ {S : Type 0} where
  -- a refusal changes nothing
  abbrev pub refuse : ℕ → S → Answer × S → Answer × S
  refuse zero st r = r
  refuse (suc n) st r = (a_no (suc n), st)

  -- refused n where the test holds, else done
  abbrev pub unless : Bool → ℕ → S → S → Answer × S
  unless true n st st' = (a_no n, st)
  unless false n st st' = (a_ok, st')

  -- with the record in a root
  abbrev pub on_record : Option ℕ → S → (ℕ → Answer × S) → Answer × S
  on_record none st k = (a_no 7, st)
  on_record (some a) st k = k a

-- "same (are two slots equal; nil equals nil)"
abbrev pub same_ref : Option ℕ → Option ℕ → Bool
same_ref none none = true
same_ref none (some b) = false
same_ref (some a) none = false
same_ref (some a) (some b) = eqb a b
