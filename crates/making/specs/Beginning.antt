-- What a make comes to before a search, over memory of any content: its answer, or a segment in which the search is to be made. `Then` is what is promised of
-- an answer and the memory with it.
use Rattle.std.specs.Prelude.{◌≡◌, List, ℕ, ◌<◌, length, Option, Some, None, Result, Ok, Err}
use Rattle.classes.specs.Record.{class_of_record}
use Rattle.classes.specs.declared.RecordShape.{RecordShape}
use Rattle.layout.specs.declared.Geometry.{Geometry}
use Rattle.layout.specs.Geometry.{Sized, mutator_count, root_count}
use Rattle.layout.specs.Mem.{mem_of}
use Rattle.theory.specs.Calls.{c_make}
use Rattle.model.specs.declared.Answer.{Answer}
use Rattle.model.specs.declared.Answer.TheVariants.{Done}
use Rattle.model.specs.declared.Refusal.{Refusal}
use Rattle.model.specs.Promise.{Promise}
use Rattle.making.specs.declared.Begun.{Begun}
use Rattle.making.specs.HandingOut.{HandsOut, Makes}
use Rattle.making.specs.declared.Begun.TheVariants.{Made, Search}

-- the search in segment s may be made, and what it hands out is what is promised
pub record Searches (Then : Result Answer Refusal → List ℕ → Type 0) (g : Geometry) (k d : ℕ) (shape : RecordShape) (c s : ℕ) (now : List ℕ) : Type 0 where
  pub sized : Sized g (length now)
  pub mutator : k < mutator_count
  pub root : d < root_count
  pub segment : s < g.segments
  pub class : class_of_record shape ≡ Some c
  pub rest : (a : Result Answer Refusal) (after : List ℕ) → HandsOut g (mem_of g now) k d c s shape a (mem_of g after) → Then a after

-- what a make that is not refused comes to
abbrev pub Comes : (Result Answer Refusal → List ℕ → Type 0) → Geometry → ℕ → ℕ → RecordShape → Begun → List ℕ → Type 0
Comes Then g k d shape Made now = Then (Ok Done) now
Comes Then g k d shape (Search c s) now = Searches Then g k d shape c s now

abbrev pub Begins : (Result Answer Refusal → List ℕ → Type 0) → Geometry → ℕ → ℕ → RecordShape → Result Begun Refusal → List ℕ → Type 0
Begins Then g k d shape (Ok b) now = Comes Then g k d shape b now
Begins Then g k d shape (Err e) now = Then (Err e) now

-- nothing yet: nothing is changed
abbrev pub Tries : (Result Answer Refusal → List ℕ → Type 0) → Geometry → ℕ → ℕ → RecordShape → List ℕ → Option Begun → List ℕ → Type 0
Tries Then g k d shape before (Some b) now = Comes Then g k d shape b now
Tries Then g k d shape before None now = now ≡ before

-- ---- what is promised: out of a segment, of a class, of the call

abbrev pub Out : Geometry → List ℕ → ℕ → ℕ → ℕ → ℕ → RecordShape → Result Answer Refusal → List ℕ → Type 0
Out g before k d c s shape a after = HandsOut g (mem_of g before) k d c s shape a (mem_of g after)

abbrev pub OfClass : Geometry → List ℕ → ℕ → ℕ → ℕ → RecordShape → Result Answer Refusal → List ℕ → Type 0
OfClass g before k d c shape a after = Makes g (mem_of g before) k d c shape a (mem_of g after)

abbrev pub Called : Geometry → List ℕ → ℕ → ℕ → RecordShape → Result Answer Refusal → List ℕ → Type 0
Called g before k d shape a after = Promise (c_make k d shape.pointer_count shape.value_count) g before a after
