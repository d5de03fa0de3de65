-- What a make has come to, carried from a segment to a class and from a class to the call; and where each answer leads.
use mathlib.Core.Path.{◌≡◌, refl, ◌∙◌, ap, subst}
use mathlib.Core.Bool.{Bool, true, false, true≢false}
use mathlib.Core.List.{List}
use Prim.Native.Nat.{ℕ, ◌-◌, ◌≤◌, ◌<◌}
use lib.ListN.{length}
use Rattle.classes.specs.Class.{IsClass}
use Rattle.classes.specs.Record.{class_of_record}
use Rattle.classes.specs.declared.RecordShape.{RecordShape}
use Rattle.std.specs.Prelude.{Option, Some, None, Result, Ok, Err, is_some}
use Rattle.std.specs.Result.{result_ok}
use Rattle.basics.specs.Pick.{pick}
use Rattle.model.specs.declared.Refusal.TheVariants.{Size}
use Rattle.model.specs.Refusals.{number_or_0}
use Rattle.layout.specs.declared.Geometry.{Geometry}
use Rattle.layout.specs.Geometry.{Sized, mutator_count, root_count, wrong_size}
use Rattle.layout.specs.Mem.{mem_of}
use Rattle.theory.specs.Calls.{if_root}
use Rattle.model.specs.Fields.{holding}
use Rattle.model_laws.proofs.Lengths.{sizes_of}
use Rattle.mutators.specs.Inside.{inside_then}
use Rattle.model.specs.declared.Answer.{Answer}
use Rattle.model.specs.declared.Answer.TheVariants.{Done}
use Rattle.model.specs.declared.Refusal.{Refusal}
use Rattle.making.specs.declared.Begun.{Begun}
use Rattle.making.specs.declared.Begun.TheVariants.{Made, Search}
use Rattle.making.specs.Taking.{Takes}
use Rattle.making.specs.Beginning.{Searches, Comes, Begins, Tries, Out, OfClass, Called}
use Rattle.making.proofs.Taking.{held_there}
use Rattle.making.proofs.HandingOut.{make_done}
use Rattle.making.proofs.Making.{make_by}

-- nothing is done yet: the search is to be made in segment s
pub to_search : (g : Geometry) (k d : ℕ) (shape : RecordShape) (c s : ℕ) (now : List ℕ) → Sized g (length now) → k < mutator_count → d < root_count → s < g.segments → class_of_record shape ≡ Some c
    → Searches (Out g now k d c s shape) g k d shape c s now
to_search g k d shape c s now z l h i e = record { sized = z; mutator = l; root = h; segment = i; class = e; rest = λ a after f. f }

-- ---- tests of the call's arguments that refuse nothing, of which only that is told

pub ok_fits : {w : Bool} {r : Result (Unit {0}) Refusal} {x : Unit {0}} → r ≡ pick w (Err Size) (Ok tt) → Some x ≡ result_ok r → w ≡ false
ok_fits {w = false} e o = refl
ok_fits {w = true} e o = absurd (true≢false (ap is_some (o ∙ ap result_ok e)))

pub ok_inside : {n : ℕ} {x : Unit {0}} (r : Result (Unit {0}) Refusal) → number_or_0 r ≡ n → Some x ≡ result_ok r → 0 ≡ n
ok_inside (Ok y) e o = e
ok_inside (Err w) e o = absurd (true≢false (ap is_some o))

-- ---- carried on: what was promised gives what is to be promised

module _ (Now Then : Result Answer Refusal → List ℕ → Type 0) (gives : (a : Result Answer Refusal) (after : List ℕ) → Now a after → Then a after) (g : Geometry) (k d : ℕ)
    (shape : RecordShape) (now : List ℕ) where
  pub comes_on : (r : Begun) → Comes Now g k d shape r now → Comes Then g k d shape r now
  comes_on Made q = gives (Ok Done) now q
  comes_on (Search c s) q =
      record { sized = q.sized; mutator = q.mutator; root = q.root; segment = q.segment; class = q.class; rest = λ a after f. gives a after (q.rest a after f) }

  pub begun_on : (r : Result Begun Refusal) → Begins Now g k d shape r now → Begins Then g k d shape r now
  begun_on (Ok b) q = comes_on b q
  begun_on (Err e) q = gives (Err e) now q

  pub tried_on : (before : List ℕ) (r : Option Begun) → Tries Now g k d shape before r now → Tries Then g k d shape before r now
  tried_on before (Some b) q = comes_on b q
  tried_on before None q = q

-- from a segment that is taken to the class
pub begun_taken : (g : Geometry) (k d c : ℕ) (shape : RecordShape) (before mid : List ℕ) → Sized g (length before) → k < mutator_count → IsClass c
    → (s : ℕ) → Takes g (mem_of g before) k c (Ok s) (mem_of g mid) → (r : Begun) (now : List ℕ) → Comes (Out g mid k d c s shape) g k d shape r now → Comes (OfClass g before k d c shape) g k d shape r now
begun_taken g k d c shape before mid z few i s q r now =
    comes_on (Out g mid k d c s shape) (OfClass g before k d c shape)
    (λ a after f. make_done g (mem_of g before) k d c shape (mem_of g mid) (sizes_of g before z) few i s q a (mem_of g after) f) g k d shape now r

-- from one that is held, h is the word of the mutator's entry
pub tried_held : (g : Geometry) (k d c : ℕ) (shape : RecordShape) (before : List ℕ) → Sized g (length before) → k < mutator_count → IsClass c → (h : ℕ) → h ≡ holding (mem_of g before) k c → (h ≡ 0 → ⊥)
    → h ≤ g.segments → (r : Begun) (now : List ℕ) → Comes (Out g before k d c (h - 1) shape) g k d shape r now → Comes (OfClass g before k d c shape) g k d shape r now
tried_held g k d c shape before z few i h eh f l =
    begun_taken g k d c shape before before z few i (h - 1) (held_there g (mem_of g before) k c h eh f l)

-- from the class to the call, n is the refusal of the mutator and the root
module _ (g : Geometry) (k d : ℕ) (shape : RecordShape) (before : List ℕ) (e : wrong_size g (length before) ≡ false)
    (n : ℕ) (q : n ≡ inside_then (mem_of g before) k (if_root d 0)) (z : n ≡ 0) (c : ℕ) (t : Some c ≡ class_of_record shape) where
  called : (a : Result Answer Refusal) (after : List ℕ) → OfClass g before k d c shape a after → Called g before k d shape a after
  called a after f = make_by g before k d shape.pointer_count shape.value_count n e q z c t a after f

  pub begun_called : (r : Result Begun Refusal) (now : List ℕ) → Begins (OfClass g before k d c shape) g k d shape r now → Begins (Called g before k d shape) g k d shape r now
  begun_called r now = begun_on (OfClass g before k d c shape) (Called g before k d shape) called g k d shape now r

  pub tried_called : (r : Option Begun) (now : List ℕ) → Tries (OfClass g before k d c shape) g k d shape before r now → Tries (Called g before k d shape) g k d shape before r now
  tried_called r now = tried_on (OfClass g before k d c shape) (Called g before k d shape) called g k d shape now before r

-- not by the quick way, which leaves the memory as it was
pub tried_none : (g : Geometry) (k d : ℕ) (shape : RecordShape) (before now : List ℕ) → now ≡ before → (b : Result Begun Refusal) (after : List ℕ)
    → Begins (Called g now k d shape) g k d shape b after → Begins (Called g before k d shape) g k d shape b after
tried_none g k d shape before now e b after f = subst (λ z. Begins (Called g z k d shape) g k d shape b after) e f
