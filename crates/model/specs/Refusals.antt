-- The refusals by the numbers of document 01's table, and back. Request No. 1: "Refusal 12 never occurs any more": no call may give it (Answers.antt).
use Rattle.std.specs.Prelude.{List, [], ◌∷◌, ℕ, eqb, Result, Ok, Err}
use Rattle.basics.specs.Pick.{pick}
use Rattle.model.specs.declared.Refusal.{Refusal}
use Rattle.model.specs.declared.Refusal.TheVariants as refusal

-- "size", "script", "taken", "absent", "side", "slot", "dark", "field", "too big", "no room", "not now", "none full", "torn"
abbrev pub number_of : Refusal → ℕ
number_of refusal.Size = 1
number_of refusal.Mutator = 2
number_of refusal.Taken = 3
number_of refusal.Absent = 4
number_of refusal.Side = 5
number_of refusal.Root = 6
number_of refusal.Nil = 7
number_of refusal.Field = 8
number_of refusal.TooBig = 9
number_of refusal.NoRoom = 10
number_of refusal.NotNow = 11
number_of refusal.NoneFull = 12
number_of refusal.Torn = 13

-- the first of some refusals that has a number, else the last resort
abbrev pub numbered_in : List Refusal → ℕ → Refusal
numbered_in [] n = refusal.Torn
numbered_in (e ∷ es) n = pick (eqb n (number_of e)) e (numbered_in es n)

abbrev pub refusals : List Refusal
refusals =
    refusal.Size ∷ refusal.Mutator ∷ refusal.Taken ∷ refusal.Absent ∷ refusal.Side ∷ refusal.Root ∷ refusal.Nil ∷ refusal.Field ∷ refusal.TooBig ∷ refusal.NoRoom
    ∷ refusal.NotNow ∷ refusal.NoneFull ∷ refusal.Torn ∷ []

-- the refusal of a number that a call may give
abbrev pub refusal_numbered : ℕ → Refusal
refusal_numbered n = numbered_in refusals n

-- what a test of a call's arguments answers as a number: 0 where nothing is refused (in no statement: contracts of inner functions use it)
abbrev pub number_or_0 : Result (Unit {0}) Refusal → ℕ
number_or_0 (Ok x) = 0
number_or_0 (Err e) = number_of e
