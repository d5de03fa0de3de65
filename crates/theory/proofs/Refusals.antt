-- Refusals in the order of their numbers: what holds where none applies, and what becomes of one where more tests follow.
use mathlib.Core.Path.{◌≡◌, refl, ◌∙◌}
use mathlib.Core.Bool.{Bool, true, false}
use mathlib.Core.Option.{Option, some, map}
use Prim.Native.Nat.{ℕ, ◌<◌}
use native.Mathlib.Omega.{arith}
use lib.Dec.{ltb}
use borrow.Author.Tests.{lt-ltb, ltb-true}
use Rattle.classes.specs.declared.RecordShape.{RecordShape}
use Rattle.theory.specs.Calls.{Observation, shape_if, require, if_record, if_inside, if_root}
use Rattle.layout.specs.Geometry.{root_count, mutator_count}

-- ---- none applies: each test holds, and nothing after refuses

pub require_ok : (b : Bool) (n k : ℕ) → 0 < n → require b n k ≡ 0 → (b ≡ true) × (k ≡ 0)
unfolding require
require_ok true n k h e = (refl, e)
require_ok false n k h e = absurd (omega arith)

pub by_ok : (F : Observation) (i k : ℕ) → if_inside F i k ≡ 0 → (i < mutator_count) × (F.attached i ≡ true) × (F.inside i ≡ true) × (k ≡ 0)
by_ok F i k e =
    let a = require_ok (ltb i mutator_count) 2 _ (omega arith) e in
    let b = require_ok (F.attached i) 4 _ (omega arith) a.1 in
    let c = require_ok (F.inside i) 5 _ (omega arith) b.1 in
    (ltb-true _ _ a.0, b.0, c.0, c.1)

pub root_ok : (d k : ℕ) → if_root d k ≡ 0 → (d < root_count) × (k ≡ 0)
root_ok d k e = let a = require_ok (ltb d root_count) 6 k (omega arith) e in (ltb-true _ _ a.0, a.1)

pub shape_ok : (b c : Bool) (v : Option ℕ) (g : ℕ → RecordShape) (k : RecordShape → ℕ) (a : ℕ) → b ≡ true → c ≡ true → v ≡ some a → if_record (shape_if b c (map g v)) k ≡ 0 → k (g a) ≡ 0
unfolding if_record
shape_ok b c v g k a p q e h = rw (p, q, e) at h

-- ---- where a test holds, what follows decides

pub require_rest : (b : Bool) (n rest : ℕ) → b ≡ true → rest ≡ require b n rest
unfolding require
require_rest b n rest e = rw e

pub inside_rest : (F : Observation) (i rest : ℕ) → i < mutator_count → F.attached i ≡ true → F.inside i ≡ true → rest ≡ if_inside F i rest
inside_rest F i rest l a b = require_rest (F.inside i) 5 _ b ∙ require_rest (F.attached i) 4 _ a ∙ require_rest (ltb i mutator_count) 2 _ (lt-ltb _ _ l)

pub root_rest : (i rest : ℕ) → i < root_count → rest ≡ if_root i rest
root_rest i rest l = require_rest (ltb i root_count) 6 rest (lt-ltb _ _ l)

-- ---- a number that a test gives stays where more tests follow

module _ (x rest more : ℕ) (on : x ≡ rest → x ≡ more) where
  pub require_on : (b : Bool) (n : ℕ) → x ≡ require b n rest → x ≡ require b n more
  unfolding require
  require_on true n e = on e
  require_on false n e = e

pub root_on : (x rest more : ℕ) → (x ≡ rest → x ≡ more) → (i : ℕ) → x ≡ if_root i rest → x ≡ if_root i more
root_on x rest more on i e = require_on x rest more on (ltb i root_count) 6 e

pub inside_on : (x rest more : ℕ) → (x ≡ rest → x ≡ more) → (F : Observation) (i : ℕ) → x ≡ if_inside F i rest → x ≡ if_inside F i more
inside_on x rest more on F i e =
    require_on x _ _ (require_on x _ _ (require_on x rest more on (F.inside i) 5) (F.attached i) 4) (ltb i mutator_count) 2 e
