-- What a word names, a header's shape, and the word of a field by the tests that decide it; d is the number of the heap's words.
use mathlib.Core.Path.{◌≡◌, refl, ◌∙◌, ap, subst}
use Prim.Native.Nat.{ℕ, zero, suc, ◌+◌, ◌-◌, ◌≤◌, ◌<◌}
use native.Mathlib.Numerals.{unary_clauses}
use lib.Dec.{ltb}
use borrow.Author.Tests.{lt-ltb, le-ltb}
use Rattle.classes.specs.Record.{pointer_count_of, value_count_of}
use Rattle.classes.specs.declared.RecordShape.{RecordShape}
use Rattle.layout.specs.declared.Geometry.{Geometry}
use Rattle.layout.specs.Geometry.{len}
use Rattle.layout.specs.Mem.{Mem}
use Rattle.model.specs.Records.{shape_of, pointer_count, value_count}
use Rattle.model.specs.declared.Held.TheVariants.{Record}
use Rattle.std.specs.Prelude.{Ok, Err}
use Rattle.model.specs.declared.Refusal.TheVariants.{Field, Torn}
use Rattle.records.specs.FieldWords.{held_of, if_in_heap, field_at, pointer_at, value_at}
use Rattle.layout.specs.Region as Region

pub held_record : (w : ℕ) → (w ≡ 0 → ⊥) → Record (w - 1) ≡ held_of w
held_record zero f = absurd (f refl)
held_record (suc at) f = simp unary_clauses refl

module _ (g : Geometry) (d : ℕ) (z : d ≡ len g Region.heap) (at n f w : ℕ) where
  field_8 : at < d → n ≤ f → Err Field ≡ if_in_heap g at (field_at g (ltb f n) w)
  field_8 l h = rw (← z, lt-ltb _ _ l, le-ltb _ _ h)

  field_13 : at < d → f < n → d ≤ w → Err Torn ≡ if_in_heap g at (field_at g (ltb f n) w)
  field_13 l h o = rw (← z, lt-ltb _ _ l, lt-ltb _ _ h, le-ltb _ _ o)

  field_word : at < d → f < n → w < d → Ok w ≡ if_in_heap g at (field_at g (ltb f n) w)
  field_word l h i = rw (← z, lt-ltb _ _ l, lt-ltb _ _ h, lt-ltb _ _ i)

module _ (g : Geometry) (d : ℕ) (z : d ≡ len g Region.heap) (m : Mem) (at f : ℕ) where
  pub pointer_off : d ≤ at → Err Torn ≡ pointer_at g m at f
  unfolding pointer_at
  pointer_off l = rw (← z, le-ltb _ _ l)

  pub value_off : d ≤ at → Err Torn ≡ value_at g m at f
  unfolding value_at
  value_off l = rw (← z, le-ltb _ _ l)

  -- s is the record's shape
  module _ (s : RecordShape) (e : s ≡ shape_of m at) (l : at < d) where
    pub no_pointer : pointer_count_of s ≤ f → Err Field ≡ pointer_at g m at f
    unfolding pointer_at
    no_pointer o = field_8 g d z at (pointer_count m at) f (at + 1 + f) l (subst (λ x. pointer_count_of x ≤ f) e o)

    pub pointer_torn : f < pointer_count_of s → d ≤ at + 1 + f → Err Torn ≡ pointer_at g m at f
    unfolding pointer_at
    pointer_torn i o = field_13 g d z at (pointer_count m at) f (at + 1 + f) l (subst (λ x. f < pointer_count_of x) e i) o

    pub pointer_word : f < pointer_count_of s → at + 1 + f < d → Ok (at + 1 + f) ≡ pointer_at g m at f
    unfolding pointer_at
    pointer_word i o = field_word g d z at (pointer_count m at) f (at + 1 + f) l (subst (λ x. f < pointer_count_of x) e i) o

    place : at + 1 + pointer_count_of s + f ≡ at + 1 + pointer_count m at + f
    place = ap (λ x. at + 1 + pointer_count_of x + f) e

    pub no_value : value_count_of s ≤ f → Err Field ≡ value_at g m at f
    unfolding value_at
    no_value o = field_8 g d z at (value_count m at) f (at + 1 + pointer_count m at + f) l (subst (λ x. value_count_of x ≤ f) e o)

    pub value_torn : f < value_count_of s → d ≤ at + 1 + pointer_count_of s + f → Err Torn ≡ value_at g m at f
    unfolding value_at
    value_torn i o =
        field_13 g d z at (value_count m at) f (at + 1 + pointer_count m at + f) l (subst (λ x. f < value_count_of x) e i) (subst (λ x. d ≤ x) place o)

    pub value_word : f < value_count_of s → at + 1 + pointer_count_of s + f < d → Ok (at + 1 + pointer_count_of s + f) ≡ value_at g m at f
    unfolding value_at
    value_word i o =
        ap Ok place
        ∙ field_word g d z at (value_count m at) f (at + 1 + pointer_count m at + f) l (subst (λ x. f < value_count_of x) e i) (subst (λ x. x < d) place o)
