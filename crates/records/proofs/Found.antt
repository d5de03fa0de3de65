-- What the answer of a search for a field's word says of the record.
use mathlib.Core.Path.{◌≡◌, refl, sym, ap, subst}
use mathlib.Core.Bool.{Bool, true, false, true≢false}
use Prim.Native.Nat.{ℕ, ◌+◌, ◌≤◌, ◌<◌}
use lib.Dec.{ltb}
use borrow.Author.Tests.{ltb-true, ltb-false}
use Rattle.basics.specs.Pick.{pick}
use Rattle.layout.specs.declared.Geometry.{Geometry}
use Rattle.layout.specs.Geometry.{len}
use Rattle.layout.specs.Mem.{Mem}
use Rattle.model.specs.Records.{pointer_count, value_count}
use Rattle.std.specs.Prelude.{Result, Ok, Err, is_ok}
use Rattle.model.specs.declared.Refusal.{Refusal}
use Rattle.model.specs.declared.Refusal.TheVariants.{Field, Torn}
use Rattle.records.specs.FieldWords.{if_in_heap, field_at, pointer_at, value_at}
use Rattle.layout.specs.Region as Region

abbrev word : Result ℕ Refusal → ℕ
word (Ok p) = p
word (Err e) = 0

abbrev refusal : Result ℕ Refusal → Refusal
refusal (Ok p) = Torn
refusal (Err e) = e

-- field f of n at word w, of a record at a word: it is found
pub record FieldFound (g : Geometry) (at n f w p : ℕ) : Type 0 where
  pub has : f < n
  pub is : p ≡ w
  pub within : p < len g Region.heap

-- or why there is none: 8 for no such field, 13 where a word lies off the heap
pub data FieldMissing (g : Geometry) (at n f w : ℕ) (x : Refusal) : Type 0 where
  no_field : x ≡ Field → n ≤ f → FieldMissing g at n f w x
  off : x ≡ Torn → len g Region.heap ≤ at → FieldMissing g at n f w x
  beyond : x ≡ Torn → f < n → len g Region.heap ≤ w → FieldMissing g at n f w x

module _ (g : Geometry) (at n f w : ℕ) where
  abbrev by : Bool → Bool → Bool → Result ℕ Refusal
  by a b c = pick a (pick b (pick c (Ok w) (Err Torn)) (Err Field)) (Err Torn)

  found : (p : ℕ) → Ok p ≡ if_in_heap g at (field_at g (ltb f n) w) → FieldFound g at n f w p
  found p e = go (ltb at (len g Region.heap)) (ltb f n) (ltb w (len g Region.heap)) refl refl refl e
    where
      go : (a b c : Bool) → ltb at (len g Region.heap) ≡ a → ltb f n ≡ b → ltb w (len g Region.heap) ≡ c → Ok p ≡ by a b c → FieldFound g at n f w p
      go true true true q r s e = record { has = ltb-true _ _ r; is = ap word e; within = subst (λ x. x < len g Region.heap) (sym (ap word e)) (ltb-true _ _ s) }
      go true true false q r s e = absurd (true≢false (ap is_ok e))
      go true false c q r s e = absurd (true≢false (ap is_ok e))
      go false b c q r s e = absurd (true≢false (ap is_ok e))

  missing : (x : Refusal) → Err x ≡ if_in_heap g at (field_at g (ltb f n) w) → FieldMissing g at n f w x
  missing x e = go (ltb at (len g Region.heap)) (ltb f n) (ltb w (len g Region.heap)) refl refl refl e
    where
      go : (a b c : Bool) → ltb at (len g Region.heap) ≡ a → ltb f n ≡ b → ltb w (len g Region.heap) ≡ c → Err x ≡ by a b c → FieldMissing g at n f w x
      go true true true q r s e = absurd (true≢false (sym (ap is_ok e)))
      go true true false q r s e = beyond (ap refusal e) (ltb-true _ _ r) (ltb-false _ _ s)
      go true false c q r s e = no_field (ap refusal e) (ltb-false _ _ r)
      go false b c q r s e = off (ap refusal e) (ltb-false _ _ q)

module _ (g : Geometry) (m : Mem) (at f : ℕ) where
  pub pointer_found : (p : ℕ) → Ok p ≡ pointer_at g m at f → FieldFound g at (pointer_count m at) f (at + 1 + f) p
  unfolding pointer_at
  pointer_found p e = found g at (pointer_count m at) f (at + 1 + f) p e

  pub pointer_missing : (x : Refusal) → Err x ≡ pointer_at g m at f → FieldMissing g at (pointer_count m at) f (at + 1 + f) x
  unfolding pointer_at
  pointer_missing x e = missing g at (pointer_count m at) f (at + 1 + f) x e

  pub value_found : (p : ℕ) → Ok p ≡ value_at g m at f → FieldFound g at (value_count m at) f (at + 1 + pointer_count m at + f) p
  unfolding value_at
  value_found p e = found g at (value_count m at) f (at + 1 + pointer_count m at + f) p e

  pub value_missing : (x : Refusal) → Err x ≡ value_at g m at f → FieldMissing g at (value_count m at) f (at + 1 + pointer_count m at + f) x
  unfolding value_at
  value_missing x e = missing g at (value_count m at) f (at + 1 + pointer_count m at + f) x e
