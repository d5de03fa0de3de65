-- A call on a field of the record in a root: what the root's word names, and what the search for the field's word says of the call.
use mathlib.Core.Path.{◌≡◌, refl, sym, ◌∙◌, ap, subst}
use mathlib.Core.Bool.{Bool, true, false, true≢false}
use mathlib.Core.List.{List}
use Prim.Native.Nat.{ℕ, zero, suc, ◌+◌, ◌≤◌, ◌<◌}
use native.Mathlib.Omega.{arith}
use lib.Dec.{ltb}
use Rattle.classes.specs.declared.RecordShape.{RecordShape}
use Rattle.layout.specs.declared.Geometry.{Geometry}
use Rattle.layout.specs.Mem.{Mem, mem_of}
use Rattle.theory.specs.Calls.{Call, require, pointer?, value?, refusal}
use Rattle.std.specs.Prelude.{Ok, Err}
use Rattle.model.specs.declared.Refusal.{Refusal}
use Rattle.model.specs.declared.Held.{Held}
use Rattle.model.specs.declared.Held.TheVariants.{Nil, Record}
use Rattle.model.specs.Fields.{root}
use Rattle.model.specs.Records.{pointer_count, value_count, shape_of}
use Rattle.model.specs.Calls.{observe}
use Rattle.model.specs.Promise.{Promise}
use Rattle.model_laws.proofs.Reaching.{Names, Reaches, nil_7, off_13, header_13, has_0, field_8}
use Rattle.records.specs.FieldWords.{held_of, pointer_at, value_at}
use Rattle.records.proofs.Found.{FieldMissing, no_field, off, beyond, pointer_found, pointer_missing, value_found, value_missing}
use Rattle.model.specs.declared.Refusal.TheVariants as refusal_is

-- ---- what a root's word names

abbrev nil? : Held → Bool
nil? Nil = true
nil? (Record at) = false

abbrev named : Held → ℕ
named Nil = 0
named (Record at) = at

is_nil : (w : ℕ) → Nil ≡ held_of w → w ≡ 0
is_nil zero e = refl
is_nil (suc at) e = absurd (true≢false (ap nil? e))

is_record : (w at : ℕ) → Record at ≡ held_of w → w ≡ suc at
is_record zero at e = absurd (true≢false (sym (ap nil? e)))
is_record (suc w) at e = ap suc (sym (ap named e))

pub names : (g : Geometry) (xs : List ℕ) (k i w at : ℕ) → w ≡ root (mem_of g xs) k i → Record at ≡ held_of w → Names g xs k i at
names g xs k i w at r h = record { word = sym r ∙ is_record w at h }

pub held_7 : (c : Call) (g : Geometry) (xs : List ℕ) (k i : ℕ) (test : RecordShape → ℕ) → Reaches c g xs k i test → (w : ℕ) → w ≡ root (mem_of g xs) k i → Nil ≡ held_of w → Promise c g xs (Err refusal_is.Nil) xs
held_7 c g xs k i test q w r h = nil_7 c g xs k i test q (sym r ∙ is_nil w h)

-- ---- a call on a pointer, or on a value, of the record

module _ (c : Call) (g : Geometry) (xs : List ℕ) (k i f at : ℕ) (p : Names g xs k i at) where
  abbrev m : Mem
  m = mem_of g xs

  -- field f of n at word u, y words behind the header, where the test asks for it
  module _ (test : RecordShape → ℕ) (q : Reaches c g xs k i test) (n u y : ℕ) (asks : test (shape_of m at) ≡ require (ltb f n) 8 0)
      (is : u ≡ at + y) (fits : f < n → y ≤ pointer_count m at + value_count m at) where
    missing : (x : Refusal) → FieldMissing g at n f u x → Promise c g xs (Err x) xs
    missing x (no_field e l) = subst (λ x. Promise c g xs (Err x) xs) (sym e) (field_8 c g xs k i test q at p n f asks l)
    missing x (off e l) = subst (λ x. Promise c g xs (Err x) xs) (sym e) (header_13 c g xs k i test q at p l)
    missing x (beyond e h l) = subst (λ x. Promise c g xs (Err x) xs) (sym e) (off_13 c g xs k i test q at p y (fits h) (omega arith))

  pub pointer_0 : Reaches c g xs k i (pointer? f) → (u : ℕ) → Ok u ≡ pointer_at g m at f → 0 ≡ refusal (observe m) c
  pointer_0 q u e = has_0 c g xs k i (pointer? f) q at p (pointer_count m at) f refl (pointer_found g m at f u e).has

  pub pointer_refused : Reaches c g xs k i (pointer? f) → (x : Refusal) → Err x ≡ pointer_at g m at f → Promise c g xs (Err x) xs
  pointer_refused q x e =
      missing (pointer? f) q (pointer_count m at) (at + 1 + f) (1 + f) refl (omega arith) (λ l. omega arith) x (pointer_missing g m at f x e)

  pub value_0 : Reaches c g xs k i (value? f) → (u : ℕ) → Ok u ≡ value_at g m at f → 0 ≡ refusal (observe m) c
  value_0 q u e = has_0 c g xs k i (value? f) q at p (value_count m at) f refl (value_found g m at f u e).has

  pub value_refused : Reaches c g xs k i (value? f) → (x : Refusal) → Err x ≡ value_at g m at f → Promise c g xs (Err x) xs
  value_refused q x e =
      missing (value? f) q (value_count m at) (at + 1 + pointer_count m at + f) (1 + pointer_count m at + f) refl (omega arith) (λ l. omega arith) x
      (value_missing g m at f x e)
