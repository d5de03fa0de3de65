-- A call on the record in a root, past the refusals of its mutator and its roots: how the rest refuses it, and when nothing does.
use mathlib.Core.Path.{◌≡◌, refl, sym, ◌∙◌, ap}
use mathlib.Core.Bool.{true, false}
use mathlib.Core.Option.{none, some}
use mathlib.Core.List.{List}
use Prim.Native.Nat.{ℕ, suc, ◌+◌, ◌≤◌, ◌<◌}
use native.Mathlib.Omega.{arith}
use lib.Dec.{ltb}
use lib.ListN.{length}
use borrow.Author.Tests.{lt-ltb, le-ltb}
use Rattle.classes.specs.declared.RecordShape.{RecordShape}
use Rattle.layout.specs.declared.Geometry.{Geometry}
use Rattle.layout.specs.Geometry.{len, wrong_size, mutator_count, root_count}
use Rattle.layout.specs.Mem.{Mem, mem_of}
use Rattle.theory.specs.Calls.{Call, require, if_record, refusal}
use Rattle.std.specs.Prelude.{Err}
use Rattle.model.specs.declared.Refusal.TheVariants.{Nil, Field, Torn}
use Rattle.model.specs.Fields.{root}
use Rattle.model.specs.Records.{pointer_count, value_count, shape_of}
use Rattle.model.specs.Calls.{is_attached, observe}
use Rattle.model.specs.Promise.{Promise}
use Rattle.model_laws.proofs.Apart.{field_inside}
use Rattle.model_laws.proofs.Promised.{refused, torn_13}
use Rattle.model_laws.proofs.Rooted.{rooted}
use Rattle.layout.specs.Region as Region

-- root i of mutator k names the record at a word
pub record Names (g : Geometry) (xs : List ℕ) (k i at : ℕ) : Type 0 where
  pub word : root (mem_of g xs) k i ≡ suc at

-- only what a test says of the record in root i of mutator k can refuse the call
pub record Reaches (c : Call) (g : Geometry) (xs : List ℕ) (k i : ℕ) (test : RecordShape → ℕ) : Type 0 where
  pub size : wrong_size g (length xs) ≡ false
  pub known : k < mutator_count
  pub within : i < root_count
  pub attached : is_attached (mem_of g xs) k ≡ true
  pub rest : if_record ((observe (mem_of g xs)).shape k i) test ≡ refusal (observe (mem_of g xs)) c

module _ (c : Call) (g : Geometry) (xs : List ℕ) (k i : ℕ) (test : RecordShape → ℕ) (q : Reaches c g xs k i test) where
  abbrev m : Mem
  m = mem_of g xs

  shape_nil : root m k i ≡ 0 → (observe m).shape k i ≡ none
  shape_nil e = rw (q.attached, lt-ltb _ _ q.within, e)

  -- "7, dark"
  pub nil_7 : root m k i ≡ 0 → Promise c g xs (Err Nil) xs
  unfolding if_record
  nil_7 e = refused c g xs Nil q.size (ap (λ o. if_record o test) (sym (shape_nil e)) ∙ q.rest)

  module _ (at : ℕ) (p : Names g xs k i at) where
    shape_at : (observe m).shape k i ≡ some (shape_of m at)
    shape_at = rw (q.attached, lt-ltb _ _ q.within, p.word)

    -- the refusal is what the test says of the record's shape
    pub by_test : (x : ℕ) → x ≡ test (shape_of m at) → x ≡ refusal (observe m) c
    unfolding if_record
    by_test x t = t ∙ ap (λ o. if_record o test) (sym shape_at) ∙ q.rest

    -- "13, torn": a word of the record off the heap
    pub off_13 : (y : ℕ) → y ≤ pointer_count m at + value_count m at → len g Region.heap ≤ at + y → Promise c g xs (Err Torn) xs
    off_13 y l o =
        torn_13 c g xs q.size
        (λ s. let t = field_inside g m at (rooted m k i at q.known q.within q.attached p.word g s) y l in omega arith)

    pub header_13 : len g Region.heap ≤ at → Promise c g xs (Err Torn) xs
    header_13 l = off_13 0 (omega arith) (omega arith)

    -- field f of n, where the test asks for it
    module _ (n f : ℕ) (asks : test (shape_of m at) ≡ require (ltb f n) 8 0) where
      pub has_0 : f < n → 0 ≡ refusal (observe m) c
      unfolding require
      has_0 l = by_test 0 (sym (asks ∙ rw (lt-ltb _ _ l) refl))

      -- "8, field"
      pub field_8 : n ≤ f → Promise c g xs (Err Field) xs
      unfolding require
      field_8 l = refused c g xs Field q.size (by_test 8 (sym (asks ∙ rw (le-ltb _ _ l) refl)))
