-- The last entered record in consistent memory, taken off the trace stack and marked: it is in order, so are the records that its pointers
-- name, and the memory is ready for their pushes.
use mathlib.Core.Path.{◌≡◌, refl, sym, subst}
use mathlib.Core.Logic.{inr}
use Prim.Native.Nat.{ℕ, suc, ◌+◌, ◌-◌, ◌*◌, ◌≤◌, ◌<◌}
use native.Mathlib.Omega.{arith}
use lib.ListN.{length-set}
use lib.Seq.{get_or-set_same}
use Rattle.words.proofs.Ones.{among_words_le}
use Rattle.layout.specs.declared.Geometry.{Geometry}
use Rattle.layout.specs.Geometry.{most_blocks, len}
use Rattle.layout.specs.Mem.{Mem, Sizes, trace_word, set_control}
use Rattle.theory.specs.Reach.{root, next}
use Rattle.model.specs.Fields.{trace_count}
use Rattle.model.specs.Records.{pointer_count, pointer}
use Rattle.model.specs.Reaching.{IsEntry, Live}
use Rattle.model.specs.Tracing.{popped}
use Rattle.model.specs.Consistent.{RecordOk, Consistent}
use Rattle.model_laws.proofs.Apart.{field_inside}
use Rattle.model_laws.proofs.Pushes.{PushReady, record_same}
use Rattle.layout.specs.Region as Region

-- no more entries than the trace stack has room for
pub entries_few : (g : Geometry) (m : Mem) → Consistent g m → trace_count m ≤ len g Region.trace
entries_few g m c = let e = c.sound.trace.number in let l = among_words_le m.marks (g.segments * most_blocks g) in omega arith

-- the last entry names the record at a word
module _ (g : Geometry) (m : Mem) (c : Consistent g m) (n at : ℕ) (is : trace_count m ≡ suc n) (names : trace_word m n ≡ suc at) where
  entry : IsEntry m at
  entry = record { index = n; within = omega arith; names = names }

  live : Live m at
  live = root (inr entry)

  pub last_ok : RecordOk g m at
  last_ok = c.sound.records at live

  -- its fields lie in the heap
  pub last_inside : at + pointer_count m at < len g Region.heap
  last_inside = field_inside g m at last_ok (pointer_count m at) (omega arith)

  pub pointed_ok : (i x : ℕ) → i < pointer_count m at → pointer m at i ≡ suc x → RecordOk g (popped g m at) x
  unfolding set_control
  pointed_ok i x l e = record_same g m (popped g m at) refl refl refl x (c.sound.records x (next live (record { field = i; within = l; names = e })))

  pub ready_popped : Sizes g m → PushReady g (popped g m at)
  unfolding set_control
  ready_popped s =
      let lc = s.control in
      let k = c.sound.trace.number in
      let e = get_or-set_same m.control 1 (trace_count m - 1) 0 (omega arith) in
      record {
        control = subst (λ y. 1 < y) (sym (length-set m.control 1 (trace_count m - 1))) (omega arith);
        marks = s.marks;
        number = omega arith;
      }
