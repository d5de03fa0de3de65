-- The record last put into each block, on the memory's side and on the abstract machine's.
use mathlib.Core.Path.{◌≡◌, refl, sym, ◌∙◌, ap}
use mathlib.Core.Option.{Option, none, some}
use mathlib.Core.List.{List}
use Prim.Native.Nat.{ℕ, suc}
use native.Mathlib.Omega.{arith}
use Rattle.std.specs.Prelude.{Result}
use Rattle.layout.specs.declared.Geometry.{Geometry}
use Rattle.layout.specs.Geometry.{segment_of}
use Rattle.layout.specs.Mem.{mem_of}
use Rattle.theory.specs.Update.{upd}
use Rattle.theory.specs.Calls.{Call, c_attach, c_detach, c_check, c_leave, c_enter, c_spawn, c_make, c_load, c_store, c_copy, c_clear, c_put, c_get, c_same, c_shape, refusal}
use Rattle.theory.specs.Machine.{State}
use Rattle.theory.specs.MachineCalls.{observe, act}
use Rattle.theory.specs.Unbounded.{puts}
use Rattle.theory.proofs.Agree.{Agree}
use Rattle.theory.proofs.Updates.{upd2_same}
use Rattle.theory.proofs.Refusals.{by_ok, root_ok}
use Rattle.model.specs.declared.Answer.{Answer}
use Rattle.model.specs.declared.Refusal.{Refusal}
use Rattle.model.specs.Answers.{answer_of, refusal_in, refusal_of}
use Rattle.model.specs.Fields.{root}
use Rattle.model.specs.Lists.{put_unless, block_in}
use Rattle.refine_view.specs.View.{view}
use Rattle.model_laws.proofs.Rooted.{named}

module _ (g : Geometry) (after : List ℕ) (n : ℕ) (put : ℕ → Option ℕ) (r : Result Answer Refusal) (b : ℕ) (st : State) where
  -- a call that puts no record
  plain : (o : Option ℕ) → put ≡ put_unless o put put
  plain none = refl
  plain (some y) = refl

  -- the root then names the block handed out
  handed : (k d p q : ℕ) → refusal (observe st) (c_make k d p q) ≡ 0 → Agree (segment_of g) (act b st (c_make k d p q)).1 (view g (mem_of g after)) → b ≡ block_in g after k d
  handed k d p q e a =
      let i = by_ok (observe st) k _ e in
      let j = root_ok d _ i.3 in
      let w : root (mem_of g after) k d ≡ suc b = named _ _ (a.root k d i.1 j.0 ∙ upd2_same st.root k d (some b)) in
      omega arith

  pub put_same : (c : Call) → refusal (observe st) c ≡ 0 → answer_of r ≡ (act b st c).0
      → Agree (segment_of g) (act b st c).1 (view g (mem_of g after))
      → puts c (λ _ _. b) n put ≡ put_unless (refusal_of r) put (puts c (block_in g after) n put)
  put_same (c_attach k) x e a = plain (refusal_of r)
  put_same (c_spawn k p i) x e a = plain (refusal_of r)
  put_same (c_detach k) x e a = plain (refusal_of r)
  put_same (c_check k) x e a = plain (refusal_of r)
  put_same (c_leave k) x e a = plain (refusal_of r)
  put_same (c_enter k) x e a = plain (refusal_of r)
  put_same (c_make k d p q) x e a = ap (λ y. upd put y (some n)) (handed k d p q x a) ∙ sym (ap (λ o. put_unless o put (puts (c_make k d p q) (block_in g after) n put)) (ap refusal_in e))
  put_same (c_load k d i f) x e a = plain (refusal_of r)
  put_same (c_store k i f j) x e a = plain (refusal_of r)
  put_same (c_copy k d i) x e a = plain (refusal_of r)
  put_same (c_clear k d) x e a = plain (refusal_of r)
  put_same (c_put k i f v) x e a = plain (refusal_of r)
  put_same (c_get k i f) x e a = plain (refusal_of r)
  put_same (c_same k i j) x e a = plain (refusal_of r)
  put_same (c_shape k i) x e a = plain (refusal_of r)
