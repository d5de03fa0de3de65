-- store: its barrier's duty, its refusals, and that nothing hinders it in consistent memory.
use mathlib.Core.Path.{◌≡◌, refl, sym, ◌∙◌, ap, subst}
use mathlib.Core.Bool.{Bool, true, false}
use mathlib.Core.Logic.{◌⊎◌, inl, inr}
use mathlib.Core.List.{List}
use Prim.Native.Nat.{ℕ, suc, ◌+◌, ◌*◌, ◌<◌}
use native.Mathlib.Omega.{arith}
use lib.ListN.{length}
use Rattle.layout.specs.declared.Geometry.{Geometry}
use Rattle.layout.specs.Geometry.{control_words, mark_words, wrong_size, root_count}
use Rattle.layout.specs.Mem.{Mem, mem_of, control_word, heap_word, set_heap}
use Rattle.layout.proofs.Regions.{sized, length-region}
use Rattle.theory.specs.Phases.{duty}
use Rattle.theory.specs.Reach.{next}
use Rattle.theory.specs.Calls.{c_store, a_ok, if_root, pointer?}
use Rattle.model.specs.declared.Answer.{Answer}
use Rattle.std.specs.Prelude.{Result, Ok, Err}
use Rattle.model.specs.declared.Answer.TheVariants.{Done}
use Rattle.model.specs.declared.Refusal.{Refusal}
use Rattle.model.specs.declared.Refusal.TheVariants.{Torn}
use Rattle.model.specs.Refusals.{number_of}
use Rattle.model.specs.declared.Duty.{Duty}
use Rattle.model.specs.PhaseNumbers.{phase_of, duty_of}
use Rattle.model.specs.Fields.{phase, acks}
use Rattle.model.specs.Records.{record?, pointer_count, pointer}
use Rattle.model.specs.Tracing.{barrier}
use Rattle.model.specs.Calls.{act}
use Rattle.model.specs.Consistent.{RecordOk, Consistent}
use Rattle.model.specs.Promise.{Promise}
use Rattle.model_laws.proofs.Promised.{done, torn_13}
use Rattle.model_laws.proofs.Rooted.{rooted, live_root}
use Rattle.model_laws.proofs.Reaching.{Names, Reaches}
use Rattle.mutators.specs.Inside.{inside_then}
use Rattle.mutators.proofs.Inside.{refused_with, reaches_with}
use Rattle.records.specs.FieldWords.{pointer_at}
use Rattle.records.proofs.Found.{FieldFound, pointer_found}
use Rattle.records.proofs.Reaching.{pointer_0}
use Rattle.tracing.specs.Pushing.{BarrierRuns, rule_of}
use Rattle.tracing.proofs.Succeeds.{push_succeeds, push_succeeds_next}
use Rattle.storing.specs.Stored.{stored, Hinders, Stores}
use Rattle.theory.specs.Phases as phases
use Rattle.model.specs.Fields as fields
use Rattle.layout.specs.Region as Region

-- ---- to a word

rule_of_lem : (d : phases.Duty) → rule_of (duty_of d) ≡ d
rule_of_lem phases.nothing = refl
rule_of_lem phases.both = refl
rule_of_lem phases.old = refl

module _ (g : Geometry) (m : Mem) (k p new : ℕ) (n a o : ℕ) (d : Duty) (r : Bool) (m₁ : Mem) (en : n ≡ control_word m 0) (ea : a ≡ acks m k)
    (ed : d ≡ duty_of (duty (phase_of n) a)) (eo : o ≡ heap_word m p) (b : BarrierRuns g m d new o r m₁) where
  is_duty : rule_of d ≡ duty (phase m) (acks m k)
  is_duty = ap rule_of ed ∙ rule_of_lem (duty (phase_of n) a) ∙ ap (λ x. duty (phase_of x) a) en ∙ ap (duty (phase m)) ea

  pub stores_ok : (m₂ : Mem) → r ≡ true → m₂ ≡ set_heap m₁ p new → Stores g m k p new (Ok Done) m₂
  stores_ok m₂ t e = record {
    either = inl (
      refl,
      e ∙ ap (λ z. set_heap z p new) (b.done t
          ∙ ap (λ z. barrier g z m (record? new) (record? o)) is_duty
          ∙ ap (λ z. barrier g (duty (phase m) (acks m k)) m (record? new) (record? z)) eo),
    );
  }

  pub stores_13 : r ≡ false → Stores g m k p new (Err Torn) m₁
  stores_13 t = record { either = inr (refl, subst (Hinders g m new) eo (b.fails t)) }

-- ---- n is the refusal of the mutator and its roots: it refuses the call, or the call reaches the record

module _ (g : Geometry) (xs : List ℕ) (k i f j n : ℕ) (e : wrong_size g (length xs) ≡ false) (s : n ≡ inside_then (mem_of g xs) k (if_root i (if_root j 0))) where
  pub store_refused : (w : Refusal) → number_of w ≡ n → Promise (c_store k i f j) g xs (Err w) xs
  unfolding inside_then
  store_refused = refused_with g xs k i j n s (c_store k i f j) e i (pointer? f) refl

  pub store_reaches : n ≡ 0 → Reaches (c_store k i f j) g xs k i (pointer? f)
  unfolding inside_then
  store_reaches z = reaches_with g xs k i j n s (c_store k i f j) e i (pointer? f) refl z (inl refl)

-- ---- done, or hindered

module _ (g : Geometry) (xs : List ℕ) (k i f j at : ℕ) (q : Reaches (c_store k i f j) g xs k i (pointer? f)) (w : Names g xs k i at) (l : j < root_count) where
  abbrev m : Mem
  m = mem_of g xs

  acts : act g m (c_store k i f j) ≡ (a_ok, stored g m k (at + 1 + f) (fields.root m k j))
  unfolding act
  acts = rw w.word refl

  module _ (c : Consistent g m) (h : f < pointer_count m at) where
    new_ok : (x : ℕ) → fields.root m k j ≡ suc x → RecordOk g m x
    new_ok x e = rooted m k j x q.known l q.attached e g c

    old_ok : (x : ℕ) → pointer m at f ≡ suc x → RecordOk g m x
    old_ok x e = c.sound.records x (next (live_root m k i at q.known q.within q.attached w.word) (record { field = f; within = h; names = e }))

    free : Hinders g m (fields.root m k j) (pointer m at f) → ⊥
    free (inl x) = push_succeeds g m c (fields.root m k j) new_ok x
    free (inr (inl x)) = push_succeeds g m c (pointer m at f) old_ok x
    free (inr (inr x)) =
        let z = sized g (length xs) q.size in
        let lc : length m.control ≡ control_words = length-region g xs Region.control z.is (omega arith) in
        let lq : length m.marks ≡ g.segments * mark_words g = length-region g xs Region.marks z.is (omega arith) in
        push_succeeds_next g m c (omega arith) lq (fields.root m k j) (pointer m at f) new_ok old_ok x

  pub store_by : (p v : ℕ) (r : Result Answer Refusal) (ys : List ℕ) → Ok p ≡ pointer_at g m at f → v ≡ fields.root m k j → Stores g m k p v r (mem_of g ys) → Promise (c_store k i f j) g xs r ys
  store_by p v r ys a e s =
      let t = pointer_found g m at f p a in
      go t (subst (λ y. ((r ≡ Ok Done) × (mem_of g ys ≡ stored g m k y (fields.root m k j))) ⊎ ((r ≡ Err Torn) × Hinders g m (fields.root m k j) (heap_word m y))) t.is
      (subst (λ y. ((r ≡ Ok Done) × (mem_of g ys ≡ stored g m k p y)) ⊎ ((r ≡ Err Torn) × Hinders g m y (heap_word m p))) e s.either))
    where
      go : FieldFound g at (pointer_count m at) f (at + 1 + f) p
          → ((r ≡ Ok Done) × (mem_of g ys ≡ stored g m k (at + 1 + f) (fields.root m k j))) ⊎ ((r ≡ Err Torn) × Hinders g m (fields.root m k j) (heap_word m (at + 1 + f)))
          → Promise (c_store k i f j) g xs r ys
      go t (inl (u, y)) =
          subst (λ r. Promise (c_store k i f j) g xs r ys) (sym u)
          (done (c_store k i f j) g xs q.size (pointer_0 (c_store k i f j) g xs k i f at w q p a) refl refl (sym (ap (λ z. z.0) acts)) (y ∙ sym (ap (λ z. z.1) acts)))
      go t (inr (u, y)) =
          subst (λ r. Promise (c_store k i f j) g xs r ys) (sym u) (torn_13 (c_store k i f j) g xs q.size (λ c. free c t.has y))
