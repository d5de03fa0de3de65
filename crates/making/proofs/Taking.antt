-- The segment that a make takes its block from, by what the stacks and the mutator's entry answer.
use mathlib.Core.Path.{◌≡◌, refl, sym, ◌∙◌, ap, subst}
use mathlib.Core.Logic.{inl, inr}
use Prim.Native.Nat.{ℕ, suc, ◌-◌, ◌≤◌, ◌<◌}
use native.Mathlib.Nat.{pos_of_ne-zero}
use native.Mathlib.Omega.{arith}
use borrow.Author.Tests.{eq-eqb, ne_eqb}
use Rattle.classes.specs.Class.{IsClass}
use Rattle.layout.specs.declared.Geometry.{Geometry}
use Rattle.layout.specs.Geometry.{mutator_count}
use Rattle.layout.specs.Mem.{Mem}
use Rattle.model.specs.Fields.{holding, place}
use Rattle.model.specs.Segments.{free_stack, part_stack, count, pop}
use Rattle.model.specs.Making.{held, part, unused, source_of, set_held, freshened}
use Rattle.model.specs.Consistent.{is_free, is_part}
use Rattle.std.specs.Prelude.{Option, Some, None, Result, Ok, Err}
use Rattle.model.specs.declared.Refusal.{Refusal}
use Rattle.model.specs.declared.Refusal.TheVariants.{NoRoom, Torn}
use Rattle.stacks.specs.Stacking.{Tops}
use Rattle.stacks.proofs.Ordered.{top_ordered}
use Rattle.making.specs.Taking.{segment_in, taken_from, free_source, new_source, TakesFrom, TakesFree, TakesNew, Takes}

module _ (g : Geometry) (m : Mem) (k c : ℕ) where
  -- ---- a free one: t is its stack

  module _ (t : ℕ) (et : t ≡ free_stack) where
    on_free : (r : Result (Option ℕ) Refusal) → Tops g m t r → Tops g m free_stack r
    on_free r = subst (λ z. Tops g m z r) et

    pub free_none : Tops g m t (Ok None) → TakesFree g m k c (Err NoRoom) m
    free_none q = inl (refl, rw (eq-eqb _ _ (on_free (Ok None) q)) refl, refl)

    pub free_torn : (w : Refusal) → Tops g m t (Err w) → TakesFree g m k c (Err w) m
    free_torn w q =
        inr ((on_free (Err w) q).0, λ x. top_ordered g m free_stack (is_free m) x.summed.free_segments w (on_free (Err w) q))

    module _ (s : ℕ) (q : Tops g m t (Ok (Some s))) where
      pub free_taken : (m₁ m₂ m₃ : Mem) → m₁ ≡ pop g m t → m₂ ≡ set_held g m₁ k c s 0 → m₃ ≡ freshened g m₂ s c → TakesFree g m k c (Ok s) m₃
      free_taken m₁ m₂ m₃ e₁ e₂ e₃ =
          let p = on_free (Ok (Some s)) q in
          let some_there = p.2 in
          let is : free_source g m ≡ unused s = rw (ne_eqb (count g m free_stack) 0 (λ z. omega arith)) (ap unused (sym p.0)) in
          (p.1, ap segment_in is, e₃ ∙ rw (e₂, e₁, et) refl ∙ ap (taken_from g m k c) (sym is))

  -- ---- a part one of the class, else a free one

  module _ (t : ℕ) (et : t ≡ part_stack c) where
    on_part : (r : Result (Option ℕ) Refusal) → Tops g m t r → Tops g m (part_stack c) r
    on_part r = subst (λ z. Tops g m z r) et

    pub part_none : Tops g m t (Ok None) → (a : Result ℕ Refusal) (after : Mem) → TakesFree g m k c a after → TakesNew g m k c a after
    part_none q a after f =
        let is : free_source g m ≡ new_source g m c = rw (eq-eqb _ _ (on_part (Ok None) q)) refl in
        subst (λ z. TakesFrom z g m k c a after) is f

    pub part_torn : IsClass c → (w : Refusal) → Tops g m t (Err w) → TakesNew g m k c (Err w) m
    part_torn i w q =
        inr ((on_part (Err w) q).0, λ x. top_ordered g m (part_stack c) (is_part m c) (x.summed.part_segments c i) w (on_part (Err w) q))

    module _ (s : ℕ) (q : Tops g m t (Ok (Some s))) where
      pub part_taken : (p : ℕ) → p ≡ place m s → (m₁ m₂ : Mem) → m₁ ≡ pop g m t → m₂ ≡ set_held g m₁ k c s p → TakesNew g m k c (Ok s) m₂
      part_taken p ep m₁ m₂ e₁ e₂ =
          let v = on_part (Ok (Some s)) q in
          let some_there = v.2 in
          let is : new_source g m c ≡ part s = rw (ne_eqb (count g m (part_stack c)) 0 (λ z. omega arith)) (ap part (sym v.0)) in
          (v.1, ap segment_in is, e₂ ∙ rw (e₁, et, ep) refl ∙ ap (taken_from g m k c) (sym is))

  -- ---- the one that the mutator holds, else a new one: h is the word of its entry

  module _ (h : ℕ) (eh : h ≡ holding m k c) where
    pub held_none : h ≡ 0 → (a : Result ℕ Refusal) (after : Mem) → TakesNew g m k c a after → Takes g m k c a after
    held_none e a after f =
        let is : new_source g m c ≡ source_of g m k c = rw (eq-eqb _ _ (sym eh ∙ e)) refl in
        subst (λ z. TakesFrom z g m k c a after) is f

    module _ (f : h ≡ 0 → ⊥) where
      pub held_off : k < mutator_count → IsClass c → g.segments < h → Takes g m k c (Err Torn) m
      held_off l i o =
          inr (
            refl,
            λ x. let p = pos_of_ne-zero f in let z : h ≡ suc (h - 1) = omega arith in let b = ((x.sound.mutators k l).holds c (h - 1) i (sym eh ∙ z)).0 in omega arith,
          )

      pub held_there : h ≤ g.segments → Takes g m k c (Ok (h - 1)) m
      held_there l =
          let p = pos_of_ne-zero f in
          let is : source_of g m k c ≡ held (h - 1) = rw (ne_eqb (holding m k c) 0 (λ z. f (eh ∙ z)), eh) refl in
          (omega arith, ap segment_in is, ap (taken_from g m k c) (sym is))
