-- A make finds no room exactly where its mutator holds no segment of the class, none of it is part and none is free.
use mathlib.Core.Path.{◌≡◌, refl, sym, ◌∙◌, ap}
use mathlib.Core.Bool.{Bool, true, false}
use Prim.Native.Nat.{ℕ, zero, suc, ◌-◌, ◌<◌}
use native.Mathlib.Omega.{arith}
use lib.Dec.{eqb}
use borrow.Author.Tests.{eq-eqb, eqb-true}
use Rattle.basics.specs.Pick.{pick}
use Rattle.layout.specs.declared.Geometry.{Geometry}
use Rattle.layout.specs.Geometry.{mutator_count}
use Rattle.layout.specs.Mem.{Mem, Sizes}
use Rattle.model.specs.Fields.{holding, tag, class, owner}
use Rattle.model.specs.Segments.{free_stack, part_stack, count, entry, top}
use Rattle.model.specs.Making.{Source, held, part, unused, no_room, source_of, NoRoom}
use Rattle.classes.specs.Class.{IsClass}
use Rattle.model.specs.Consistent.{is_part}
use Rattle.refine_view.specs.Refines.{Ordered}
use Rattle.model_laws.proofs.Bools.{and_left, and_right, and_both}
use Rattle.model.specs.Tag as Tag

module _ (g : Geometry) (m : Mem) (s : Sizes g m) (c : Ordered g m) (k cl : ℕ) (few : k < mutator_count) (ic : IsClass cl) where
  -- ---- from the segments to the words

  module _ (o : NoRoom g m k cl) where
    holds_none : holding m k cl ≡ 0
    holds_none = go (holding m k cl) refl
      where
        go : (n : ℕ) → holding m k cl ≡ n → n ≡ 0
        go zero e = refl
        go (suc q) e = let z = (c.mutators k few).holds cl q ic e in absurd (o.no_held q z.0 z.1 z.2 z.3)

    parts_none : count g m (part_stack cl) ≡ 0
    parts_none = go (count g m (part_stack cl)) refl
      where
        go : (n : ℕ) → count g m (part_stack cl) ≡ n → n ≡ 0
        go zero e = refl
        go (suc n) e = let z = (c.summed.part_segments cl ic).members 0 (omega arith) in absurd (never (entry g m (part_stack cl) 0) z.0 z.1)
          where
            never : (q : ℕ) → q < g.segments → is_part m cl q ≡ true → ⊥
            never q l h = o.no_part q l (eqb-true _ _ (and_left (eqb (tag m q) Tag.part) (eqb (class m q) cl) h)) (eqb-true _ _ (and_right (eqb (tag m q) Tag.part) (eqb (class m q) cl) h))

    frees_none : count g m free_stack ≡ 0
    frees_none = go (count g m free_stack) refl
      where
        go : (n : ℕ) → count g m free_stack ≡ n → n ≡ 0
        go zero e = refl
        go (suc n) e = let z = c.summed.free_segments.members 0 (omega arith) in absurd (o.no_free (entry g m free_stack 0) z.0 (eqb-true _ _ z.1))

    pub room_source : source_of g m k cl ≡ no_room
    room_source = rw (eq-eqb (holding m k cl) 0 holds_none, eq-eqb (count g m (part_stack cl)) 0 parts_none, eq-eqb (count g m free_stack) 0 frees_none) refl

  -- ---- from the words to the segments

  module _ (e : source_of g m k cl ≡ no_room) where
    -- whether a source is `no_room`
    is_none : Source → ℕ
    is_none (held _) = 0
    is_none (part _) = 0
    is_none (unused _) = 0
    is_none no_room = 1

    words_none : (holding m k cl ≡ 0) × (count g m (part_stack cl) ≡ 0) × (count g m free_stack ≡ 0)
    unfolding is_none
    words_none = first (eqb (holding m k cl) 0) refl e
      where
        never : (x : Source) → x ≡ no_room → is_none x ≡ 1
        never x q = ap is_none q

        third : (b : Bool) → eqb (count g m free_stack) 0 ≡ b → pick b no_room (unused (top g m free_stack)) ≡ no_room → count g m free_stack ≡ 0
        third true h q = eqb-true _ _ h
        third false h q = let z : is_none (unused (top g m free_stack)) ≡ 1 = never _ q in absurd (omega arith)

        second : (b : Bool) → eqb (count g m (part_stack cl)) 0 ≡ b
            → pick b (pick (eqb (count g m free_stack) 0) no_room (unused (top g m free_stack))) (part (top g m (part_stack cl))) ≡ no_room
            → (count g m (part_stack cl) ≡ 0) × (count g m free_stack ≡ 0)
        second true h q = (eqb-true _ _ h, third (eqb (count g m free_stack) 0) refl q)
        second false h q = let z : is_none (part (top g m (part_stack cl))) ≡ 1 = never _ q in absurd (omega arith)

        first : (b : Bool) → eqb (holding m k cl) 0 ≡ b
            → pick b
            (pick (eqb (count g m (part_stack cl)) 0) (pick (eqb (count g m free_stack) 0) no_room (unused (top g m free_stack))) (part (top g m (part_stack cl))))
            (held (holding m k cl - 1)) ≡ no_room
            → (holding m k cl ≡ 0) × (count g m (part_stack cl) ≡ 0) × (count g m free_stack ≡ 0)
        first true h q = let z = second (eqb (count g m (part_stack cl)) 0) refl q in (eqb-true _ _ h, z.0, z.1)
        first false h q = let z : is_none (held (holding m k cl - 1)) ≡ 1 = never _ q in absurd (omega arith)

    pub source_room : NoRoom g m k cl
    source_room = record {
      no_held = λ q l t d w. let z : holding m k cl ≡ suc q = ap (λ x. holding m x cl) (sym w) ∙ ap (holding m (owner m q)) (sym d) ∙ ((c.segments q l).held t).2 in let y = words_none.0 in omega arith;
      no_part = λ q l t d.
          let z = (c.summed.part_segments cl ic).all q l (and_both _ _ (eq-eqb (tag m q) 1 t) (eq-eqb (class m q) cl d)) in
          let y = words_none.1 in let x : z.0 < count g m (part_stack cl) = z.1 in omega arith;
      no_free = λ q l t. let z = c.summed.free_segments.all q l (eq-eqb (tag m q) 0 t) in let y = words_none.2 in let x : z.0 < count g m free_stack = z.1 in omega arith;
    }
