-- The sweep of a segment, and a step in sweep: in consistent memory nothing hinders it.
use mathlib.Core.Path.{◌≡◌, refl, sym, ◌∙◌, ap, ap₂, subst}
use mathlib.Core.Bool.{Bool, true, false, true≢false}
use mathlib.Core.Logic.{◌⊎◌, inl, inr}
use mathlib.Core.Option.{Option, none, some}
use Prim.Native.Nat.{ℕ, ◌-◌, ◌<◌, suc, ◌+◌, ◌≤◌}
use native.Mathlib.Omega.{arith}
use lib.Dec.{eqb}
use borrow.Author.Tests.{eqb-true}
use Rattle.basics.specs.Pick.{pick}
use Rattle.words.specs.Bits.{bit_at, ones_among}
use Rattle.classes.specs.Class.{IsClass, class_test}
use Rattle.classes.proofs.Every.{class_passed, class_passes}
use Rattle.layout.specs.declared.Geometry.{Geometry}
use Rattle.layout.specs.Geometry.{blocks_in}
use Rattle.layout.specs.Mem.{Mem, Sizes, set_control, set_segment, set_run}
use Rattle.theory.specs.Phases.{idle}
use Rattle.model.specs.PhaseNumbers.{phase_number}
use Rattle.model.specs.declared.Step.{Step}
use Rattle.model.specs.declared.Step.TheVariants.{Swept, Done, Refused}
use Rattle.model.specs.Answers.{is_swept, is_done}
use Rattle.model.specs.declared.SegmentState.{SegmentState}
use Rattle.model.specs.declared.SegmentState.TheVariants.{Condemned}
use Rattle.model.specs.Fields.{set_cursor, tag, class, place, owner}
use Rattle.model.specs.Segments.{state_of, segment, free_stack, part_stack, count, marks_in, in_use}
use Rattle.model.specs.Collector.{lowest, marked_blocks, rebuilt_by, recounted, swept, sweeps, settled_by}
use Rattle.model.specs.Consistent.{Consistent, is_free, is_part}
use Rattle.model.specs.StepParts.{StepsAs}
use Rattle.model_laws.proofs.Blocks.{blocks_most, blocks_some}
use Rattle.model_laws.proofs.Segments.{in_use-le, not_free, not_part}
use Rattle.model.proofs.InUse.{counts_in_use}
use Rattle.model_laws.proofs.Stacks.{stack_room}
use Rattle.model_laws.proofs.Swept.{swept_use}
use Rattle.model_laws.proofs.StepParts.{steps_done, steps_13}
use Rattle.bitmaps.specs.Given.{adopted_as}
use Rattle.std.specs.Prelude as rust
use Rattle.sweeping.specs.Sweeping.{lowest_of, Finds, state_after, stack_after, settled, Settles, Finishes, counted_use, recounted_as, SweepFails, no_class, no_room, too_many, Sweeps}
use Rattle.theory.specs.Calls as theory
use Rattle.model.specs.Tag as Tag

abbrev in_sweep : Geometry → Mem → theory.Answer × Mem
in_sweep g m = sweeps g (lowest m g.segments) m

-- ---- what the code writes is what the model does

module _ (g : Geometry) (m : Mem) (s : ℕ) (k : IsClass (class m s)) where
  settled_is : settled g (recounted g m s) s (class m s) (marked_blocks g m s) ≡ settled_by g m s
  unfolding settled state_after stack_after settled_by
  settled_is = go (eqb (marked_blocks g m s) 0) (eqb (marked_blocks g m s) (blocks_in g (class m s))) refl refl
    where
      go : (a b : Bool) → eqb (marked_blocks g m s) 0 ≡ a → eqb (marked_blocks g m s) (blocks_in g (class m s)) ≡ b → settled g (recounted g m s) s (class m s) (marked_blocks g m s) ≡ settled_by g m s
      go true true x y = absurd
          (let p = blocks_some g (class m s) k in let q : marked_blocks g m s ≡ 0 = eqb-true _ _ x in let r : marked_blocks g m s ≡ blocks_in g (class m s) = eqb-true _ _ y in omega arith)
      go true false x y = rw (x, y) refl
      go false true x y = rw (x, y) refl
      go false false x y = rw (x, y) refl

-- ---- c is the class, u the blocks in use by the counts and n those marked

module _ (g : Geometry) (m : Mem) (s : ℕ) (c : ℕ) (ec : c ≡ class m s) where
  pub swept_no_class : class_test c ≡ false → (m' : Mem) → Sweeps g m s (Refused 13) m'
  swept_no_class f m' = record { either = inr (refl, no_class (λ k. true≢false (sym (class_passes _ (subst IsClass (sym ec) k)) ∙ f))) }

  module _ (k : class_test c ≡ true) (u : ℕ) (eu : u ≡ counted_use m s) where
    is_class_lem : IsClass (class m s)
    is_class_lem = subst IsClass ec (class_passed c k)

    pub swept_too_many : blocks_in g c < u → (m' : Mem) → Sweeps g m s (Refused 13) m'
    swept_too_many l m' = let e = ap (blocks_in g) ec in record { either = inr (refl, too_many is_class_lem (omega arith)) }

    module _ (few : u ≤ blocks_in g c) (n : ℕ) (m₁ : Mem) (e : m₁ ≡ adopted_as g m s c) (en : n ≡ ones_among (bit_at (marks_in g m s c)) (blocks_in g c))
        (m₂ : Mem) (e₂ : m₂ ≡ recounted_as m₁ s n) where
      kept_is : n ≡ marked_blocks g m s
      kept_is = en ∙ ap (λ x. ones_among (bit_at (marks_in g m s x)) (blocks_in g x)) ec

      counted : m₂ ≡ recounted g m s
      counted = e₂ ∙ ap (λ x. recounted_as x s n) (e ∙ ap (adopted_as g m s) ec) ∙ ap (recounted_as (rebuilt_by g m s) s) kept_is

      pub swept_finished : (r : Step) (m₃ : Mem) → Finishes g m₂ s c u n r m₃ → Sweeps g m s r m₃
      unfolding swept set_run set_segment
      swept_finished r m₃ q = go finishes.either
        where
          finishes : Finishes g (recounted g m s) s (class m s) (counted_use m s) (marked_blocks g m s) r m₃
          finishes =
              subst (λ x. Finishes g (recounted g m s) s x (counted_use m s) (marked_blocks g m s) r m₃) ec
              (subst (λ x. Finishes g (recounted g m s) s c (counted_use m s) x r m₃) kept_is
              (subst (λ x. Finishes g (recounted g m s) s c x n r m₃) eu (subst (λ x. Finishes g x s c u n r m₃) counted q)))

          go : ((r ≡ Swept s (counted_use m s - marked_blocks g m s)) × (m₃ ≡ set_cursor (settled g (recounted g m s) s (class m s) (marked_blocks g m s)) (suc s)))
              ⊎ ((r ≡ Refused 13) × (g.segments ≤ count g (recounted g m s) (stack_after (class m s) (marked_blocks g m s)))) → Sweeps g m s r m₃
          go (inl (a, b)) =
              record { either = inl (a, b ∙ ap (λ w. set_cursor w (suc s)) (settled_is g m s is_class_lem), is_class_lem, let d = ap (blocks_in g) ec in omega arith) }
          go (inr (a, b)) = record { either = inr (a, no_room b) }

-- ---- a settled segment, and the cursor past it

module _ (g : Geometry) (m : Mem) (s c u n : ℕ) (r : Bool) (m₁ : Mem) (q : Settles g m s c n r m₁) where
  pub finished : r ≡ true → (m₂ : Mem) → m₂ ≡ set_control m₁ 2 (s + 1) → (f : ℕ) → f ≡ u - n → Finishes g m s c u n (Swept s f) m₂
  finished y m₂ e f ef = record { either = inl (ap (Swept s) ef, e ∙ ap₂ (λ x y. set_control x 2 y) (q.done y) (let w : s + 1 ≡ suc s = omega arith in w)) }

  pub no_room_lem : r ≡ false → Finishes g m s c u n (Refused 13) m₁
  no_room_lem y = record { either = inr (refl, q.full y) }

-- ---- nothing hinders a sweep in consistent memory

module _ (g : Geometry) (m : Mem) (c : Consistent g m) (s : ℕ) (l : s < g.segments) (t : tag m s ≡ Tag.condemned) where
  is_classed : IsClass (class m s)
  is_classed = (c.sound.segments s l).classes (λ z. omega arith)

  room : count g m (stack_after (class m s) (marked_blocks g m s)) < g.segments
  unfolding stack_after
  room = go (eqb (marked_blocks g m s) 0)
    where
      go : (b : Bool) → count g m (pick b free_stack (part_stack (class m s))) < g.segments
      go true = stack_room g m free_stack (is_free m) c.summed.free_segments s l (not_free m s (λ e. omega arith))
      go false = stack_room g m (part_stack (class m s)) (is_part m (class m s)) (c.summed.part_segments (class m s) is_classed) s l (not_part m (class m s) s (λ e f. omega arith))

  -- the counts are the blocks in use
  pub counted_use_lem : in_use g m s ≡ counted_use m s
  counted_use_lem = counts_in_use g m s (c.summed.counts s l) (λ f. is_classed)

  sweep_succeeds : SweepFails g m s → ⊥
  sweep_succeeds (no_class f) = f is_classed
  sweep_succeeds (no_room f) = let h = room in omega arith
  sweep_succeeds (too_many k f) = let e = counted_use_lem in let h = in_use-le g m s in omega arith

-- ---- the step

module _ (g : Geometry) (m : Mem) where
  some_is : (s : ℕ) → rust.Some s ≡ lowest_of (lowest m g.segments) → lowest m g.segments ≡ some s
  some_is s e = go (lowest m g.segments) e
    where
      go : (o : Option ℕ) → rust.Some s ≡ lowest_of o → o ≡ some s
      go none e = cc
      go (some x) e = cc

  none_is : rust.None ≡ lowest_of (lowest m g.segments) → lowest m g.segments ≡ none
  none_is e = go (lowest m g.segments) e
    where
      go : (o : Option ℕ) → rust.None ≡ lowest_of o → o ≡ none
      go none e = refl
      go (some x) e = cc

  pub sweep_done : Finds g m rust.None → (m' : Mem) → m' ≡ set_control m 0 (phase_number idle) → StepsAs in_sweep g m Done m'
  sweep_done f m' u = steps_done in_sweep g m refl is_done (λ c. rw (none_is (f.exact c.sound.behind)) (refl, u))

  module _ (s : ℕ) (f : Finds g m (rust.Some s)) where
    pub lowest_condemned : (s < g.segments) × (tag m s ≡ Tag.condemned)
    lowest_condemned = f.found s refl

    pub sweep_sweeps : Sizes g m → (r : Step) (m' : Mem) → Sweeps g m s r m' → StepsAs in_sweep g m r m'
    sweep_sweeps z r m' x = go x.either
      where
        -- what became free, by the counts and by the blocks in use before and after
        freed : Consistent g m → IsClass (class m s) → counted_use m s - marked_blocks g m s ≡ in_use g m s - in_use g (swept g m s) s
        freed c k =
            let h = lowest_condemned in
            ap (λ w. w - marked_blocks g m s) (sym (counted_use_lem g m c s h.0 h.1)) ∙ ap (λ w. in_use g m s - w) (sym (swept_use g m z s h.0 k))

        go : ((r ≡ Swept s (counted_use m s - marked_blocks g m s)) × (m' ≡ swept g m s) × IsClass (class m s) × (counted_use m s ≤ blocks_in g (class m s))) ⊎ ((r ≡ Refused 13) × SweepFails g m s)
            → StepsAs in_sweep g m r m'
        go (inl (u, y, k, b)) =
            let a = blocks_most g (class m s) k in
            subst (λ w. StepsAs in_sweep g m w m') (sym u)
            (steps_done in_sweep g m refl (is_swept s _ lowest_condemned.0 (omega arith)) (λ c. rw (some_is s (f.exact c.sound.behind)) (ap (theory.a_swept s) (freed c k), y)))
        go (inr (u, y)) =
            let h = lowest_condemned in
            subst (λ w. StepsAs in_sweep g m w m') (sym u) (steps_13 in_sweep g m (λ c. sweep_succeeds g m c s h.0 h.1 y))

-- ---- the state of a condemned segment, as it is read

pub condemned_read : (m : Mem) (s : ℕ) (x : SegmentState) → x ≡ segment m s → tag m s ≡ Tag.condemned → x ≡ Condemned (class m s) (place m s)
condemned_read m s x e t = e ∙ ap (λ z. state_of z (class m s) (place m s) (owner m s)) t
