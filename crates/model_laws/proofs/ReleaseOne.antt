-- One held segment of a mutator goes to part; its class's stack has room for it.
use mathlib.Core.Path.{◌≡◌, refl, sym, ◌∙◌, ap, subst}
use mathlib.Core.Logic.{◌⊎◌, inl, inr}
use mathlib.Core.List.{List}
use Prim.Native.Nat.{ℕ, suc, ◌+◌, ◌-◌, ◌*◌, ◌<◌}
use native.Mathlib.Omega.{arith}
use lib.ListN.{get_or}
use borrow.Author.Tests.{ne_eqb}
use Rattle.basics.specs.Pick.{pick}
use Rattle.basics.proofs.Order.{same_or_not}
use Rattle.classes.specs.Class.{first_class, class_count, IsClass}
use Rattle.layout.specs.declared.Geometry.{Geometry}
use Rattle.layout.specs.Geometry.{mutator_count}
use Rattle.layout.specs.Mem.{Mem, set_segment, set_stack, Sizes}
use Rattle.model.specs.declared.SegmentState.TheVariants.{Part}
use Rattle.model.specs.Fields.{holding, tag, class, place, owner}
use Rattle.model.specs.Segments.{set_segment_state, part_stack, count, stacked}
use Rattle.model.specs.Mutators.{released_one}
use Rattle.model.specs.Consistent.{is_part}
use Rattle.model_laws.proofs.Words.{Recorded, CountsStay, Untouched, untouched_same, untouched_then, untouched_as, counted_then, recorded_by, recorded_as}
use Rattle.model_laws.proofs.Words.{state_there, state_other, state_counts}
use Rattle.model_laws.proofs.Stacks.{stack_room}
use Rattle.model_laws.proofs.Segments.{not_part}
use Rattle.model_laws.proofs.Parted.{Stacks, parted}
use Rattle.model_laws.proofs.Lengths.{sizes_stack, sizes_state}
use Rattle.model_laws.proofs.Releasing.{Releasable, with_records, Gone, Releasing, gone_less, gone_other}
use Rattle.model.specs.Tag as Tag

module _ (g : Geometry) (m : Mem) (s : Sizes g m) (c : Releasable g m) (k : ℕ) (few : k < mutator_count) (n : ℕ)
    (ln : n < class_count) (m' : Mem) (h : Releasing g m m' k n) (r : ℕ) (e : holding m k (first_class + n) ≡ suc r) where
  abbrev d : ℕ
  d = first_class + n

  is_class_lem : IsClass d
  is_class_lem = (omega arith, omega arith)

  pub held_before : (r < g.segments) × (tag m r ≡ Tag.held) × (class m r ≡ d) × (owner m r ≡ k)
  held_before = (c.mutators k few).holds d r is_class_lem e

  still : Untouched m m' r
  still = h.stay r (λ z. let l : class m r < first_class + n = z.2 in let y = held_before.2 in omega arith)

  abbrev m₁ : Mem
  m₁ = set_segment_state g m' r (Part d (place m' r))

  abbrev m₂ : Mem
  m₂ = stacked g m₁ (part_stack d) r

  sizes₁ : Sizes g m₁
  sizes₁ = sizes_state g m' h.sizes r (Part d (place m' r))

  sizes₂ : Sizes g m₂
  sizes₂ = sizes_stack g _ (sizes_stack g m₁ sizes₁ _ _) _ _

  segments_as : m₂.segments ≡ m₁.segments
  unfolding set_stack
  segments_as = refl

  stacks_as : m₁.stacks ≡ m'.stacks
  unfolding set_segment_state set_segment
  stacks_as = refl

  frame_one : m₂ ≡ with_records m' m₂.segments m₂.stacks
  unfolding set_segment_state set_segment set_stack
  frame_one = refl

  frame₂ : m₂ ≡ with_records m m₂.segments m₂.stacks
  frame₂ = frame_one ∙ ap (λ z. with_records z m₂.segments m₂.stacks) h.frame

  -- ---- the records

  there : Recorded m₂ r Tag.part d (place m' r) 0
  there = let z = h.sizes.segments in let l = held_before.0 in recorded_as m₁ m₂ r Tag.part d (place m' r) 0 segments_as (state_there g m' r (Part d (place m' r)) (omega arith))

  other : (q : ℕ) → (q ≡ r → ⊥) → Untouched m' m₂ q
  other q f = untouched_as segments_as (state_other g m' r (Part d (place m' r)) q f)

  gone₂ : (q : ℕ) → Gone m k (suc n) q → Recorded m₂ q Tag.part (class m q) (place m q) 0
  gone₂ q z = go (same_or_not q r)
    where
      go : (q ≡ r) ⊎ (q ≡ r → ⊥) → Recorded m₂ q Tag.part (class m q) (place m q) 0
      go (inl x) =
          subst (λ w. Recorded m₂ w Tag.part (class m w) (place m w) 0) (sym x)
          (record { tag = there.tag; class = there.class ∙ sym held_before.2; place = there.place ∙ still.place; owner = there.owner })
      go (inr f) = recorded_by m' m₂ q _ _ _ _ (h.gone q (gone_other g m s c k n q z (λ y. f (let w : suc q ≡ suc r = sym y ∙ e in omega arith)))) (other q f)

  stay₂ : (q : ℕ) → (Gone m k (suc n) q → ⊥) → Untouched m m₂ q
  stay₂ q f =
      let apart : q ≡ r → ⊥ = λ x. f (subst (Gone m k (suc n)) (sym x) (held_before.1, held_before.3, let y = held_before.2 in omega arith)) in
      untouched_then (h.stay q (λ z. f (gone_less g m s c k n q z))) (other q apart)

  counts₂ : (q : ℕ) → CountsStay m m₂ q
  counts₂ q = counted_then (counted_then (h.counts q) (state_counts g m' r (Part d (place m' r)) q)) (untouched_same m₁ m₂ q segments_as).counts

  -- ---- the stacks

  pub room_for : count g m₁ (part_stack d) < g.segments
  room_for =
      subst (λ (x : List ℕ). get_or x (part_stack d * (1 + g.segments)) 0 < g.segments) (sym stacks_as)
      (stack_room g m' (part_stack d) (is_part m' d) (h.stacks.1 d is_class_lem) r held_before.0 (not_part m' d r (λ q _. let y = still.tag ∙ held_before.1 in omega arith)))

  stacks₂ : Stacks g m₂
  stacks₂ = parted g m' m₁ sizes₁ stacks_as d r is_class_lem held_before.0 (let y = still.tag ∙ held_before.1 in omega arith) other there.tag there.class h.stacks

  releasing_more : Releasing g m m₂ k (suc n)
  releasing_more = record {
    sizes = sizes₂;
    frame = frame₂;
    gone = gone₂;
    stay = stay₂;
    counts = counts₂;
    stacks = stacks₂;
  }

  -- as the call writes it
  is_one_lem : released_one g m' k d ≡ m₂
  is_one_lem =
      let z : holding m' k d ≡ suc r = ap (λ w. holding w k d) h.frame ∙ e in
      let y : holding m' k d - 1 ≡ r = omega arith in
      ap
      (λ b. pick b m' (stacked g (set_segment_state g m' (holding m' k d - 1) (Part d (place m' (holding m' k d - 1)))) (part_stack d) (holding m' k d - 1)))
      (ne_eqb (holding m' k d) 0 (λ q. omega arith))
      ∙ ap (λ w. stacked g (set_segment_state g m' w (Part d (place m' w))) (part_stack d) w) y

  pub releasing_one : Releasing g m (released_one g m' k d) k (suc n)
  releasing_one = subst (λ z. Releasing g m z k (suc n)) (sym is_one_lem) releasing_more
