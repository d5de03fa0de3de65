-- A part segment taken by a mutator that holds none of its class.
use mathlib.Core.Path.{◌≡◌, refl, sym, ◌∙◌, subst}
use mathlib.Core.Logic.{◌⊎◌, inl, inr}
use mathlib.Core.Bool.{true}
use Prim.Native.Nat.{ℕ, suc, ◌+◌, ◌-◌, ◌*◌, ◌≤◌, ◌<◌}
use native.Mathlib.Omega.{arith}
use Rattle.basics.proofs.Order.{same_or_not}
use Rattle.layout.specs.declared.Geometry.{Geometry}
use Rattle.layout.specs.Geometry.{mutator_count}
use Rattle.layout.specs.Mem.{Mem, set_stack, set_segment, set_mutator, Sizes}
use Rattle.model.specs.Fields.{holding, tag, class, place}
use Rattle.model.specs.Segments.{set_segment_state, free_stack, part_stack, count, top, pop}
use Rattle.model.specs.Making.{set_held}
use Rattle.model.specs.Calls.{is_attached}
use Rattle.classes.specs.Class.{IsClass}
use Rattle.model.specs.Consistent.{StackOk, is_free, is_part}
use Rattle.refine_view.specs.Refines.{Ordered}
use Rattle.model_laws.proofs.Words.{Recorded, CountsStay, Untouched}
use Rattle.model_laws.proofs.Segments.{counts_same, not_part, part_other, free_left, part_left}
use Rattle.model_laws.proofs.Topmost.{top_part, part_tag, part_class, part_tree, part_remains}
use Rattle.model_laws.proofs.Stacks.{stack_same, pop_ok}
use Rattle.model_laws.proofs.OtherStacks.{part_few, part_apart, stack_apart}
use Rattle.refine_take_detach.proofs.Standing.{over}
use Rattle.model_laws.proofs.SetHeld.{popped, after, set_held-sizes, set_held-there, set_held-other, set_held-counts, set_held-holds, set_held-entries}
use Rattle.refine_take_detach.proofs.SegmentTaken.{SegmentTaken}
use Rattle.refine_take_detach.proofs.Taking.{Took, taken_by}
use Rattle.model.specs.Tag as Tag

module _ (g : Geometry) (m : Mem) (s : Sizes g m) (c : Ordered g m) (k cl : ℕ) (few : k < mutator_count)
    (here : is_attached m k ≡ true) (ic : IsClass cl) (none : holding m k cl ≡ 0) (some : 1 ≤ count g m (part_stack cl)) where
  abbrev r : ℕ
  r = top g m (part_stack cl)

  abbrev stack : StackOk g m (part_stack cl) (is_part m cl)
  stack = c.summed.part_segments cl ic

  below : r < g.segments
  below = (top_part g m cl stack some).0

  top_tag : tag m r ≡ Tag.part
  top_tag = part_tag g m cl stack some

  top_class : class m r ≡ cl
  top_class = part_class g m cl stack some

  abbrev n : ℕ
  n = part_stack cl * (1 + g.segments)

  abbrev v : ℕ
  v = count g m (part_stack cl) - 1

  abbrev taken : Mem
  taken = after g m s n v k cl r (place m r)

  abbrev m₁ : Mem
  m₁ = over m taken.mutators taken.segments (popped g m s n v k cl r (place m r)).stacks m.bitmaps

  same : taken ≡ m₁
  unfolding set_stack set_segment_state set_segment set_mutator
  same = refl

  there : Recorded m₁ r 2 cl (place m r) k
  there = subst (λ z. Recorded z r 2 cl (place m r) k) same (set_held-there g m s n v k cl r (place m r) below)

  other : (q : ℕ) → (q ≡ r → ⊥) → Untouched m m₁ q
  other q f = subst (λ z. Untouched m z q) same (set_held-other g m s n v k cl r (place m r) q f)

  counts : CountsStay m m₁ r
  counts = subst (λ z. CountsStay m z r) same (set_held-counts g m s n v k cl r (place m r) r)

  took : Took g m m₁ k cl r (place m r)
  took = record {
    sizes = subst (Sizes g) same (set_held-sizes g m s n v k cl r (place m r));
    below = below;
    there = there;
    other = other;
    bitmaps = λ q f. refl;
    tree = part_tree g m cl stack some (c.summed.trees r below);
    remains = part_remains g m cl stack some (c.segments r below);
    counts = counts;
    counted =
        let x = top_tag in
        let y = there.tag in
        counts_same g m m₁ r (c.summed.counts r below) (λ e. absurd (omega arith)) (λ e. absurd (omega arith)) (there.class ∙ sym top_class) there.place counts refl;
    holds = subst (λ z. holding z k cl ≡ suc r) same (set_held-holds g m s n v k cl r (place m r) few ic);
    entries = set_held-entries g m s n v k cl r (place m r) few ic;
    before = let z = top_tag in omega arith;
    stood = λ u. record { used = λ e. let z = there.tag in omega arith; class = there.class ∙ sym top_class; place = there.place; bitmap = refl };
  }

  -- ---- the stacks

  held_now : tag m₁ r ≡ Tag.part → ⊥
  held_now e = let z = there.tag in omega arith

  part_stack_lem : StackOk g m₁ (part_stack cl) (is_part m₁ cl)
  part_stack_lem = stack_same g (pop g m (part_stack cl)) m₁ (part_stack cl) (is_part m₁ cl) (is_part m₁ cl)
      (pop_ok g m s (part_stack cl) (part_few cl ic) (is_part m cl) stack (is_part m₁ cl) some (not_part m₁ cl r (λ e. absurd (held_now e))) (λ q l f. part_other m m₁ r other cl q f))
      refl (λ i l. refl) (λ q l. refl)

  part_stacks : (d : ℕ) → IsClass d → StackOk g m₁ (part_stack d) (is_part m₁ d)
  part_stacks d i = go (same_or_not d cl)
    where
      go : (d ≡ cl) ⊎ (d ≡ cl → ⊥) → StackOk g m₁ (part_stack d) (is_part m₁ d)
      go (inl e) = subst (λ z. StackOk g m₁ (part_stack z) (is_part m₁ z)) (sym e) part_stack_lem
      go (inr f) = stack_apart g m s m₁ (part_stack cl) v (part_few cl ic) refl (part_stack d) (part_apart d cl i ic f) (is_part m d) (is_part m₁ d) (c.summed.part_segments d i)
          (λ q l. part_left m m₁ r other d (λ e z. f (sym z ∙ top_class)) (λ e. absurd (held_now e)) q)

  free_stack_lem : StackOk g m₁ free_stack (is_free m₁)
  free_stack_lem = stack_apart g m s m₁ (part_stack cl) v (part_few cl ic) refl free_stack (λ e. omega arith) (is_free m) (is_free m₁) c.summed.free_segments
      (λ q l. free_left m m₁ r other (λ e. let z = top_tag in omega arith) (λ e. let z = there.tag in omega arith) q)

  taken_over : SegmentTaken g m m₁ k cl r
  taken_over = taken_by g m s c taken.mutators taken.segments (popped g m s n v k cl r (place m r)).stacks m.bitmaps k cl r (place m r) few here ic none took free_stack_lem part_stacks

  pub taken_part : SegmentTaken g m (set_held g (pop g m (part_stack cl)) k cl r (place m r)) k cl r
  taken_part = subst (λ z. SegmentTaken g m z k cl r) (sym same) taken_over
