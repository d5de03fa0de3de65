-- A free segment taken by a mutator that holds none of its class, with a bitmap of free blocks.
use mathlib.Core.Path.{◌≡◌, refl, sym, ◌∙◌, subst}
use mathlib.Core.Bool.{true}
use mathlib.Core.List.{List}
use Prim.Native.Nat.{ℕ, ◌+◌, ◌-◌, ◌*◌, ◌≤◌, ◌<◌}
use native.Mathlib.Omega.{arith}
use borrow.Author.Tests.{le-ltb}
use Rattle.words.specs.Bits.{bit_at}
use Rattle.words.proofs.Counts.{no_ones}
use Rattle.layout.specs.declared.Geometry.{Geometry}
use Rattle.layout.specs.Geometry.{mutator_count, blocks_in, bitmap_words}
use Rattle.layout.specs.Mem.{Mem, set_stack, set_segment, set_mutator, set_run, Sizes, spliced}
use Rattle.model.specs.Fields.{holding, tag, class, place, kept_count, handed_count}
use Rattle.model.specs.Segments.{set_segment_state, free_stack, part_stack, count, top, pop, bitmap, handed_bit}
use Rattle.model.specs.Making.{set_held, freshened}
use Rattle.model.specs.Calls.{is_attached}
use Rattle.classes.specs.Class.{IsClass}
use Rattle.model.specs.Consistent.{CountsOk, StackOk, is_free, is_part}
use Rattle.refine_view.specs.Refines.{Ordered}
use Rattle.model_laws.proofs.Words.{Recorded, CountsStay, Untouched, untouched_same, untouched_as, counted_then, recorded_as}
use Rattle.model_laws.proofs.Segments.{not_free, free_other, part_left}
use Rattle.model_laws.proofs.Windows.{window_other}
use Rattle.model_laws.proofs.Lengths.{sizes_bitmap}
use Rattle.model_laws.proofs.Topmost.{top_free, free_tag, clean, long_clean, clean_tree, clean_free, clean_bit}
use Rattle.model_laws.proofs.Stacks.{stack_same, pop_ok}
use Rattle.model_laws.proofs.OtherStacks.{stack_apart}
use Rattle.refine_take_detach.proofs.Standing.{over}
use Rattle.model_laws.proofs.SetHeld.{popped, after, set_held-sizes, set_held-there, set_held-other, set_held-counts, set_held-holds, set_held-entries}
use Rattle.refine_take_detach.proofs.SegmentTaken.{SegmentTaken}
use Rattle.refine_take_detach.proofs.Taking.{Took, taken_by}
use Rattle.model.specs.Tag as Tag

module _ (g : Geometry) (m : Mem) (s : Sizes g m) (c : Ordered g m) (k cl : ℕ) (few : k < mutator_count)
    (here : is_attached m k ≡ true) (ic : IsClass cl) (none : holding m k cl ≡ 0) (some : 1 ≤ count g m free_stack) where
  abbrev r : ℕ
  r = top g m free_stack

  below : r < g.segments
  below = (top_free g m c.summed.free_segments some).0

  top_tag : tag m r ≡ Tag.free
  top_tag = free_tag g m c.summed.free_segments some

  abbrev n : ℕ
  n = free_stack * (1 + g.segments)

  abbrev v : ℕ
  v = count g m free_stack - 1

  abbrev taken : Mem
  taken = after g m s n v k cl r 0

  abbrev tree : List ℕ
  tree = clean g m s r below cl ic

  abbrev m₁ : Mem
  m₁ = over m taken.mutators taken.segments (popped g m s n v k cl r 0).stacks (spliced m.bitmaps (r * bitmap_words g) tree)

  same : freshened g taken r cl ≡ m₁
  unfolding set_stack set_segment_state set_segment set_mutator set_run
  same = refl

  -- ---- the records

  there : Recorded m₁ r 2 cl 0 k
  there = recorded_as taken m₁ r 2 cl 0 k refl (set_held-there g m s n v k cl r 0 below)

  other : (q : ℕ) → (q ≡ r → ⊥) → Untouched m m₁ q
  other q f = untouched_as refl (set_held-other g m s n v k cl r 0 q f)

  counts : CountsStay m m₁ r
  counts = counted_then (set_held-counts g m s n v k cl r 0 r) (untouched_same taken m₁ r refl).counts

  -- none was kept and none handed out, and no block's bit is 1 or lies before the place
  counted : CountsOk g m₁ r
  counted = record {
    free = λ e. let z = there.tag in absurd (omega arith);
    kept = λ f i. counts.kept ∙ was.0 ∙ sym (no_ones (bit_at (bitmap g m₁ r)) (blocks_in g (class m₁ r)) unset);
    handed = λ f i. counts.handed ∙ was.1 ∙ sym (no_ones (handed_bit g m₁ r) (blocks_in g (class m₁ r)) (λ b h. let p = there.place in rw (le-ltb b (place m₁ r) (omega arith)) refl));
  }
    where
      unset : (b : ℕ) → b < blocks_in g (class m₁ r) → bit_at (bitmap g m₁ r) b ≡ 0
      unset b h = clean_bit g m s r below cl ic m₁ refl b (subst (λ x. b < blocks_in g x) there.class h)

      was : (kept_count m r ≡ 0) × (handed_count m r ≡ 0)
      was = (c.summed.counts r below).free top_tag

  took : Took g m m₁ k cl r 0
  took = record {
    sizes = subst (Sizes g) same (sizes_bitmap g taken (set_held-sizes g m s n v k cl r 0) _ _);
    below = below;
    there = there;
    other = other;
    bitmaps = λ q f. window_other (bitmap_words g) r q tree m.bitmaps (long_clean g m s r below cl ic) f;
    tree = clean_tree g m s r below cl ic m₁ refl;
    remains = clean_free g m s r below cl ic m₁ refl;
    counts = counts;
    counted = counted;
    holds = set_held-holds g m s n v k cl r 0 few ic;
    entries = set_held-entries g m s n v k cl r 0 few ic;
    before = let z = top_tag in omega arith;
    stood = λ u. absurd (u top_tag);
  }

  -- ---- the stacks

  free_stack_lem : StackOk g m₁ free_stack (is_free m₁)
  free_stack_lem = stack_same g (pop g m free_stack) m₁ free_stack (is_free m₁) (is_free m₁)
      (pop_ok g m s free_stack (omega arith) (is_free m) c.summed.free_segments (is_free m₁) some (not_free m₁ r (λ e. let z = there.tag in omega arith)) (λ q l f. free_other m m₁ r other q f))
      refl (λ i l. refl) (λ q l. refl)

  part_stacks : (d : ℕ) → IsClass d → StackOk g m₁ (part_stack d) (is_part m₁ d)
  part_stacks d i = stack_apart g m s m₁ free_stack v (omega arith) refl (part_stack d) (λ e. omega arith) (is_part m d) (is_part m₁ d) (c.summed.part_segments d i)
      (λ q l. part_left m m₁ r other d (λ e z. let y = top_tag in omega arith) (λ e z. let y = there.tag in omega arith) q)

  taken_over : SegmentTaken g m m₁ k cl r
  taken_over =
      taken_by g m s c taken.mutators taken.segments (popped g m s n v k cl r 0).stacks
      (spliced m.bitmaps (r * bitmap_words g) tree) k cl r 0 few here ic none took free_stack_lem part_stacks

  pub taken_free : SegmentTaken g m (freshened g (set_held g (pop g m free_stack) k cl r 0) r cl) k cl r
  taken_free = subst (λ z. SegmentTaken g m z k cl r) (sym same) taken_over
