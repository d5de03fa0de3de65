-- In memory that passes the examination the segment that a make takes its block from is ready: held by the mutator and of the class, with a tree, a
-- free block from its place on, and a count that is no more than its blocks.
use mathlib.Core.Path.{◌≡◌, refl, sym, ◌∙◌, subst}
use mathlib.Core.Bool.{Bool, true, false}
use mathlib.Core.Option.{some, none-ne-some, some-injective}
use Prim.Native.Nat.{ℕ, suc, ◌+◌, ◌-◌, ◌*◌, ◌≤◌, ◌<◌}
use native.Mathlib.Nat.{pos_of_ne-zero}
use native.Mathlib.Omega.{arith}
use lib.Dec.{eqb}
use borrow.Author.Tests.{eqb-false}
use Rattle.basics.specs.Pick.{pick}
use Rattle.words.specs.Tree.{Tree}
use Rattle.classes.specs.Class.{IsClass}
use Rattle.layout.specs.declared.Geometry.{Geometry}
use Rattle.layout.specs.Geometry.{mutator_count, blocks_in}
use Rattle.layout.specs.Mem.{Mem, set_stack, set_segment, set_mutator, set_run, Sizes}
use Rattle.model.specs.Fields.{holding, tag, class, place, handed_count}
use Rattle.model.specs.Segments.{set_segment_state, free_stack, part_stack, count, top, pop, above, bitmap}
use Rattle.model.specs.Making.{held, part, unused, no_room, source_of, set_held}
use Rattle.model.specs.Consistent.{Consistent}
use Rattle.model_laws.proofs.Words.{Recorded, recorded_as, untouched_same}
use Rattle.model_laws.proofs.Bitmaps.{bitmap_by}
use Rattle.model_laws.proofs.SetHeld.{set_held-there, set_held-counts}
use Rattle.model_laws.proofs.Topmost.{FreeFrom, top_part, part_tree, part_remains, top_free, clean_tree, clean_free}
use Rattle.model_laws.proofs.Segments.{in_use-le}
use Rattle.model_laws.proofs.Blocks.{blocks_most}
use Rattle.model.proofs.InUse.{counts_in_use}
use Rattle.layout.proofs.Sizes.{most_small}
use Rattle.basics.proofs.Order.{same_or_not}
use mathlib.Core.Logic.{⊎_elim}
use Rattle.making.specs.Taking.{segment_in, taken_from}
use Rattle.making.specs.HandingOut.{SegmentReady}
use Rattle.model.specs.Tag as Tag

module _ (g : Geometry) (m : Mem) (z : Sizes g m) (x : Consistent g m) (k c : ℕ) (few : k < mutator_count) (i : IsClass c) where
  -- no more blocks were handed out than a segment has
  few_handed : (s : ℕ) → s < g.segments → handed_count m s < 4294967295
  few_handed s l = ⊎_elim (λ e. let z = ((x.summed.counts s l).free e).1 in omega arith) used (same_or_not (tag m s) Tag.free)
    where
      used : (tag m s ≡ Tag.free → ⊥) → handed_count m s < 4294967295
      used f =
          let a = counts_in_use g m s (x.summed.counts s l) (x.sound.segments s l).classes in
          let b = in_use-le g m s in
          let d = blocks_most g (class m s) ((x.sound.segments s l).classes f) in
          let e = most_small g in
          omega arith

  -- by the words of its record
  ready_by : (m₁ : Mem) (s p : ℕ) → Recorded m₁ s Tag.held c p k → Tree (above g c) (blocks_in g c) (bitmap g m₁ s) → FreeFrom g (bitmap g m₁ s) c p → handed_count m₁ s ≡ handed_count m s
      → s < g.segments → SegmentReady g m₁ k c s
  ready_by m₁ s p r t f e l = record {
    tag = r.tag;
    class = r.class;
    owner = r.owner;
    tree = t;
    remains = subst (FreeFrom g (bitmap g m₁ s) c) (sym r.place) f;
    counted = subst (λ h. h < 4294967295) (sym e) (few_handed s l);
  }

  ready_held : (s : ℕ) → holding m k c ≡ suc s → SegmentReady g m k c s
  ready_held s e =
      let h = (x.sound.mutators k few).holds c s i e in
      let t = h.1 in
      let y = (x.sound.segments s h.0).remains (omega arith) (omega arith) in
      record {
        tag = h.1;
        class = h.2;
        owner = h.3;
        tree = subst (λ w. Tree (above g w) (blocks_in g w) (bitmap g m s)) h.2 (x.summed.trees s h.0 (λ f. omega arith));
        remains = (y.0, y.1, subst (λ w. y.0 < blocks_in g w) h.2 y.2, y.3);
        counted = few_handed s h.0;
      }

  bitmaps_kept : (t s p : ℕ) → bitmap g (set_held g (pop g m t) k c s p) s ≡ bitmap g m s
  unfolding set_stack set_segment_state set_segment set_mutator
  bitmaps_kept t s p = bitmap_by g m (set_held g (pop g m t) k c s p) refl s

  ready_part : 1 ≤ count g m (part_stack c) → SegmentReady g (taken_from g m k c (part (top g m (part_stack c)))) k c (top g m (part_stack c))
  ready_part there =
      let o = x.summed.part_segments c i in
      let s = top g m (part_stack c) in
      let l = (top_part g m c o there).0 in
      let e : bitmap g (set_held g (pop g m (part_stack c)) k c s (place m s)) s ≡ bitmap g m s = bitmaps_kept (part_stack c) s (place m s) in
      ready_by _ s (place m s) (set_held-there g m z (part_stack c * (1 + g.segments)) (count g m (part_stack c) - 1) k c s (place m s) l)
      (subst (Tree (above g c) (blocks_in g c)) (sym e) (part_tree g m c o there (x.summed.trees s l)))
      (subst (λ w. FreeFrom g w c (place m s)) (sym e) (part_remains g m c o there (x.sound.segments s l)))
      (set_held-counts g m z (part_stack c * (1 + g.segments)) (count g m (part_stack c) - 1) k c s (place m s) s).handed l

  ready_free : 1 ≤ count g m free_stack → SegmentReady g (taken_from g m k c (unused (top g m free_stack))) k c (top g m free_stack)
  unfolding set_stack set_segment_state set_segment set_mutator set_run
  ready_free there =
      let o = x.summed.free_segments in
      let s = top g m free_stack in
      let l = (top_free g m o there).0 in
      let m₁ : Mem = taken_from g m k c (unused s) in
      ready_by m₁ s 0 (recorded_as (set_held g (pop g m free_stack) k c s 0) m₁ s Tag.held c 0 k refl (set_held-there g m z (free_stack * (1 + g.segments)) (count g m free_stack - 1) k c s 0 l))
      (clean_tree g m z s l c i m₁ refl) (clean_free g m z s l c i m₁ refl)
      ((untouched_same (set_held g (pop g m free_stack) k c s 0) m₁ s refl).counts.handed ∙ (set_held-counts g m z (free_stack * (1 + g.segments)) (count g m free_stack - 1) k c s 0 s).handed) l

  pub ready : (s : ℕ) → segment_in (source_of g m k c) ≡ some s → SegmentReady g (taken_from g m k c (source_of g m k c)) k c s
  ready s e = go (eqb (holding m k c) 0) (eqb (count g m (part_stack c)) 0) (eqb (count g m free_stack) 0) refl refl refl e
    where
      go : (a b d : Bool) → eqb (holding m k c) 0 ≡ a → eqb (count g m (part_stack c)) 0 ≡ b → eqb (count g m free_stack) 0 ≡ d
          → segment_in (pick a (pick b (pick d no_room (unused (top g m free_stack))) (part (top g m (part_stack c)))) (held (holding m k c - 1))) ≡ some s
          → SegmentReady g (taken_from g m k c (pick a (pick b (pick d no_room (unused (top g m free_stack))) (part (top g m (part_stack c)))) (held (holding m k c - 1)))) k c s
      go false b d p q r e =
          let y : 0 < holding m k c = pos_of_ne-zero (eqb-false _ _ p) in
          let v : holding m k c ≡ suc (holding m k c - 1) = omega arith in
          subst (SegmentReady g m k c) (some-injective _ _ e) (ready_held (holding m k c - 1) v)
      go true false d p q r e = subst (SegmentReady g _ k c) (some-injective _ _ e) (ready_part (pos_of_ne-zero (eqb-false _ _ q)))
      go true true false p q r e = subst (SegmentReady g _ k c) (some-injective _ _ e) (ready_free (pos_of_ne-zero (eqb-false _ _ r)))
      go true true true p q r e = absurd (none-ne-some s e)
