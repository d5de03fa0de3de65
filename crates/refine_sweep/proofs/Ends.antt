-- The three ends of a sweep, by the number of marks: a segment with none is free, one with all is full, else it is part.
use mathlib.Core.Path.{◌≡◌, refl, sym, ◌∙◌, ap, subst}
use Prim.Native.Nat.{ℕ, ◌-◌, ◌≤◌, ◌<◌}
use native.Mathlib.Omega.{arith}
use lib.Dec.{ltb}
use borrow.Author.Tests.{lt-ltb, le-ltb}
use Rattle.basics.specs.Pick.{pick}
use Rattle.words.specs.Bits.{bit_at, ones_among}
use Rattle.words.proofs.Ones.{among_same}
use Rattle.words.specs.Tree.{Tree}
use Rattle.words.proofs.Lists.{at_lt}
use Rattle.layout.specs.Geometry.{blocks_in}
use Rattle.layout.specs.declared.Geometry.{Geometry}
use Rattle.layout.specs.Mem.{Mem, Sizes}
use Rattle.model.specs.declared.SegmentState.{SegmentState}
use Rattle.model.specs.Fields.{tag, class}
use Rattle.model.specs.Segments.{above, bitmap, used_bit, handed_bit, marks_of}
use Rattle.model.specs.Collector.{marked_blocks}
use Rattle.model.specs.Records.{header_of, entered}
use Rattle.classes.specs.Class.{IsClass}
use Rattle.model_laws.proofs.Words.{tag_of, class_in, place_in, owner_in}
use Rattle.model_laws.proofs.Parted.{Stacks}
use Rattle.words.proofs.Counts.{none_one, all_one, one_missing, one_there, no_ones}
use Rattle.model_laws.proofs.Rebuilding.{mark_bit_lem}
use Rattle.refine_sweep.proofs.Settled.{Settled}
use Rattle.refine_sweep.proofs.Outcome.{Outcome}
use Rattle.model.specs.declared.SegmentState.TheVariants as segment
use Rattle.model.specs.Tag as Tag

module _ (g : Geometry) (m : Mem) (s : Sizes g m) (r : ℕ) (l : r < g.segments) (k : IsClass (class m r)) (m' : Mem) where
  -- a block's bit among the segment's marks, and its record's
  to_mark : (b : ℕ) → b < blocks_in g (class m r) → bit_at (marks_of g m r) b ≡ entered g m (header_of g r (class m r) b)
  to_mark b h = mark_bit_lem g m s r l k b h

  pub free_end : Settled g m m' r segment.Free → marked_blocks g m r ≡ 0 → Stacks g m' → Outcome g m m' r
  free_end q e p =
      let z : tag m' r ≡ Tag.free = q.there.tag in
      record {
        left = q.left;
        segment = record {
          tags = omega arith;
          free = λ _. (q.there.class, q.there.place, q.there.owner);
          unowned = λ _. q.there.owner;
          classes = λ d. absurd (d z);
          remains = λ a b. absurd (omega arith);
          full = λ a. absurd (omega arith);
          condemned = λ a. absurd (omega arith);
          held = λ a. absurd (omega arith);
        };
        tree = λ d. absurd (d z);
        counts = record { free = λ _. (q.counts.kept ∙ e, q.counts.handed); kept = λ d _. absurd (d z); handed = λ d _. absurd (d z) };
        occupied = λ a b. absurd (omega arith);
        unheld = λ a. omega arith;
        uncondemned = λ a. omega arith;
        classed = λ d. absurd (d z);
        used = λ d b h. absurd (d z);
        kept = λ b h a _. (let y : entered g m (header_of g r (class m r) b) ≡ 0 = sym (to_mark b h) ∙ none_one (bit_at (marks_of g m r)) (blocks_in g (class m r)) e b h in omega arith);
        stacks = p;
      }

  -- the bits of the blocks are the marks
  kept_marks : (x : SegmentState) → Settled g m m' r x → ones_among (bit_at (bitmap g m' r)) (blocks_in g (class m r)) ≡ marked_blocks g m r
  kept_marks x q = among_same (bit_at (bitmap g m' r)) (bit_at (marks_of g m r)) (blocks_in g (class m r)) (λ b h. q.bits b h ∙ sym (to_mark b h))

  -- a segment that stays in use, with its class
  kept_end : (x : SegmentState) → Settled g m m' r x → class_in x ≡ class m r → owner_in x ≡ 0 → 1 ≤ tag_of x → (tag_of x ≡ 2 → ⊥) → tag_of x ≤ 3
      → (tag_of x ≤ 2 → (b : ℕ) × (place_in g x ≤ b) × (b < blocks_in g (class m r)) × (bit_at (bitmap g m' r) b ≡ 0))
      → (3 ≤ tag_of x → place_in g x ≡ blocks_in g (class m r))
      → (tag_of x ≤ 2 → (b : ℕ) × (b < blocks_in g (class m r)) × (entered g m (header_of g r (class m r) b) ≡ 1))
      → ((b : ℕ) → b < blocks_in g (class m r) → pick (ltb b (place_in g x)) 1 (bit_at (bitmap g m' r) b) ≡ entered g m (header_of g r (class m r) b))
      → ((b : ℕ) → b < blocks_in g (class m r) → pick (ltb b (place_in g x)) (1 - bit_at (bitmap g m' r) b) 0 ≡ 0) → Stacks g m' → Outcome g m m' r
  kept_end x q c o low two top remains whole marked used unhanded p =
      let z : tag m' r ≡ tag_of x = q.there.tag in
      let w : class m' r ≡ class m r = q.there.class ∙ c in
      let reads : (b : ℕ) → b < blocks_in g (class m r) → used_bit g m' r b ≡ entered g m (header_of g r (class m r) b) =
      λ b h. ap (λ y. pick (ltb b y) 1 (bit_at (bitmap g m' r) b)) q.there.place ∙ used b h in
      record {
        left = q.left;
        segment = record {
          tags = omega arith;
          free = λ a. absurd (omega arith);
          unowned = λ _. q.there.owner ∙ o;
          classes = λ d. subst IsClass (sym w) k;
          remains = λ a b. let y = remains (omega arith) in (y.0, subst (λ v. v ≤ y.0) (sym q.there.place) y.1, subst (λ c. y.0 < blocks_in g c) (sym w) y.2, y.3);
          full = λ a. q.there.place ∙ whole (omega arith) ∙ sym (ap (blocks_in g) w);
          condemned = λ a. absurd (omega arith);
          held = λ a. absurd (two (sym z ∙ a));
        };
        tree = λ d. subst (λ c. Tree (above g c) (blocks_in g c) (bitmap g m' r)) (sym w) q.tree;
        counts = record {
          free = λ a. absurd (omega arith);
          kept = λ _ _. q.counts.kept ∙ sym (kept_marks x q) ∙ ap (λ c. ones_among (bit_at (bitmap g m' r)) (blocks_in g c)) (sym w);
          handed =
              λ _ _. q.counts.handed ∙ sym (no_ones (handed_bit g m' r) (blocks_in g (class m r))
              (λ b h. ap (λ y. pick (ltb b y) (1 - bit_at (bitmap g m' r) b) 0) q.there.place ∙ unhanded b h)) ∙ ap (λ c. ones_among (handed_bit g m' r) (blocks_in g c)) (sym w);
        };
        occupied = λ a b. let y = marked (omega arith) in (y.0, subst (λ c. y.0 < blocks_in g c) (sym w) y.1, reads y.0 y.1 ∙ y.2);
        unheld = λ a. two (sym z ∙ a);
        uncondemned = λ a. omega arith;
        classed = λ d. w;
        used = λ d. reads;
        kept = λ b h a y. omega arith;
        stacks = p;
      }

  pub full_end : Settled g m m' r (segment.Full (class m r)) → marked_blocks g m r ≡ blocks_in g (class m r) → Stacks g m' → Outcome g m m' r
  full_end q e p = kept_end (segment.Full (class m r)) q refl refl (omega arith) (λ a. omega arith) (omega arith) (λ a. absurd (omega arith)) (λ a. refl) (λ a. absurd (omega arith))
      (λ b h. ap (λ y. pick y 1 (bit_at (bitmap g m' r) b)) (lt-ltb b (blocks_in g (class m r)) h) ∙ sym (one b h) ∙ to_mark b h)
      (λ b h. ap (λ y. pick y (1 - bit_at (bitmap g m' r) b) 0) (lt-ltb b (blocks_in g (class m r)) h) ∙ ap (λ y. 1 - y) (q.bits b h ∙ sym (to_mark b h) ∙ one b h)) p
    where
      one : (b : ℕ) → b < blocks_in g (class m r) → bit_at (marks_of g m r) b ≡ 1
      one = all_one (bit_at (marks_of g m r)) (at_lt (marks_of g m r)) (blocks_in g (class m r)) e

  pub part_end : Settled g m m' r (segment.Part (class m r) 0) → (marked_blocks g m r ≡ 0 → ⊥) → (marked_blocks g m r ≡ blocks_in g (class m r) → ⊥) → Stacks g m' → Outcome g m m' r
  part_end q n e p =
      let y = one_missing (bit_at (marks_of g m r)) (at_lt (marks_of g m r)) (blocks_in g (class m r)) e in
      let x = one_there (bit_at (marks_of g m r)) (at_lt (marks_of g m r)) (blocks_in g (class m r)) n in
      kept_end (segment.Part (class m r) 0) q refl refl (omega arith) (λ a. omega arith) (omega arith)
      (λ a. (y.0, omega arith, y.1, q.bits y.0 y.1 ∙ sym (to_mark y.0 y.1) ∙ y.2)) (λ a. absurd (omega arith))
      (λ a. (x.0, x.1, sym (to_mark x.0 x.1) ∙ x.2))
      (λ b h. ap (λ x. pick x 1 (bit_at (bitmap g m' r) b)) (le-ltb b 0 (omega arith)) ∙ q.bits b h)
      (λ b h. ap (λ x. pick x (1 - bit_at (bitmap g m' r) b) 0) (le-ltb b 0 (omega arith))) p
