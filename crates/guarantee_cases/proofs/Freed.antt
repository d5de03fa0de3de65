-- A sweep that frees a block: one of the segment's blocks is free after it, and the record at its header is then not reached.
use mathlib.Core.Path.{◌≡◌, ◌∙◌, ap, subst}
use mathlib.Core.Logic.{◌⊎◌, inl, inr}
use mathlib.Core.Bool.{Bool, true, not}
use Prim.Native.Nat.{ℕ, suc, ◌-◌, ◌<◌}
use native.Mathlib.Omega.{arith}
use lib.Dec.{eqb}
use borrow.Author.Tests.{eq-eqb, ne_eqb, eqb-true}
use Rattle.basics.specs.Pick.{pick}
use Rattle.basics.proofs.Order.{same_or_not}
use Rattle.words.specs.Bits.{ones_among}
use Rattle.layout.specs.Geometry.{blocks_in, segment_of}
use Rattle.layout.specs.declared.Geometry.{Geometry}
use Rattle.layout.specs.Mem.{Mem, Sizes, set_control}
use Rattle.model.specs.Fields.{tag, class}
use Rattle.model.specs.Segments.{used_bit, in_use}
use Rattle.model.specs.Records.{block_of, header_of}
use Rattle.model.specs.Collector.{swept}
use Rattle.classes.specs.Class.{IsClass}
use Rattle.model.specs.Consistent.{is_free}
use Rattle.refine_view.specs.View.{is_used}
use Rattle.refine_view.specs.Refines.{Ordered}
use Rattle.model_laws.proofs.Bools.{and_right, and_left, not_eq}
use Rattle.model_laws.proofs.Segments.{used_small, in_use-le}
use Rattle.model_laws.proofs.Blocks.{header_segment, header_block}
use Rattle.words.proofs.Counts.{one_missing}
use Rattle.refine_sweep.proofs.SweepStep.{settled_outcome}
use Rattle.guarantee.specs.Demand3.{BlockFree}
use Rattle.model.specs.Tag as Tag

module _ (g : Geometry) (m : Mem) (z : Sizes g m) (c : Ordered g m) (s : ℕ) (l : s < g.segments) (t : tag m s ≡ Tag.condemned) where
  abbrev after : Mem
  after = swept g m s

  classed : (tag after s ≡ Tag.free → ⊥) → class after s ≡ class m s
  unfolding swept set_control
  classed = (settled_outcome g m z c s l t).classed

  -- "how many blocks in use became free"
  pub some_free : (n : ℕ) → in_use g m s - in_use g after s ≡ suc n → (b : ℕ) × (b < blocks_in g (class m s)) × BlockFree g after s b
  some_free n e = go (same_or_not (tag after s) 0)
    where
      go : (tag after s ≡ Tag.free) ⊎ (tag after s ≡ Tag.free → ⊥) → (b : ℕ) × (b < blocks_in g (class m s)) × BlockFree g after s b
      go (inl f) = let h = in_use-le g m s in (0, omega arith, inr (eq-eqb _ _ f))
      go (inr f) =
          let h = in_use-le g m s in
          let k : in_use g after s ≡ ones_among (used_bit g after s) (blocks_in g (class m s)) =
          ap (λ (x : Bool). pick x 0 (ones_among (used_bit g after s) (blocks_in g (class after s)))) (ne_eqb (tag after s) 0 f)
          ∙ ap (λ x. ones_among (used_bit g after s) (blocks_in g x)) (classed f) in
          let x = one_missing (used_bit g after s) (used_small g after s) (blocks_in g (class m s)) (λ q. omega arith) in
          (x.0, x.1, inl x.2)

  -- the block at that header is not in use
  pub free_unused : IsClass (class m s) → (b : ℕ) → b < blocks_in g (class m s) → BlockFree g after s b → is_used g after (header_of g s (class m s) b) ≡ true → ⊥
  free_unused k b h f u = go f
    where
      there : segment_of g (header_of g s (class m s) b) ≡ s
      there = header_segment g (class m s) k s b h

      kept : tag after s ≡ Tag.free → ⊥
      kept =
          subst (λ x. tag after x ≡ Tag.free → ⊥) there
          (not_eq (tag after (segment_of g (header_of g s (class m s) b))) 0 (and_left (not (eqb (tag after (segment_of g (header_of g s (class m s) b))) Tag.free)) _ u))

      used : used_bit g after s b ≡ 1
      used =
          subst (λ x. used_bit g after s x ≡ 1) (header_block g (class m s) k s b h after (classed kept))
          (subst (λ x. used_bit g after x (block_of g after (header_of g s (class m s) b)) ≡ 1) there
          (eqb-true _ _ (and_right (not (eqb (tag after (segment_of g (header_of g s (class m s) b))) Tag.free)) _ u)))

      go : (used_bit g after s b ≡ 0) ⊎ (is_free after s ≡ true) → ⊥
      go (inl e) = let x = used in omega arith
      go (inr e) = kept (eqb-true _ _ e)
