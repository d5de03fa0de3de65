-- Blocks in use that are not marked. In mark no call adds one: every such block after a call was one before it, in a segment of the same class.
use mathlib.Core.Path.{◌≡◌, refl, sym, ◌∙◌, ap, subst}
use mathlib.Core.List.{List}
use Prim.Native.Nat.{ℕ, ◌<◌}
use native.Mathlib.Omega.{arith}
use lib.ListN.{get_or}
use Rattle.words.proofs.Word.{zero_of_not_one}
use Rattle.layout.specs.declared.Geometry.{Geometry}
use Rattle.layout.specs.Geometry.{blocks_in}
use Rattle.layout.specs.Mem.{Mem, set_mutator, set_heap, set_run}
use Rattle.model.specs.Fields.{tag, class, place, trace_count}
use Rattle.model.specs.Segments.{bitmap, used_bit}
use Rattle.model.specs.Records.{header_of, marked}
use Rattle.model.specs.Mutators.{attached}
use Rattle.model.specs.Consistent.{BlockInUse}
use Rattle.model_laws.proofs.Bitmaps.{bitmap_by}
use Rattle.model_laws.proofs.Segments.{used_same}
use Rattle.model_laws.proofs.Marked.{marked_by, marked_lt}
use Rattle.idle_twin.specs.SameHeap.{SameHeap}
use Rattle.cycle_bound.proofs.MarksKept.{MarksKept}
use Rattle.model.specs.Tag as Tag

pub record Unmarked (g : Geometry) (m : Mem) (s b : ℕ) : Type 0 where
  pub in_use : BlockInUse g m s b
  pub unmarked : marked g m (header_of g s (class m s) b) ≡ 0

-- what is so after was so before, in a segment of the same class
abbrev pub WasUnmarked : Geometry → Mem → Mem → Type 0
WasUnmarked g m m' = (s b : ℕ) → Unmarked g m' s b → Unmarked g m s b × (class m' s ≡ class m s)

pub was_self : (g : Geometry) (m : Mem) → WasUnmarked g m m
was_self g m s b u = (u, refl)

pub was_then : (g : Geometry) (m m₁ m₂ : Mem) → WasUnmarked g m m₁ → WasUnmarked g m₁ m₂ → WasUnmarked g m m₂
was_then g m m₁ m₂ a b s i u = let y = b s i u in let x = a s i y.0 in (x.0, y.1 ∙ x.1)

-- of one block: its segment was not free and had the class, it was in use, and no mark was lost
module _ (g : Geometry) (m m' : Mem) (kept : MarksKept g m m') (s b : ℕ) (u : Unmarked g m' s b) where
  pub was_at : (tag m s ≡ Tag.free → ⊥) → class m' s ≡ class m s → used_bit g m s b ≡ 1 → Unmarked g m s b × (class m' s ≡ class m s)
  was_at f c e = (record { in_use = record { used = f; within = subst (λ z. b < blocks_in g z) c u.in_use.within; block = e }; unmarked = none }, c)
    where
      now : marked g m' (header_of g s (class m s) b) ≡ 0
      now = ap (λ z. marked g m' (header_of g s z b)) (sym c) ∙ u.unmarked

      none : marked g m (header_of g s (class m s) b) ≡ 0
      none = zero_of_not_one _ (marked_lt g m (header_of g s (class m s) b)) (λ z. let y = kept (header_of g s (class m s) b) z in let w = now in omega arith)

  -- where its class, its place and its bitmap stay
  pub was_standing : (tag m s ≡ Tag.free → ⊥) → class m' s ≡ class m s → place m' s ≡ place m s → bitmap g m' s ≡ bitmap g m s → Unmarked g m s b × (class m' s ≡ class m s)
  was_standing f c p e = was_at f c (sym (used_same g m m' s b p e) ∙ u.in_use.block)

-- the segments' records and the bitmaps stay
pub was_still : (g : Geometry) (m m' : Mem) → m'.segments ≡ m.segments → m'.bitmaps ≡ m.bitmaps → MarksKept g m m' → WasUnmarked g m m'
was_still g m m' e b k s i u =
    let w : (j : ℕ) → get_or m'.segments j 0 ≡ get_or m.segments j 0 = λ j. ap (λ (l : List ℕ). get_or l j 0) e in
    was_standing g m m' k s i u (λ q. u.in_use.used (w _ ∙ q)) (w _) (w _) (bitmap_by g m m' b s)

pub was_same : (g : Geometry) (m m' : Mem) → SameHeap m m' → MarksKept g m m' → WasUnmarked g m m'
was_same g m m' e = was_still g m m' e.segments e.bitmaps

-- and marks and trace stack
pub kept_framed : (g : Geometry) (m m' : Mem) → m'.marks ≡ m.marks → m'.trace ≡ m.trace → trace_count m' ≡ trace_count m → MarksKept g m m'
kept_framed g m m' a t n x e = marked_by g m m' x a t n ∙ e

pub was_mutator : (g : Geometry) (m : Mem) (i v : ℕ) → WasUnmarked g m (set_mutator m i v)
unfolding set_mutator
was_mutator g m i v = was_still g m (set_mutator m i v) refl refl (kept_framed g m (set_mutator m i v) refl refl refl)

pub was_heap : (g : Geometry) (m : Mem) (i v : ℕ) → WasUnmarked g m (set_heap m i v)
unfolding set_heap
was_heap g m i v = was_still g m (set_heap m i v) refl refl (kept_framed g m (set_heap m i v) refl refl refl)

pub was_attached : (g : Geometry) (m : Mem) (k v : ℕ) → WasUnmarked g m (attached m k v)
unfolding attached set_run
was_attached g m k v = was_still g m (attached m k v) refl refl (kept_framed g m (attached m k v) refl refl refl)
