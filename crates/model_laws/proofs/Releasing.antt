-- What is known while a mutator's held segments go to part, class by class: those of the first n classes have gone, the rest is as it was.
use mathlib.Core.Path.{◌≡◌, refl, sym, ◌∙◌, ap}
use mathlib.Core.Logic.{◌⊎◌, inl, inr}
use mathlib.Core.List.{List}
use Prim.Native.Nat.{ℕ, suc, ◌+◌, ◌≤◌, ◌<◌}
use native.Mathlib.Omega.{arith}
use Rattle.basics.proofs.Order.{same_or_not, le_or_lt}
use Rattle.classes.specs.Class.{first_class}
use Rattle.layout.specs.declared.Geometry.{Geometry}
use Rattle.layout.specs.Geometry.{mutator_count}
use Rattle.layout.specs.Mem.{Mem, Sizes}
use Rattle.model.specs.Fields.{holding, tag, class, place, owner}
use Rattle.model.specs.Consistent.{SegmentOk, MutatorOk}
use Rattle.model_laws.proofs.Words.{Recorded, CountsStay, Untouched, untouched_same}
use Rattle.words.proofs.Counts.{lt_of}
use Rattle.model_laws.proofs.Segments.{in_range}
use Rattle.model_laws.proofs.Parted.{Stacks}
use Rattle.model.specs.Tag as Tag

-- what that asks of the memory: its segments, its mutators and its stacks are in order
pub record Releasable (g : Geometry) (m : Mem) : Type 0 where
  pub segments : (s : ℕ) → s < g.segments → SegmentOk g m s
  pub mutators : (k : ℕ) → k < mutator_count → MutatorOk g m k
  pub stacks : Stacks g m

-- a memory with other segments' records and stacks
abbrev pub with_records : Mem → List ℕ → List ℕ → Mem
with_records m segments stacks = record { control = m.control; mutators = m.mutators; heap = m.heap; segments = segments; stacks = stacks; bitmaps = m.bitmaps; marks = m.marks; trace = m.trace }

-- segment q was held by mutator k and is of one of the first n classes
abbrev pub Gone : Mem → ℕ → ℕ → ℕ → Type 0
Gone m k n q = (tag m q ≡ Tag.held) × (owner m q ≡ k) × (class m q < first_class + n)

pub gone? : (m : Mem) (k n q : ℕ) → Gone m k n q ⊎ (Gone m k n q → ⊥)
gone? m k n q = go (same_or_not (tag m q) Tag.held) (same_or_not (owner m q) k) (le_or_lt (first_class + n) (class m q))
  where
    go : (tag m q ≡ Tag.held) ⊎ (tag m q ≡ Tag.held → ⊥) → (owner m q ≡ k) ⊎ (owner m q ≡ k → ⊥) → (first_class + n ≤ class m q) ⊎ (class m q < first_class + n) → Gone m k n q ⊎ (Gone m k n q → ⊥)
    go (inl a) (inl b) (inr l) = inl (a, b, l)
    go (inl a) (inl b) (inl l) = inr (λ z. let y : class m q < first_class + n = z.2 in omega arith)
    go (inl a) (inr f) l = inr (λ z. f z.1)
    go (inr f) b l = inr (λ z. f z.0)

pub record Releasing (g : Geometry) (m m' : Mem) (k n : ℕ) : Type 0 where
  pub sizes : Sizes g m'
  pub frame : m' ≡ with_records m m'.segments m'.stacks
  pub gone : (q : ℕ) → Gone m k n q → Recorded m' q Tag.part (class m q) (place m q) 0
  pub stay : (q : ℕ) → (Gone m k n q → ⊥) → Untouched m m' q
  pub counts : (q : ℕ) → CountsStay m m' q
  pub stacks : Stacks g m'

module _ (g : Geometry) (m : Mem) (s : Sizes g m) (c : Releasable g m) where
  pub held_range : (q : ℕ) → tag m q ≡ Tag.held → q < g.segments
  held_range q e = in_range g m s q (λ z. omega arith)

  -- a mutator holds one segment of a class
  pub held_one : (q k d : ℕ) → tag m q ≡ Tag.held → owner m q ≡ k → class m q ≡ d → holding m k d ≡ suc q
  held_one q k d t o e = ap (λ x. holding m x d) (sym o) ∙ ap (holding m (owner m q)) (sym e) ∙ ((c.segments q (held_range q t)).held t).2

  module _ (k n : ℕ) where
    gone_more : (q : ℕ) → Gone m k (suc n) q → (class m q ≡ first_class + n → ⊥) → Gone m k n q
    gone_more q z f = let l : class m q < first_class + suc n = z.2 in (z.0, z.1, lt_of {k = class m q} {n = first_class + n} (omega arith) f)

    pub gone_less : (q : ℕ) → Gone m k n q → Gone m k (suc n) q
    gone_less q z = let l : class m q < first_class + n = z.2 in (z.0, z.1, omega arith)

    -- held of one class more, unless it is the one of that class
    pub gone_other : (q : ℕ) → Gone m k (suc n) q → (holding m k (first_class + n) ≡ suc q → ⊥) → Gone m k n q
    gone_other q z f = gone_more q z (λ e. f (held_one q k (first_class + n) z.0 z.1 e))

  pub releasing_none : (k : ℕ) → Releasing g m m k 0
  releasing_none k = record {
    sizes = s;
    frame = refl;
    gone = λ q z. let a = ((c.segments q (held_range q z.0)).classes (λ e. let y = z.0 in omega arith)).0 in let l : class m q < first_class + 0 = z.2 in absurd (omega arith);
    stay = λ q f. untouched_same m m q refl;
    counts = λ q. (untouched_same m m q refl).counts;
    stacks = c.stacks;
  }

  -- a class of which it holds none
  pub releasing_skip : (k n : ℕ) (m' : Mem) → Releasing g m m' k n → holding m k (first_class + n) ≡ 0 → Releasing g m m' k (suc n)
  releasing_skip k n m' h e = record {
    sizes = h.sizes;
    frame = h.frame;
    gone = λ q z. h.gone q (gone_other k n q z (λ y. omega arith));
    stay = λ q f. h.stay q (λ z. f (gone_less k n q z));
    counts = h.counts;
    stacks = h.stacks;
  }
