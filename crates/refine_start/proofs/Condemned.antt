-- What condemning changes: the tag of every segment that a start collects, and no other word of the memory.
use mathlib.Core.Path.{◌≡◌, refl, sym, ◌∙◌, ap, subst}
use mathlib.Core.Logic.{◌⊎◌, inl, inr}
use mathlib.Core.Bool.{Bool, true, false}
use Prim.Native.Nat.{ℕ, zero, suc, ◌≤◌, ◌<◌}
use native.Mathlib.Omega.{arith}
use lib.ListN.{get_or-eq_default}
use Rattle.basics.specs.Pick.{pick}
use Rattle.basics.proofs.Order.{le_or_lt, same_or_not}
use Rattle.layout.specs.declared.Geometry.{Geometry}
use Rattle.layout.specs.Mem.{Mem, Sizes}
use Rattle.model.specs.Fields.{tag, set_tag}
use Rattle.model.specs.Collector.{collects, condemned}
use Rattle.model.proofs.Collecting.{other_spared}
use Rattle.model_laws.proofs.Words.{Retagged, Untouched, untouched_same, untouched_then, retagged_then, retagged_to, OtherRegions, tag_others, tag_there, tag_other}
use Rattle.words.proofs.Counts.{lt_of}
use Rattle.model_laws.proofs.Operations.{sizes_condemned}
use Rattle.model.specs.Tag as Tag

-- ---- the other regions

others_then : (a b c : Mem) → OtherRegions a b → OtherRegions b c → OtherRegions a c
others_then a b c p q = record {
  control = q.control ∙ p.control;
  mutators = q.mutators ∙ p.mutators;
  stacks = q.stacks ∙ p.stacks;
  bitmaps = q.bitmaps ∙ p.bitmaps;
  marks = q.marks ∙ p.marks;
  trace = q.trace ∙ p.trace;
  heap = q.heap ∙ p.heap;
}

pub others_condemned : (m : Mem) (n : ℕ) → OtherRegions m (condemned m n)
unfolding condemned
others_condemned m zero = record { control = refl; mutators = refl; stacks = refl; bitmaps = refl; marks = refl; trace = refl; heap = refl }
others_condemned m (suc s) = go (collects m s) (others_condemned m s)
  where
    go : (b : Bool) → OtherRegions m (condemned m s) → OtherRegions m (pick b (set_tag (condemned m s) s Tag.condemned) (condemned m s))
    go true ih = others_then m (condemned m s) _ ih (tag_others (condemned m s) s Tag.condemned)
    go false ih = ih

-- ---- the segments' records

-- the tag of a segment once those that a start collects are condemned
abbrev pub tag_after : Mem → ℕ → ℕ
tag_after m s = pick (collects m s) Tag.condemned (tag m s)

abbrev pub After : Mem → Mem → ℕ → Type 0
After m m' x = Retagged m m' x (tag_after m x)

-- what a start does not collect is as before
not_collected : (m m' : Mem) (x : ℕ) → collects m x ≡ false → Untouched m m' x → After m m' x
not_collected m m' x e o = retagged_to o (sym (ap (λ b. pick b Tag.condemned (tag m x)) e))

module _ (g : Geometry) (m : Mem) (z : Sizes g m) where
  -- below n condemned, from n on as before
  below_from : (n : ℕ) → n ≤ g.segments → (x : ℕ) → (x < n → After m (condemned m n) x) × (n ≤ x → Untouched m (condemned m n) x)
  unfolding condemned
  below_from zero h x = (λ l. absurd (omega arith), λ l. untouched_same m m x refl)
  below_from (suc s) h x = go (collects m s) refl (same_or_not x s) (below_from s (omega arith) x)
    where
      here : collects m s ≡ true → Untouched m (condemned m s) s → After m (set_tag (condemned m s) s Tag.condemned) s
      here e o =
          let l = (sizes_condemned g m z s).segments in
          retagged_to (retagged_then o (tag_there (condemned m s) s Tag.condemned (omega arith))) (sym (ap (λ b. pick b Tag.condemned (tag m s)) e))

      go : (b : Bool) → collects m s ≡ b → (x ≡ s) ⊎ (x ≡ s → ⊥) → (x < s → After m (condemned m s) x) × (s ≤ x → Untouched m (condemned m s) x)
          → (x < suc s → After m (pick b (set_tag (condemned m s) s Tag.condemned) (condemned m s)) x) × (suc s ≤ x → Untouched m (pick b (set_tag (condemned m s) s Tag.condemned) (condemned m s)) x)
      go true e (inl q) ih = (λ l. subst (After m (set_tag (condemned m s) s Tag.condemned)) (sym q) (here e (subst (Untouched m (condemned m s)) q (ih.1 (omega arith)))), λ l. absurd (omega arith))
      go true e (inr q) ih =
          let o = tag_other (condemned m s) s Tag.condemned x q in
          (λ l. untouched_then (ih.0 (lt_of l q)) o, λ l. untouched_then (ih.1 (omega arith)) o)
      go false e (inl q) ih = (λ l. not_collected m (condemned m s) x (ap (collects m) q ∙ e) (ih.1 (omega arith)), λ l. absurd (omega arith))
      go false e (inr q) ih = (λ l. ih.0 (lt_of l q), λ l. ih.1 (omega arith))

  -- every segment; past the last one the words are 0 before and after
  pub segments_condemned : (x : ℕ) → After m (condemned m g.segments) x
  segments_condemned x = go (le_or_lt g.segments x)
    where
      go : (g.segments ≤ x) ⊎ (x < g.segments) → After m (condemned m g.segments) x
      go (inr l) = (below_from g.segments (omega arith) x).0 l
      go (inl l) =
          let y = z.segments in
          let t : tag m x ≡ Tag.free = get_or-eq_default m.segments 0 (omega arith) in
          not_collected m (condemned m g.segments) x (other_spared m x (λ e. omega arith) (λ e. omega arith)) ((below_from g.segments (omega arith) x).1 l)
