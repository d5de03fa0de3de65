-- What a start does, segment by segment, class by class and mutator by mutator, and what the whole comes to.
use mathlib.Core.Path.{◌≡◌, refl, sym, ◌∙◌, ap}
use mathlib.Core.Bool.{Bool, true, false, ◌||◌}
use Prim.Native.Nat.{ℕ, zero, suc, ◌+◌, ◌≤◌}
use native.Mathlib.Numerals.{add-one}
use native.Mathlib.Omega.{arith}
use lib.Dec.{eqb}
use lib.ListN.{replicate}
use Rattle.basics.specs.Pick.{pick}
use Rattle.classes.specs.Class.{first_class, class_count}
use Rattle.layout.specs.declared.Geometry.{Geometry}
use Rattle.layout.specs.Geometry.{mutator_count}
use Rattle.layout.specs.Mem.{Mem, Sizes, with_region, clear_region, set_control}
use Rattle.model.specs.Fields.{set_tag, set_acks}
use Rattle.model.specs.Segments.{part_stack, emptied}
use Rattle.model.specs.Collector.{collects, condemned, parts_emptied, acks_reset, started}
use Rattle.model.proofs.Collecting.{collects_is}
use Rattle.model_laws.proofs.Words.{Untouched, untouched_same, untouched_then, tag_other}
use Rattle.model_laws.proofs.Operations.{sizes_condemned, sizes_emptied, sizes_reset}
use Rattle.layout.specs.Region as Region
use Rattle.model.specs.Tag as Tag

-- ---- segments, in number order

-- whether a start condemns a segment is read from its record
collects_as : (m m' : Mem) (s : ℕ) → Untouched m m' s → collects m' s ≡ collects m s
collects_as m m' s r = collects_is m' s ∙ ap (λ t. eqb t Tag.full || eqb t Tag.part) r.tag ∙ sym (collects_is m s)

-- the records of those still to come are as before
still : (m : Mem) (n s : ℕ) → n ≤ s → Untouched m (condemned m n) s
unfolding condemned
still m zero s l = untouched_same m m s refl
still m (suc n) s l = go (collects m n) (still m n s (omega arith))
  where
    go : (b : Bool) → Untouched m (condemned m n) s → Untouched m (pick b (set_tag (condemned m n) n Tag.condemned) (condemned m n)) s
    go true r = untouched_then r (tag_other (condemned m n) n Tag.condemned s (λ e. omega arith))
    go false r = r

pub condemned_none : (m : Mem) → condemned m 0 ≡ m
unfolding condemned
condemned_none m = refl

-- one more
pub condemned_next : (m : Mem) (s : ℕ) → condemned m (s + 1) ≡ pick (collects (condemned m s) s) (set_tag (condemned m s) s Tag.condemned) (condemned m s)
unfolding condemned
condemned_next m s = rw (add-one, collects_as m (condemned m s) s (still m s s (omega arith)))

-- ---- part stacks, by class

pub emptied_none : (g : Geometry) (m : Mem) → parts_emptied g m 0 ≡ m
unfolding parts_emptied
emptied_none g m = refl

pub emptied_next : (g : Geometry) (m : Mem) (n : ℕ) → parts_emptied g m (n + 1) ≡ emptied g (parts_emptied g m n) (part_stack (first_class + n))
unfolding parts_emptied
emptied_next g m n = rw add-one

-- ---- mutators, in number order

pub reset_none : (m : Mem) → acks_reset m 0 ≡ m
unfolding acks_reset
reset_none m = refl

pub reset_next : (m : Mem) (k : ℕ) → acks_reset m (k + 1) ≡ set_acks (acks_reset m k) k 0
unfolding acks_reset
reset_next m k = rw (add-one k)

-- ---- the whole

pub started_by : (g : Geometry) (m : Mem) → Sizes g m → (m₁ m₂ m₃ m₄ m₅ m₆ : Mem) → m₁ ≡ condemned m g.segments → m₂ ≡ parts_emptied g m₁ class_count
    → m₃ ≡ acks_reset m₂ mutator_count → m₄ ≡ clear_region g m₃ Region.marks → m₅ ≡ set_control m₄ 2 0 → m₆ ≡ set_control m₅ 0 1 → m₆ ≡ started g m
unfolding started clear_region
started_by g m z m₁ m₂ m₃ m₄ m₅ m₆ e₁ e₂ e₃ e₄ e₅ e₆ =
    let n : Mem = parts_emptied g (condemned m g.segments) class_count in
    let m₀ : Mem = acks_reset n mutator_count in
    let y : Sizes g m₀ = sizes_reset g n (sizes_emptied g (condemned m g.segments) (sizes_condemned g m z g.segments) class_count) mutator_count in
    let f : m₂ ≡ n = e₂ ∙ ap (λ x. parts_emptied g x class_count) e₁ in
    let h : m₃ ≡ m₀ = e₃ ∙ ap (λ x. acks_reset x mutator_count) f in
    e₆
    ∙ ap (λ x. set_control x 0 1)
    (e₅ ∙ ap (λ x. set_control x 2 0) (e₄ ∙ ap (λ x. clear_region g x Region.marks) h ∙ ap (λ k. with_region m₀ Region.marks (replicate k 0)) (sym y.marks)))
