-- One segment's record as the sheet tests it, decided; that its numbers fit a line; and that consistent memory's records pass, with the line that its
-- definition has.
use Prim.Native.Nat.{ℕ, ◌+◌, ◌-◌, ◌≤◌, ◌<◌}
use mathlib.Core.Path.{◌≡◌, refl, sym, ◌∙◌, ap}
use mathlib.Core.Logic.{◌⊎◌, inl, inr}
use mathlib.Core.Bool.{Bool, true, false}
use native.Mathlib.Omega.{arith}
use lib.Dec.{leb}
use lib.ListN.{length}
use borrow.Author.Tests.{leb-true, leb-false, eq-eqb, ne_eqb}
use Rattle.basics.specs.Decides.{Decides}
use Rattle.basics.specs.Pick.{pick}
use Rattle.basics.proofs.Deciding.{fails, refuted}
use Rattle.basics.proofs.Order.{same_or_not}
use Rattle.layout.specs.declared.Geometry.{Geometry}
use Rattle.layout.specs.Geometry.{blocks_in, max_segments}
use Rattle.layout.specs.Mem.{Mem}
use Rattle.layout.proofs.Sizes.{whole, most_small}
use Rattle.model.specs.Fields.{tag, class, kept_count, handed_count}
use Rattle.model.specs.Segments.{in_use}
use Rattle.model.specs.Consistent.{Consistent}
use Rattle.model.specs.Sheet.{free_line, used_line, line_by, line_of}
use Rattle.model.proofs.InUse.{counts_in_use}
use Rattle.model_laws.proofs.Segments.{in_use-le}
use Rattle.looks.specs.Plausible.{Plausible}
use Rattle.looks.proofs.Looking.{consistent_plausible}
use Rattle.sheet_line.specs.Fits.{Fits}
use Rattle.sheet_line.proofs.Columns.{free_long, used_long}
use Rattle.sheet.specs.Counted.{Counted, counted_line}
use Rattle.model.specs.Tag as Tag

module _ (g : Geometry) (m : Mem) (s : ℕ) where
  -- ---- the test

  pub no_record : (r : Bool) → Decides r (Plausible m s) → r ≡ false → Decides false (Counted g m s)
  no_record r d q = fails (λ k. refuted d q k.plausible)

  module _ (r : Bool) (d : Decides r (Plausible m s)) (q : r ≡ true) (t : ℕ) (p : t ≡ tag m s) where
    pub free_counted : t ≡ Tag.free → Decides true (Counted g m s)
    free_counted z = record { sound = λ _. record { plausible = d.sound q; counts = λ f. absurd (f (sym p ∙ z)) }; complete = λ _. refl }

    module _ (f : t ≡ Tag.free → ⊥) (c : ℕ) (e : c ≡ class m s) (b : ℕ) (u : b ≡ blocks_in g c) (k : ℕ) (v : k ≡ kept_count m s) where
      blocks : b ≡ blocks_in g (class m s)
      blocks = u ∙ ap (blocks_in g) e

      pub too_many_kept : b < k → Decides false (Counted g m s)
      too_many_kept l = fails (λ w. let h = w.counts (λ z. f (p ∙ z)) in let y = blocks in omega arith)

      pub by_counts : k ≤ b → (h : ℕ) → h ≡ handed_count m s → Decides (leb h (b - k)) (Counted g m s)
      by_counts l h w = go (leb h (b - k)) refl
        where
          go : (x : Bool) → leb h (b - k) ≡ x → Decides x (Counted g m s)
          go true y = record {
            sound = λ _. record { plausible = d.sound q; counts = λ _. omega (arith, leb-true h (b - k) y, blocks, l, v, w) };
            complete = λ _. refl;
          }
          go false y = fails (λ x. omega (arith, leb-false h (b - k) y, blocks, l, v, w, x.counts (λ z. f (p ∙ z))))

  -- ---- the line

  pub counted_fits : Counted g m s → s < max_segments → (tag m s ≡ Tag.free → ⊥) → Fits s (class m s) (kept_count m s + handed_count m s) (blocks_in g (class m s))
  counted_fits k l f =
      let c = k.plausible.classes f in
      let w = whole g (class m s) c in
      let most = w.most in
      record { number = omega arith; class = omega arith; within = k.counts f; some = w.some; few = let y = most_small g in omega arith }

  pub counted_free : tag m s ≡ Tag.free → counted_line g m s ≡ free_line s
  counted_free e = ap (λ t. pick t (free_line s) (used_line s (tag m s) (class m s) (kept_count m s + handed_count m s) (blocks_in g (class m s)))) (eq-eqb (tag m s) Tag.free e)

  pub counted_used : (tag m s ≡ Tag.free → ⊥) → counted_line g m s ≡ used_line s (tag m s) (class m s) (kept_count m s + handed_count m s) (blocks_in g (class m s))
  counted_used f = ap (λ t. pick t (free_line s) (used_line s (tag m s) (class m s) (kept_count m s + handed_count m s) (blocks_in g (class m s)))) (ne_eqb (tag m s) Tag.free f)

  -- "a line of 51 characters"
  pub counted_long : Counted g m s → s < max_segments → length (counted_line g m s) ≡ 51
  counted_long k l = go (same_or_not (tag m s) Tag.free)
    where
      go : (tag m s ≡ Tag.free) ⊎ (tag m s ≡ Tag.free → ⊥) → length (counted_line g m s) ≡ 51
      go (inl e) = ap length (counted_free e) ∙ free_long s (omega arith)
      go (inr f) = ap length (counted_used f) ∙ used_long s (tag m s) (class m s) (kept_count m s + handed_count m s) (blocks_in g (class m s)) (counted_fits k l f)

  -- the same of what the code read of the record
  module _ (t c u b : ℕ) (e : t ≡ tag m s) (f : c ≡ class m s) (v : u ≡ kept_count m s + handed_count m s) (w : b ≡ blocks_in g c) (n : t ≡ Tag.free → ⊥) where
    not_free : tag m s ≡ Tag.free → ⊥
    not_free z = n (e ∙ z)

    pub read_fits : Counted g m s → s < max_segments → Fits s c u b
    read_fits o l =
        let x = counted_fits o l not_free in
        let y = ap (blocks_in g) f in
        record { number = x.number; class = omega (arith, x.class); within = omega (arith, x.within); some = omega (arith, x.some); few = omega (arith, x.few) }

    pub read_line : used_line s t c u b ≡ counted_line g m s
    read_line =
        ap (λ z. used_line s z c u b) e ∙ ap (λ z. used_line s (tag m s) c u z) w ∙ ap (λ z. used_line s (tag m s) z u (blocks_in g z)) f
        ∙ ap (λ z. used_line s (tag m s) (class m s) z (blocks_in g (class m s))) v ∙ sym (counted_used not_free)

  -- ---- consistent memory

  module _ (c : Consistent g m) (l : s < g.segments) where
    in_use_is : in_use g m s ≡ kept_count m s + handed_count m s
    in_use_is = counts_in_use g m s (c.summed.counts s l) (c.sound.segments s l).classes

    pub consistent_counted : Counted g m s
    consistent_counted = record {
      plausible = consistent_plausible g m c s l;
      counts = λ f. omega (arith, in_use_is, in_use-le g m s);
    }

    -- the two counts add up to the blocks in use
    pub counted_is : counted_line g m s ≡ line_of g m s
    counted_is = ap (λ u. line_by s (tag m s) (class m s) u (blocks_in g (class m s))) (sym in_use_is)

pub all_counted_long : (g : Geometry) (m : Mem) → g.segments ≤ max_segments → ((s : ℕ) → s < g.segments → Counted g m s) → (s : ℕ) → s < g.segments → length (counted_line g m s) ≡ 51
all_counted_long g m h k s l = counted_long g m s (k s l) (omega arith)
