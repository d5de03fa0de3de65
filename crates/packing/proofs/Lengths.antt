-- The length of a lent slice for a count of segments and their size.
use mathlib.Core.Path.{◌≡◌, refl, sym, ◌∙◌, ap}
use mathlib.Core.Bool.{Bool, true, false, true≢false}
use Prim.Native.Nat.{ℕ, ◌≤◌}
use lib.Dec.{ltb}
use borrow.Author.Tests.{ltb-false}
use Rattle.basics.specs.Pick.{pick}
use Rattle.layout.specs.declared.Geometry.{Geometry}
use Rattle.layout.specs.Geometry.{max_segments, IsSize, no_kib}
use Rattle.layout.proofs.Regions.{a_size}
use Rattle.packing.specs.Packed.{geometry_of, no_size, length_for}

-- what is left where neither is none
pub few : (n k : ℕ) → no_size n k ≡ false → (n ≤ max_segments) × IsSize k
few n k e = go (ltb n 1) e
  where
    on : (b : Bool) → ltb max_segments n ≡ b → pick b true (no_kib k) ≡ false → (n ≤ max_segments) × IsSize k
    on true h q = absurd (true≢false q)
    on false h q = (ltb-false max_segments n h, a_size k q)

    go : (b : Bool) → pick b true (pick (ltb max_segments n) true (no_kib k)) ≡ false → (n ≤ max_segments) × IsSize k
    go true q = absurd (true≢false q)
    go false q = on (ltb max_segments n) refl q

pub some : (n k : ℕ) → no_size n k ≡ false → 1 ≤ n
some n k e = go (ltb n 1) refl e
  where
    go : (b : Bool) → ltb n 1 ≡ b → pick b true (pick (ltb max_segments n) true (no_kib k)) ≡ false → 1 ≤ n
    go true h q = absurd (true≢false q)
    go false h q = ltb-false n 1 h

pub length-is : (words : Geometry → ℕ) (n k : ℕ) (g : Geometry) (r : ℕ) → no_size n k ≡ false → g ≡ geometry_of n k → r ≡ words g → r ≡ length_for words n k
length-is words n k g r c e z = z ∙ ap words e ∙ sym (ap (λ b. pick b 0 (words (geometry_of n k))) c)

pub no_length : (words : Geometry → ℕ) (n k : ℕ) → no_size n k ≡ true → 0 ≡ length_for words n k
no_length words n k c = sym (ap (λ b. pick b 0 (words (geometry_of n k))) c)
