-- The bit of a record: where it has one, and that it is one of its region's.
use mathlib.Core.Path.{◌≡◌, refl, sym, ◌∙◌, ap}
use mathlib.Core.Bool.{Bool, true, false}
use Prim.Native.Nat.{ℕ, ◌*◌, ◌≤◌, ◌<◌}
use native.Mathlib.Omega.{arith}
use lib.Dec.{ltb}
use borrow.Author.Tests.{lt-ltb, le-ltb, ltb-true}
use Rattle.std.specs.Prelude.{Some, None}
use Rattle.std.proofs.lemmas.Option.{none-some}
use Rattle.basics.specs.Pick.{pick}
use Rattle.layout.specs.declared.Geometry.{Geometry}
use Rattle.layout.specs.Geometry.{most_blocks, len, mark_bit}
use Rattle.layout.proofs.Sizes.{marks_words}
use Rattle.marks.specs.Bits.{record_bit_at}
use Rattle.layout.specs.Region as Region

-- d is the number of the heap's words
module _ (g : Geometry) (at d : ℕ) (z : d ≡ len g Region.heap) where
  pub off_torn : d ≤ at → None ≡ record_bit_at g at
  unfolding record_bit_at
  off_torn l = rw (← z, le-ltb _ _ l)

  pub bit_at_lem : at < d → (k : ℕ) → k ≡ mark_bit at → Some k ≡ record_bit_at g at
  unfolding record_bit_at
  bit_at_lem l k u = ap Some u ∙ sym (rw (← z, lt-ltb _ _ l) refl)

-- ---- a bit is one of the region's

module _ (g : Geometry) (at : ℕ) (k : ℕ) (e : Some k ≡ record_bit_at g at) where
  -- its word lies in the heap
  pub bit_inside : at < len g Region.heap
  unfolding record_bit_at
  bit_inside = go (ltb at (len g Region.heap)) refl e
    where
      go : (a : Bool) → ltb at (len g Region.heap) ≡ a → Some k ≡ pick a (Some (mark_bit at)) None → at < len g Region.heap
      go true q e = ltb-true _ _ q
      go false q e = absurd (none-some k (sym e))

  bit_is : k ≡ mark_bit at
  unfolding record_bit_at
  bit_is = go (ltb at (len g Region.heap)) refl e
    where
      go : (a : Bool) → ltb at (len g Region.heap) ≡ a → Some k ≡ pick a (Some (mark_bit at)) None → k ≡ mark_bit at
      go true q e = cc
      go false q e = absurd (none-some k (sym e))

  pub bit_within : (k ≡ mark_bit at) × (k < g.segments * most_blocks g)
  bit_within = (bit_is, let i = bit_inside in let q = bit_is in let w = marks_words g g.segments in omega arith)
