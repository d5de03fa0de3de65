-- `bitmap_write::full_bit` meets its contract.
use mathlib.Core.Path.{◌≡◌, refl, sym, ◌∙◌}
use mathlib.Core.Bool.{Bool, true, false}
use mathlib.Core.List.{List}
use Prim.Native.Nat.{ℕ, ◌<◌}
use mir.Val.{bool_byte}
use lib.Dec.{eqb}
use lib.ListN.{get_or}
use borrow.Author.Tests.{eqb-true}
use Rattle.words.specs.Tree.{all_ones}
use Rattle.bitmap_write.specs.Rebuild.{full_bit}
use Rattle.bitmap_write.proofs.Packed.{full_in, full_not}
use Rattle.bitmap_write.proofs.full_bit.Goals as goal

tested : (ws : List ℕ) (m k : ℕ) → k < m → bool_byte (eqb (get_or ws k 0) all_ones) ≡ full_bit ws m k
tested ws m k h = go (eqb (get_or ws k 0) all_ones) refl
  where
    go : (t : Bool) → eqb (get_or ws k 0) all_ones ≡ t → bool_byte t ≡ full_bit ws m k
    go true e = sym (full_in ws m k h (eqb-true _ _ e))
    go false e = sym (full_not ws m k h e)

pub returns : goal.returns
returns c = c.from.ensures ∙ tested c.args.s.now c.args.m c.args.k c.requires.0
