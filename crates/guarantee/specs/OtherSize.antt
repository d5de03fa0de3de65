-- Request No. 6: "Each call names 16 or 32 KiB for the whole heap beside the segment count": what a call gets that names another count or the other
-- size over the heap's own slice, whatever that slice holds.
use Rattle.std.specs.Prelude.{◌≡◌, false, length}
use Rattle.std.proofs.Math.Option.{some}
use Rattle.layout.specs.declared.Geometry.{Geometry}
use Rattle.layout.specs.Geometry.{wrong_size}
use Rattle.model.specs.Lists.{Element, Meets, number_of}
use Rattle.guarantee.specs.Keeping.{LentStays}

-- "Turned away: 1": it is refused, and neither the memory nor what else it was lent changes
pub record TurnedAway (e : Element) : Type 0 where
  pub number : number_of e ≡ some 1
  pub memory : e.after ≡ e.before
  pub lent : LentStays e.event

abbrev pub OtherSizeRefused : Type 0
OtherSizeRefused =
    (g : Geometry) (e : Element) → wrong_size g (length e.before) ≡ false → (e.geometry ≡ g → ⊥) → Meets e → TurnedAway e
