-- A call that names another count or the other size over the heap's own slice: the slice has not its length.
use mathlib.Core.Path.{◌≡◌, ap}
use mathlib.Core.Bool.{true, not}
use Prim.Native.Nat.{ℕ}
use lib.ListN.{length}
use Rattle.basics.specs.Pick.{pick}
use Rattle.layout.specs.declared.Geometry.{Geometry}
use Rattle.layout.specs.Geometry.{wrong_size}
use Rattle.layout.proofs.TwoSizes.{another_refused}
use Rattle.model.specs.Looks.{look_sized}
use Rattle.model.specs.Lists.{Event, mutator_call, start_call, step_call, opening_call, look_call, wrong_sizes}
use Rattle.guarantee.specs.OtherSize.{OtherSizeRefused}
use Rattle.guarantee.proofs.OnlyNumbers.{size_exactly_lem}

wrong_event : (v : Event) (g : Geometry) (n : ℕ) → wrong_size g n ≡ true → wrong_sizes v g n ≡ true
wrong_event (mutator_call c r) g n e = e
wrong_event (start_call r) g n e = e
wrong_event (step_call r) g n e = e
wrong_event (opening_call r) g n e = e
wrong_event (look_call l) g n e = ap (λ b. pick b true (not (look_sized g l))) e

pub other_size_refused : OtherSizeRefused
other_size_refused g e w f q =
    let z = size_exactly_lem e q in
    let one = z.whenever (wrong_event e.event e.geometry (length e.before) (another_refused g e.geometry (length e.before) w f)) in
    record { number = one; memory = z.memory one; lent = z.lent 1 one }
