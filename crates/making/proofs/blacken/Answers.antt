-- `making::blacken` meets its contract.
use native.Mathlib.Omega.{arith}
use Rattle.layout.proofs.Sizes.{marks_words}
use Rattle.making.proofs.HandingOut.{born_black, born_white}
use Rattle.making.proofs.blacken.Goals as goal

pub set-requires : goal.set-requires
set-requires c =
    let w = marks_words c.args.g c.args.g.segments in
    (c.requires.0, omega (arith, c.requires.2))

pub returns-then-black : goal.returns-then-black
returns-then-black c =
    born_black _ _ _ _ _ _ _ c.phase-phase.ensures c.acks.ensures c.black.ensures c.if-black.true _ c.mark_bit.ensures _ c.set.ensures

pub returns : goal.returns
returns c = born_white _ _ _ _ _ _ _ c.phase-phase.ensures c.acks.ensures c.black.ensures c.if-black.false
