-- `marks::count` meets its contract.
use mathlib.Core.Path.{refl}
use native.Mathlib.Omega.{arith}
use Rattle.layout.proofs.Sizes.{trace_most}
use Rattle.marks.proofs.Marking.{part_room, part_count}
use Rattle.marks.proofs.count.Goals as goal

pub overflow_cast-most : goal.overflow_cast-most
overflow_cast-most c =
    omega (arith, c.trace_words-most.ensures, trace_most c.args.g c.requires.few)

pub ones_among-requires : goal.ones_among-requires
ones_among-requires c =
    part_room c.args.g c.args.mem.now c.requires _ _ _ c.trace_words-most.ensures c.marks_from-a.ensures refl

pub returns : goal.returns
returns c =
    part_count c.args.g c.args.mem.now c.requires _ _ _ c.trace_words-most.ensures c.marks_from-a.ensures refl _
    c.ones_among.ensures
