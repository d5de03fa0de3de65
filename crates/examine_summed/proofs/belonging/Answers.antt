-- `examine_summed::belonging` meets its contract. The loop's invariant: the segments passed that belong on the stack are counted.
use mathlib.Core.Path.{◌≡◌, sym, ap, ◌∙◌}
use native.Mathlib.Omega.{arith}
use Rattle.words.specs.Bits.{ones_among}
use Rattle.layout.specs.Mem.{mem_of}
use Rattle.examine_summed.specs.Stacked.{on_stack}
use Rattle.examine_summed.proofs.Entering.{ones_none, ones_one, ones_same, ones_most}
use Rattle.examine_summed.proofs.belonging.Goals as goal
use Rattle.examine_summed.proofs.belonging.Goals.{then-belongs, else-belongs}

pub loop-s-init : goal.loop-s-init
loop-s-init c = ones_none _

pub overflow_add-k : goal.overflow_add-k
overflow_add-k c = omega (arith, ones_most (on_stack (mem_of c.args.g c.args.mem.now) c.args.t) _ _ c.loop-s.invariant, c.requires.0.few)

pub loop-s-preserved : goal.loop-s-preserved
loop-s-preserved c =
    let test = on_stack (mem_of c.args.g c.args.mem.now) c.args.t in
    elim c.if-belongs.branch [
      | then-belongs w ↦ w.k-is ∙ ones_one test _ _ c.loop-s.invariant (sym c.belongs.ensures ∙ w.if-belongs.true)
      | else-belongs w ↦ w.k-is ∙ ones_same test _ _ c.loop-s.invariant (sym c.belongs.ensures ∙ w.if-belongs.false)
    ]

pub returns : goal.returns
returns c = let e : c.loop-s.s ≡ c.args.g.segments = omega arith in c.loop-s.invariant ∙ ap (ones_among _) e
