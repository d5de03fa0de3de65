-- `bitmap_write::complete` meets its contract.
use mathlib.Core.Path.{ap, ◌∙◌}
use mathlib.Core.List.{List}
use Prim.Native.Nat.{ℕ}
use native.Mathlib.Omega.{arith}
use Rattle.words.proofs.Trees.{words_in}
use Rattle.bitmap_write.specs.Rebuild.{rebuilt}
use Rattle.bitmap_write.specs.Completed.{completed}
use Rattle.bitmap_write.proofs.complete.Goals as goal

pub pad-requires : goal.pad-requires
pad-requires c = omega (arith, c.requires, words_in c.args.above c.args.n)

pub returns : goal.returns
unfolding completed
returns c =
    let a = c.args in
    c.rebuild.ensures ∙ ap (λ (l : List ℕ). rebuilt a.above a.n l) c.pad.ensures
