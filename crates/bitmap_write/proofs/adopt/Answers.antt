-- `bitmap_write::adopt` meets its contract.
use mathlib.Core.Path.{ap, ◌∙◌}
use mathlib.Core.List.{List}
use native.Mathlib.Omega.{arith}
use Rattle.words.proofs.Trees.{words_in}
use Rattle.bitmap_write.specs.Completed.{completed, adopted}
use Rattle.bitmap_write.proofs.adopt.Goals as goal

pub gather-requires : goal.gather-requires
gather-requires c =
    let p = c.requires in
    (omega (arith, p.0, words_in c.args.above c.args.n), p.1, p.2, p.3, p.4)

pub complete-requires : goal.complete-requires
complete-requires c =
    omega (arith, c.requires.0, c.requires.1, c.gather.auto.s)

pub ones_among-requires : goal.ones_among-requires
ones_among-requires c =
    omega (arith, c.requires.0, c.requires.1, c.gather.auto.s, c.complete.auto.s, words_in c.args.above c.args.n)

pub returns : goal.returns
unfolding adopted
returns c =
    let a = c.args in
    record {
      s_after = c.complete.ensures ∙ ap (λ (l : List _). completed a.above a.n l) c.gather.ensures;
      ones = c.ones_among.ensures;
    }
