-- `bitmap_write::clear_words` meets its contract.
use mathlib.Core.Path.{ap, ◌∙◌}
use mathlib.Core.List.{List, ◌++◌}
use Prim.Native.Nat.{ℕ}
use lib.ListN.{drop, replicate}
use lib.Seq.{length-take-le}
use Rattle.bitmap_write.specs.Completed.{cleared}
use Rattle.bitmap_write.proofs.clear_words.Goals as goal

pub returns : goal.returns
unfolding cleared
returns c =
    let a = c.args in
    ap (λ (x : List ℕ). x ++ drop a.m a.s.now) (c.fill.ensures.after (λ y e. e) ∙ ap (λ (k : ℕ). replicate k 0) (length-take-le a.m a.s.now c.requires))
