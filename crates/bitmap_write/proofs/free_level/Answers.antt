-- `bitmap_write::free_level` meets its contract.
use mathlib.Core.Path.{ap, ◌∙◌}
use Prim.Native.Nat.{ℕ}
use Rattle.bitmap_write.specs.Completed.{padded, cleared}
use Rattle.bitmap_write.proofs.free_level.Goals as goal

pub returns : goal.returns
returns c =
    let a = c.args in
    c.pad.ensures ∙ ap (padded a.n) (c.clear_words.ensures ∙ ap (λ (m : ℕ). cleared m a.s.now) c.words_for.ensures)
