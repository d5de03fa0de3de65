-- `looks::copy` meets its contract. The loop's invariant: the words passed are copied.
use mathlib.Core.Path.{sym, ◌∙◌}
use native.Mathlib.Omega.{arith}
use lib.Seq.{ext_get_or}
use Rattle.model_laws.proofs.Lengths.{sizes_of}
use Rattle.looks.proofs.copy.Goals as goal

pub returns : goal.returns
returns c =
    ext_get_or 0 _ _ (c.loop-i.auto.output ∙ c.requires.1 ∙ sym (sizes_of _ _ c.requires.0).segments) (λ k j. c.loop-i.invariant k (omega arith))
