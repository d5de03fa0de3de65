-- `bracket_text::template_length` meets its contract. The loop's invariant: the template's length is that among the bytes before the place.
use mathlib.Core.Path.{◌≡◌, ◌∙◌}
use native.Mathlib.Omega.{arith}
use Rattle.bracket_text.specs.Fixed.{length_from}
use Rattle.bracket_text.proofs.Fixed.{past_space, at_last_byte}
use Rattle.bracket_text.proofs.template_length.Goals as goal

pub returns-then-text-last-ne32 : goal.returns-then-text-last-ne32
returns-then-text-last-ne32 c =
    let k = c.loop-last in
    at_last_byte _ k.last c.loop-last-test.true c.if-text-last-ne32.true ∙ k.invariant

pub loop-last-preserved : goal.loop-last-preserved
loop-last-preserved c =
    let k = c.loop-last in
    past_space _ k.last c.loop-last-test.true c.if-text-last-ne32.false ∙ k.invariant

pub returns : goal.returns
unfolding length_from
returns c = let z : c.loop-last.last ≡ 0 = omega arith in rw z at c.loop-last.invariant
