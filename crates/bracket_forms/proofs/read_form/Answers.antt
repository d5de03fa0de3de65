-- `bracket_forms::read_form` meets its contract. The loop's invariant: the texts of the kinds tried so far do not match.
use borrow.Author.Count.{below_more}
use native.Mathlib.Omega.{arith}
use Rattle.bracket_forms.proofs.Reader.{text_found, other_missed, missed}
use Rattle.bracket_forms.proofs.read_form.Goals as goal

pub returns-in-Some : goal.returns-in-Some
returns-in-Some c = text_found c.args.line.now c.loop-kind.kind _ (omega arith) c.in-Some.ensures

pub loop-kind-preserved : goal.loop-kind-preserved
loop-kind-preserved c = below_more _ _ c.loop-kind.invariant (other_missed c.loop-kind.kind _ c.in_default.ensures)

pub returns : goal.returns
returns c = missed _ (λ k h. c.loop-kind.invariant k (omega (arith, h)))
