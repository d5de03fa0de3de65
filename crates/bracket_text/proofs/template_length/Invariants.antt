-- `bracket_text::template_length` meets its contract. The loop's invariant: the template's length is that among the bytes before the place.
use mathlib.Core.Path.{◌≡◌}
use lib.ListN.{length}
use Rattle.bracket_text.specs.Fixed.{length_from}
use Rattle.bracket_text.proofs.template_length.Given as goal

abbrev pub invariant-loop-last : goal.invariant-loop-last
invariant-loop-last l = length_from l.text l.last ≡ length_from l.text (length l.text)
