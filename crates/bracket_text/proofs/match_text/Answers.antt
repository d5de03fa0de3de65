-- `bracket_text::match_text` meets its contract: the part that it compares with is the template.
use Rattle.bracket_text.proofs.Fixed.{part_length, part_is}
use Rattle.bracket_text.proofs.match_text.Goals as goal

pub slice_bounds-match_template-end : goal.slice_bounds-match_template-end
slice_bounds-match_template-end c = part_length _ _ c.template_length-n.ensures

pub returns : goal.returns
returns c = rw (part_is _ _ c.template_length-n.ensures) at c.match_template.ensures
