-- `bracket_text::write_text` meets its contract: the part that it writes from is the template.
use Rattle.bracket_text.proofs.Fixed.{part_length, part_is}
use Rattle.bracket_text.proofs.write_text.Goals as goal

pub slice_bounds-write_template-end : goal.slice_bounds-write_template-end
slice_bounds-write_template-end c = part_length _ _ c.template_length-n.ensures

pub write_template-requires : goal.write_template-requires
write_template-requires c =
    rw (part_is _ _ c.template_length-n.ensures) c.requires

pub returns : goal.returns
returns c =
    rw (part_is _ _ c.template_length-n.ensures) at c.write_template.ensures
