-- `classes::segment_shape` meets its contract: its table passes the rule.
use mathlib.Core.Path.{◌∙◌}
use Rattle.classes.proofs.ShapeTable.{small_shaped}
use Rattle.classes.proofs.segment_shape.Goals as goal

pub returns : goal.returns
returns c = c.shape_of.ensures ∙ small_shaped c.args.class
