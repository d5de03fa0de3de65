-- `classes::large_shape` meets its contract: its table passes the rule.
use mathlib.Core.Path.{◌∙◌}
use Rattle.classes.proofs.ShapeTable.{large_shaped}
use Rattle.classes.proofs.large_shape.Goals as goal

pub returns : goal.returns
returns c = c.shape_of.ensures ∙ large_shaped c.args.class
