-- `examine_summed::tree_of` meets its contract.
use Rattle.classes.proofs.Shapes.{shape_levels_pos}
use Rattle.layout.specs.Geometry.{blocks_in}
use Rattle.layout.proofs.Sizes.{class_fits}
use Rattle.examine_summed.proofs.Shapes.{no_tree, past_room, past_tree}
use Rattle.examine_summed.proofs.tree_of.Goals as goal

pub returns-then-class-lt-FIRST_CLASS : goal.returns-then-class-lt-FIRST_CLASS
returns-then-class-lt-FIRST_CLASS c = no_tree _ _ c.requires.0 _ c.requires.1 _ c.if-class-lt-FIRST_CLASS.true

pub overflow_sub-shape : goal.overflow_sub-shape
overflow_sub-shape c =
    rw c.shape_in-shape.ensures (shape_levels_pos (blocks_in c.args.g c.args.class))

pub tree_at-requires : goal.tree_at-requires
tree_at-requires c =
    record {
      sized = c.requires;
      n_bound = rw c.shape_in-shape.ensures (class_fits _ _ (c.if-class-lt-FIRST_CLASS.false, c.if-class.true));
    }

pub returns-then-class : goal.returns-then-class
returns-then-class c = rw c.shape_in-shape.ensures at c.tree_at.ensures

pub tree_at-requires-2 : goal.tree_at-requires-2
tree_at-requires-2 c = record {
  sized = c.requires;
  n_bound = past_room _ _ c.if-class.false _ c.blocks_in.ensures;
}

pub returns : goal.returns
returns c = past_tree _ _ c.if-class.false _ c.blocks_in.ensures _ _ c.tree_at-2.ensures
