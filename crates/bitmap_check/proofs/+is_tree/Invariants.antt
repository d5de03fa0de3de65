use Rattle.bitmap_check.proofs.+is_tree.Given as goal

-- each call is one level up
abbrev pub decreases-is_tree : goal.decreases-is_tree
decreases-is_tree l = l.above
