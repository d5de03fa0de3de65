-- The measure of `bitmap_write::rebuild`: the levels that are left to write.
use Rattle.bitmap_write.proofs.+rebuild.Given as goal

abbrev pub decreases-rebuild : goal.decreases-rebuild
decreases-rebuild l = l.above
