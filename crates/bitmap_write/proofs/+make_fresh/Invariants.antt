-- The measure of `bitmap_write::make_fresh`: the levels that are left to write.
use Rattle.bitmap_write.proofs.+make_fresh.Given as goal

abbrev pub decreases-make_fresh : goal.decreases-make_fresh
decreases-make_fresh l = l.above
