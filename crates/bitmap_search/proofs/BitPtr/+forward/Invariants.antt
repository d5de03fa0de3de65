use Rattle.bitmap_search.proofs.BitPtr.+forward.Given as goal

-- each call is one level up
abbrev pub decreases-forward : goal.decreases-forward
decreases-forward l = l.above
