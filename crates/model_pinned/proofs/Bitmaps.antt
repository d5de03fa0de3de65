-- The case holds, by computing the definitions.
use mathlib.Core.Path.{refl}
use Rattle.model_cases.specs.Replies.{replies, Holds}
use Rattle.model_pinned.specs.Bitmaps.{bitmaps}

pub bitmaps_hold : Holds 1 bitmaps
unfolding replies
bitmaps_hold = refl
