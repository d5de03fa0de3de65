-- The case holds, by computing the definitions.
use mathlib.Core.Path.{refl}
use Rattle.model_cases.specs.Replies.{replies, Holds}
use Rattle.model_pinned.specs.Sides.{sides}

pub sides_hold : Holds 1 sides
unfolding replies
sides_hold = refl
