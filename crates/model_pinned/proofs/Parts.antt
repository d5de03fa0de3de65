-- The case holds, by computing the definitions.
use mathlib.Core.Path.{refl}
use Rattle.model_cases.specs.Replies.{replies, Holds}
use Rattle.model_pinned.specs.Parts.{parts}

pub parts_hold : Holds 2 parts
unfolding replies
parts_hold = refl
