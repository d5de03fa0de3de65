-- The cases of the stacks hold, by computing the definitions.
use mathlib.Core.Path.{refl}
use Rattle.model_cases.specs.Replies.{replies, Holds}
use Rattle.model_cases.specs.Stacks.{stacks, fills}

pub stacks_hold : Holds 2 stacks
unfolding replies
stacks_hold = refl

pub fills_hold : Holds 2 fills
unfolding replies
fills_hold = refl
