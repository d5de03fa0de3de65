-- Every refusal of the table is given, by computing the definitions.
use mathlib.Core.Path.{refl}
use Rattle.model_cases.specs.Replies.{replies, Holds}
use Rattle.model_cases.specs.Refusals.{refusals}

pub refusals_hold : Holds 1 refusals
unfolding replies
refusals_hold = refl
