-- The case of the two counts holds, by computing the definitions.
use mathlib.Core.Path.{refl}
use Rattle.model_cases.specs.Replies.{replies, Holds}
use Rattle.model_cases.specs.Counted.{counted}

pub counted_holds : Holds 4 counted
unfolding replies
counted_holds = refl
