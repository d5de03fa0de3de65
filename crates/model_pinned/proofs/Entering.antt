-- The case holds, by computing the definitions.
use mathlib.Core.Path.{refl}
use Rattle.model_cases.specs.Replies.{replies, Holds}
use Rattle.model_pinned.specs.Entering.{entering}

pub entering_holds : Holds 1 entering
unfolding replies
entering_holds = refl
