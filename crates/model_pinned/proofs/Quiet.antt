-- The case holds, by computing the definitions.
use mathlib.Core.Path.{refl}
use Rattle.model_cases.specs.Replies.{replies, Holds}
use Rattle.model_pinned.specs.Quiet.{quiet}

pub quiet_holds : Holds 2 quiet
unfolding replies
quiet_holds = refl
