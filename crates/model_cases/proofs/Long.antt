-- The cases of classes 13 and 14 hold, by computing the definitions.
use mathlib.Core.Path.{refl}
use Rattle.model_cases.specs.Replies.{replies, Holds}
use Rattle.model_cases.specs.Long.{long, long_detach}

pub long_holds : Holds 3 long
unfolding replies
long_holds = refl

pub long_detach-holds : Holds 3 long_detach
unfolding replies
long_detach-holds = refl
