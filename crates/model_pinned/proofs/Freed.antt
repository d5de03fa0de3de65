-- The case holds, by computing the definitions.
use mathlib.Core.Path.{refl}
use Rattle.model_cases.specs.Replies.{replies, Holds}
use Rattle.model_pinned.specs.Freed.{freed}

pub freed_holds : Holds 1 freed
unfolding replies
freed_holds = refl
