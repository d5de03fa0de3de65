-- The cycles over nothing hold, and their calls get the same replies in idle, by computing the definitions.
use mathlib.Core.Path.{refl}
use Rattle.model_cases.specs.Replies.{replies, Holds}
use Rattle.model_cycles.specs.EmptyCycles.{nobody, inside, unfilled, in_idle}

pub nobody_holds : Holds 1 nobody
unfolding replies
nobody_holds = refl

pub inside_holds : Holds 2 inside
unfolding replies
inside_holds = refl

pub inside_in_idle : Holds 2 (in_idle inside)
unfolding replies
inside_in_idle = refl

pub unfilled_holds : Holds 3 unfilled
unfolding replies
unfilled_holds = refl
