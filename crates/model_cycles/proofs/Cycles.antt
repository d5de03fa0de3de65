-- The cycles hold, by computing the definitions.
use mathlib.Core.Path.{refl}
use Rattle.model_cases.specs.Replies.{replies, Holds}
use Rattle.model_cycles.specs.Cycles.{cycle, barriers, mutators}

pub cycle_holds : Holds 1 cycle
unfolding replies
cycle_holds = refl

pub barriers_hold : Holds 1 barriers
unfolding replies
barriers_hold = refl

pub mutators_hold : Holds 2 mutators
unfolding replies
mutators_hold = refl
