-- The cycles over part segments hold, by computing the definitions.
use mathlib.Core.Path.{refl}
use Rattle.model_cases.specs.Replies.{replies, Holds}
use Rattle.model_cycles.specs.PartCycles.{long_after_short, swept_to_part, part_in_cycle}

pub long_after_short-holds : Holds 1 long_after_short
unfolding replies
long_after_short-holds = refl

pub swept_to_part-holds : Holds 3 swept_to_part
unfolding replies
swept_to_part-holds = refl

pub part_in_cycle-holds : Holds 2 part_in_cycle
unfolding replies
part_in_cycle-holds = refl
