-- The whole case holds, by computing the definitions.
use mathlib.Core.Path.{refl}
use Rattle.model_cases.specs.Replies.{replies, Holds}
use Rattle.model_cases.specs.Whole.{whole}

pub whole_holds : Holds 2 whole
unfolding replies
whole_holds = refl
