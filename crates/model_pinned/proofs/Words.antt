-- The case holds, by computing the definitions.
use mathlib.Core.Path.{refl}
use Rattle.model_cases.specs.Replies.{replies, Holds}
use Rattle.model_pinned.specs.Words.{written}

pub written_hold : Holds 2 written
unfolding replies
written_hold = refl
