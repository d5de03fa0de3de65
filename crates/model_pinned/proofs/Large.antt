-- The case of class 14 at 32 KiB, by computing the definitions.
use mathlib.Core.Path.{refl}
use Rattle.model_cases.specs.Replies.{replies}
use Rattle.model_pinned.specs.Large.{LastClass}

pub last_class : LastClass
unfolding replies
last_class = refl
