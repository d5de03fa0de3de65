-- The case holds, by computing the definitions.
use mathlib.Core.Path.{refl}
use Rattle.model_cases.specs.Replies.{replies, Holds}
use Rattle.model_pinned.specs.Handshakes.{handshakes}

pub handshakes_hold : Holds 2 handshakes
unfolding replies
handshakes_hold = refl
