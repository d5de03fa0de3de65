-- The case holds, by computing the definitions.
use mathlib.Core.Path.{refl}
use Rattle.model_cases.specs.Replies.{replies, Holds}
use Rattle.model_pinned.specs.Orders.{orders}

pub orders_hold : Holds 1 orders
unfolding replies
orders_hold = refl
