-- `bitmap_search::BitPtr::climb` meets its contract.
use mathlib.Core.Path.{ap, ◌∙◌}
use Prim.Native.Nat.{◌+◌}
use native.Mathlib.Omega.{arith}
use Rattle.bitmap_search.specs.declared.BitPos.{BitPos}
use Rattle.bitmap_search.specs.Pointer.{aimed}
use Rattle.bitmap_search.specs.Search.{climbed}
use Rattle.bitmap_search.proofs.BitPtr.climb.Goals as goal

pub overflow_add-at : goal.overflow_add-at
overflow_add-at c = let e = ap (λ (x : BitPos). x.word) c.at-at.ensures in omega arith

pub returns : goal.returns
unfolding climbed
returns c = c.aim.ensures ∙ ap (λ (x : BitPos). aimed c.args.self (c.args.level + 1) (x.word + 1)) c.at-at.ensures
