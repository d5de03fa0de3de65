-- `words::clear_from` meets its contract.
use Prim.Native.Nat.{◌^◌, ◌<◌}
use native.Mathlib.Nat.{lt_of_le_of_lt, pos_of_ne-zero}
use native.Mathlib.Omega.{arith}
use lib.Pow.{shr_le}
use Rattle.words.proofs.Clear.{rest, none_clear, some_clear_lem, clear_lt}
use Rattle.words.proofs.clear_from.Goals as goal

module _ (c : goal.Else-rest-eq0) where
  some : 0 < rest c.args.w c.args.i
  some = pos_of_ne-zero c.if-rest-eq0.false

  small : rest c.args.w c.args.i < 2 ^ 32
  small = lt_of_le_of_lt (shr_le _ c.args.i) (omega arith)

pub overflow_add-result : goal.overflow_add-result
overflow_add-result c = omega (arith, clear_lt c.args.w c.args.i (omega arith) c.requires (some c) (small c))

pub returns-then-rest-eq0 : goal.returns-then-rest-eq0
returns-then-rest-eq0 c = none_clear c.args.w c.args.i (omega arith) c.requires c.if-rest-eq0.true

pub returns-else-rest-eq0 : goal.returns-else-rest-eq0
returns-else-rest-eq0 c = some_clear_lem c.args.w c.args.i (omega arith) c.requires (some c) (small c)
