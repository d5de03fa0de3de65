-- `decimals::digit_count` meets its contract.
use mathlib.Core.Path.{sym}
use native.Mathlib.Omega.{arith}
use Rattle.decimals.proofs.Digits.{small_length, counted}
use Rattle.decimals.proofs.digit_count.Goals as goal

pub returns-then-n-lt10 : goal.returns-then-n-lt10
returns-then-n-lt10 c = sym (small_length _ c.if-n-lt10.true)

pub returns-then-n-lt100 : goal.returns-then-n-lt100
returns-then-n-lt100 c = sym (counted 1 _ c.if-n-lt10.false c.if-n-lt100.true (omega arith))

pub returns-then-n-lt1000 : goal.returns-then-n-lt1000
returns-then-n-lt1000 c = sym (counted 2 _ c.if-n-lt100.false c.if-n-lt1000.true (omega arith))

pub returns : goal.returns
returns c = sym (counted 3 _ c.if-n-lt1000.false c.requires (omega arith))
