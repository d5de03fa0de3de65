-- `bitmaps::used_among` meets its contract.
use mathlib.Core.Path.{◌≡◌, sym}
use Prim.Native.Nat.{◌+◌, ◌-◌, ◌≤◌}
use native.Mathlib.Omega.{arith}
use Rattle.words.specs.Bits.{bit_at, ones_among}
use Rattle.words.proofs.Lists.{at_lt}
use Rattle.bitmaps.proofs.Used.{used_all, used_le, counted}
use Rattle.bitmaps.specs.Given.{used_bits}
use Rattle.bitmaps.proofs.used_among.Goals as goal

module _ (c : goal.After-ones_among-before) where
  count : (c.ones_among-before.result ≤ c.ones_among-all.result)
      × (c.args.place + (c.ones_among-all.result - c.ones_among-before.result) ≡ ones_among
      (used_bits (bit_at c.args.s.now) c.args.place)
      c.args.n)
  count =
      let x = c.args in
      counted (bit_at x.s.now) x.place x.n c.ones_among-all.result c.ones_among-before.result
      (omega (arith, c.if-n-place.false)) c.ones_among-all.ensures c.ones_among-before.ensures

pub returns-then-n-place : goal.returns-then-n-place
returns-then-n-place c =
    let x = c.args in
    sym (used_all (bit_at x.s.now) x.place x.n c.if-n-place.true)

pub overflow_sub-result : goal.overflow_sub-result
overflow_sub-result c = (count c).0

pub overflow_add-result : goal.overflow_add-result
overflow_add-result c =
    let x = c.args in
    omega (arith, (count c).1, used_le (bit_at x.s.now) x.place (at_lt x.s.now) x.n)

pub returns : goal.returns
returns c = (count c).1
