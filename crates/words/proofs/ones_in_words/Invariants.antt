-- `words::ones_in_words` meets its contract.
use mathlib.Core.Path.{◌≡◌}
use Prim.Native.Nat.{◌*◌}
use Rattle.words.specs.Bits.{bit_at, ones_among}
use Rattle.words.proofs.ones_in_words.Given as goal

abbrev pub invariant-loop-w : goal.invariant-loop-w
invariant-loop-w l = l.total ≡ ones_among (bit_at l.s) (l.w-index * 32)
