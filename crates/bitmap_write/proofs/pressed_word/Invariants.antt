-- `bitmap_write::pressed_word` meets its contract. The loop's invariant: the word of the bits of the words passed.
use mathlib.Core.Path.{◌≡◌}
use lib.ListN.{drop}
use Rattle.bitmap_write.proofs.Pressed.{parts}
use Rattle.bitmap_write.proofs.pressed_word.Given as goal

abbrev pub invariant-loop-k : goal.invariant-loop-k
invariant-loop-k l = l.w ≡ parts (drop l.from l.s) l.n l.step l.count l.j l.k
