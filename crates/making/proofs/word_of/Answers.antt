-- `making::word_of` meets its contract.
use mathlib.Core.Path.{ap, ◌∙◌}
use Prim.Native.Nat.{ℕ, ◌+◌, ◌*◌}
use native.Mathlib.Omega.{arith}
use Rattle.layout.specs.Geometry.{segment_words}
use Rattle.making.proofs.Placing.{words_small, offset_is, offset_in}
use Rattle.making.proofs.word_of.Goals as goal

pub overflow_mul-block : goal.overflow_mul-block
overflow_mul-block c =
    let l = words_small c.args.g c.args.class c.args.b _ c.requires.1 c.block_words.ensures (omega arith) in
    omega arith

pub word_in-requires : goal.word_in-requires
word_in-requires c =
    (omega arith, c.requires.3, omega (arith, offset_in c.args.g c.args.class c.args.b _ c.requires.1 c.block_words.ensures))

pub returns : goal.returns
returns c =
    c.word_in.ensures
    ∙ ap (λ (z : ℕ). c.args.s * segment_words c.args.g + z) (c.offset_of-offset.ensures ∙ offset_is c.args.g c.args.class c.args.b _ c.requires.1 c.block_words.ensures)
