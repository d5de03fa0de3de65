-- `bitmap_search::BitPtr::descend` meets its contract.
use mathlib.Core.Path.{ap, ◌∙◌}
use native.Mathlib.Omega.{arith}
use Rattle.std.specs.Prelude.{Ok, Some}
use Rattle.bitmap_search.specs.Pointer.{index_of}
use Rattle.bitmap_search.specs.Search.{some_next}
use Rattle.bitmap_search.proofs.Moves.{down_past, down_at, down_full}
use Rattle.bitmap_search.proofs.BitPtr.descend.Goals as goal

pub index-word-requires : goal.index-word-requires
index-word-requires c = let e = ap index_of c.at-up.ensures in omega arith

pub returns-then-words-word : goal.returns-then-words-word
returns-then-words-word c =
    let a = c.args in
    ap some_next (down_past a.s.now a.words a.self a.level c.index-word.result (c.index-word.ensures ∙ ap index_of c.at-up.ensures) c.if-words-word.true)

pub returns-then-bit-lt32 : goal.returns-then-bit-lt32
returns-then-bit-lt32 c =
    let a = c.args in
    ap (λ q. Ok (Some q)) c.with.ensures
    ∙ ap some_next (down_at a.s.now a.words a.self a.level c.index-word.result
    (c.index-word.ensures ∙ ap index_of c.at-up.ensures) c.if-words-word.false
    c.clear_from-bit.result c.clear_from-bit.ensures c.if-bit-lt32.true)

pub returns : goal.returns
returns c =
    let a = c.args in
    ap some_next (down_full a.s.now a.words a.self a.level c.index-word.result
    (c.index-word.ensures ∙ ap index_of c.at-up.ensures) c.if-words-word.false c.clear_from-bit.result
    c.clear_from-bit.ensures c.if-bit-lt32.false)
