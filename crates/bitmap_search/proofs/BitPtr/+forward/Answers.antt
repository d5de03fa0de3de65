-- `bitmap_search::BitPtr::forward` meets its contract.
use Rattle.std.specs.Prelude.{Ok, Some, None}
use mathlib.Core.Path.{sym, ap, ◌∙◌}
use Prim.Native.Nat.{◌+◌, ◌-◌}
use native.Mathlib.Nat.{pos_of_ne-zero}
use native.Mathlib.Omega.{arith}
use lib.ListN.{drop}
use Rattle.bitmap_search.specs.declared.BitPtr.{BitPtr}
use Rattle.bitmap_search.specs.Pointer.{pos_at}
use Rattle.bitmap_search.specs.Search.{climbed, torn, next_of}
use Rattle.bitmap_search.proofs.Forward.{climbed_small}
use Rattle.bitmap_search.proofs.Moves.{handed_on, handed_bound, ahead_past, ahead_at, ahead_none, way_down}
use Rattle.words.specs.Levels.{words_for}
use Rattle.words.proofs.Trees.{words_in, room_behind}
use Rattle.bitmap_search.specs.declared.BitPos.{BitPos}
use Rattle.bitmap_search.proofs.BitPtr.+forward.Goals as goal

pub returns-then-words-word : goal.returns-then-words-word
returns-then-words-word t c =
    let a = c.args in
    ahead_past a.above a.s.now a.n a.self a.level c.at-at.result c.at-at.ensures (omega (arith, c.words_for-words.ensures, c.if-words-word.true))

pub offset_bounds-s-word : goal.offset_bounds-s-word
offset_bounds-s-word t c =
    omega (arith, c.if-words-word.false, c.words_for-words.ensures, c.requires.n_in_bounds.0, words_in c.args.above c.args.n)

pub bounds-s-word : goal.bounds-s-word
bounds-s-word t c =
    omega (arith, c.if-words-word.false, c.words_for-words.ensures, c.requires.n_in_bounds.0, words_in c.args.above c.args.n)

pub clear_from-bit-requires : goal.clear_from-bit-requires
clear_from-bit-requires t c =
    let e = ap (λ (x : BitPos). x.bit) c.at-at.ensures in
    omega (arith, c.requires.level_bound)

pub returns-then-bit-lt32 : goal.returns-then-bit-lt32
returns-then-bit-lt32 t c =
    let a = c.args in
    ap (λ q. Ok (Some q)) c.with.ensures
    ∙ ahead_at a.above a.s.now a.n a.self a.level c.at-at.result c.at-at.ensures
    (omega (arith, c.words_for-words.ensures, c.if-words-word.false)) c.clear_from-bit.result
    c.clear_from-bit.ensures c.if-bit-lt32.true

pub returns-then-above-eq0 : goal.returns-then-above-eq0
returns-then-above-eq0 t c =
    let a = c.args in
    ahead_none a.above a.s.now a.n a.self a.level c.at-at.result c.at-at.ensures
    (omega (arith, c.words_for-words.ensures, c.if-words-word.false)) c.clear_from-bit.result
    c.clear_from-bit.ensures c.if-bit-lt32.false c.if-above-eq0.true

pub climb-up-requires : goal.climb-up-requires
climb-up-requires t c =
    let e = ap (λ (x : BitPos). x.word) c.at-at.ensures in
    omega (arith, c.if-words-word.false, c.words_for-words.ensures, c.requires.n_in_bounds.1, pos_of_ne-zero c.if-above-eq0.false)

pub offset_bounds-s-words : goal.offset_bounds-s-words
offset_bounds-s-words t c =
    omega (arith, c.words_for-words.ensures)

pub slice_bounds-forward-count : goal.slice_bounds-forward-count
slice_bounds-forward-count t c =
    omega (arith, c.words_for-words.ensures, c.requires.n_in_bounds.0, words_in c.args.above c.args.n)

pub slice_bounds-forward-start : goal.slice_bounds-forward-start
slice_bounds-forward-start t c =
    omega (arith, c.words_for-words.ensures, c.requires.n_in_bounds.0, words_in c.args.above c.args.n)

pub overflow_sub-above : goal.overflow_sub-above
overflow_sub-above t c = pos_of_ne-zero c.if-above-eq0.false

pub overflow_add-level : goal.overflow_add-level
overflow_add-level t c =
    omega (arith, c.requires.n_in_bounds.1, pos_of_ne-zero c.if-above-eq0.false)

pub forward-requires : goal.forward-requires
forward-requires t c =
    let a = c.args in
    let some_above = pos_of_ne-zero c.if-above-eq0.false in
    let bit = ap (λ (x : BitPtr). (pos_at x (a.level + 1)).bit) c.climb-up.ensures in (
      omega arith,
      (
        (room_behind a.above a.n c.words_for-words.result a.s.now some_above c.words_for-words.ensures c.requires.n_in_bounds.0, omega arith),
        omega (arith, climbed_small a.self a.level),
      ),
    )

pub descend-requires : goal.descend-requires
descend-requires t c =
    let a = c.args in
    let h = handed_bound (a.above - 1) (drop (words_for a.n) a.s.now) (words_for a.n) (climbed a.self a.level) c.in-At.q (a.level + 1)
    (handed_on (a.above - 1) a.s.now (words_for a.n) a.level c.words_for-words.result a.self c.climb-up.result (Ok (Some c.in-At.q)) c.words_for-words.ensures
    c.climb-up.ensures (sym (ap next_of c.in-At.is) ∙ c.forward.ensures)) in
    record {
      words_in_bounds = (omega (arith, c.words_for-words.ensures, c.requires.n_in_bounds.0, words_in a.above a.n), omega (arith, pos_of_ne-zero c.if-above-eq0.false));
      level_bound = omega (arith, h);
    }

pub returns-in-At : goal.returns-in-At
returns-in-At t c =
    let a = c.args in
    c.descend.ensures
    ∙ way_down a.above a.s.now a.n a.self a.level c.at-at.result c.at-at.ensures c.words_for-words.result c.words_for-words.ensures c.if-words-word.false
    c.clear_from-bit.result c.clear_from-bit.ensures c.if-bit-lt32.false c.if-above-eq0.false c.climb-up.result c.climb-up.ensures
    (Ok (Some c.in-At.q)) (sym (ap next_of c.in-At.is) ∙ c.forward.ensures)

pub returns-in-Nothing : goal.returns-in-Nothing
returns-in-Nothing t c =
    let a = c.args in
    way_down a.above a.s.now a.n a.self a.level c.at-at.result c.at-at.ensures c.words_for-words.result c.words_for-words.ensures c.if-words-word.false
    c.clear_from-bit.result c.clear_from-bit.ensures c.if-bit-lt32.false c.if-above-eq0.false c.climb-up.result c.climb-up.ensures
    (Ok None) (sym (ap next_of c.in-Nothing.is) ∙ c.forward.ensures)

pub returns-in-Torn : goal.returns-in-Torn
returns-in-Torn t c =
    let a = c.args in
    way_down a.above a.s.now a.n a.self a.level c.at-at.result c.at-at.ensures c.words_for-words.result c.words_for-words.ensures c.if-words-word.false
    c.clear_from-bit.result c.clear_from-bit.ensures c.if-bit-lt32.false c.if-above-eq0.false c.climb-up.result c.climb-up.ensures
    torn (sym (ap next_of c.in-Torn.is) ∙ c.forward.ensures)
