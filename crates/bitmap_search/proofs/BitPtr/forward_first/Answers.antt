-- `bitmap_search::BitPtr::forward_first` meets its contract.
use Rattle.std.specs.Prelude.{Ok, Some, None}
use mathlib.Core.Path.{refl, sym, ap, ◌∙◌}
use Prim.Native.Nat.{◌-◌}
use native.Mathlib.Nat.{pos_of_ne-zero}
use native.Mathlib.Omega.{arith}
use lib.ListN.{drop}
use Rattle.words.specs.Levels.{words_for}
use Rattle.words.proofs.Trees.{words_in, room_behind}
use Rattle.bitmap_search.specs.declared.BitPtr.{BitPtr}
use Rattle.bitmap_search.specs.Pointer.{pos_at}
use Rattle.bitmap_search.specs.Search.{climbed, torn, next_of}
use Rattle.bitmap_search.proofs.Forward.{climbed_small}
use Rattle.bitmap_search.proofs.Moves.{handed_on, handed_bound, ahead_past, ahead_at, ahead_none, way_down}
use Rattle.bitmap_search.proofs.BitPtr.forward_first.Goals as goal

pub returns-then-words-word : goal.returns-then-words-word
returns-then-words-word c =
    let x = c.args in
    ahead_past x.above x.s.now x.n x.self 0 x.self.low refl (omega (arith, c.words_for-words.ensures, c.if-words-word.true))

pub bounds-s-word : goal.bounds-s-word
bounds-s-word c =
    omega (arith, c.if-words-word.false, c.words_for-words.ensures, c.requires.0, words_in c.args.above c.args.n)

pub returns-then-bit-lt32 : goal.returns-then-bit-lt32
returns-then-bit-lt32 c =
    let x = c.args in
    ap (λ q. Ok (Some q)) c.with.ensures
    ∙ ahead_at x.above x.s.now x.n x.self 0 x.self.low refl (omega (arith, c.words_for-words.ensures, c.if-words-word.false)) c.clear_from-bit.result
    c.clear_from-bit.ensures c.if-bit-lt32.true

pub returns-then-above-eq0 : goal.returns-then-above-eq0
returns-then-above-eq0 c =
    let x = c.args in
    ahead_none x.above x.s.now x.n x.self 0 x.self.low refl (omega (arith, c.words_for-words.ensures, c.if-words-word.false)) c.clear_from-bit.result
    c.clear_from-bit.ensures c.if-bit-lt32.false c.if-above-eq0.true

pub slice_bounds-forward-count : goal.slice_bounds-forward-count
slice_bounds-forward-count c =
    omega (arith, c.words_for-words.ensures, c.requires.0, words_in c.args.above c.args.n)

pub slice_bounds-forward-start : goal.slice_bounds-forward-start
slice_bounds-forward-start c =
    omega (arith, c.words_for-words.ensures, c.requires.0, words_in c.args.above c.args.n)

pub forward-requires : goal.forward-requires
forward-requires c =
    let x = c.args in
    let some_above = pos_of_ne-zero c.if-above-eq0.false in
    let bit = ap (λ (y : BitPtr). (pos_at y 1).bit) c.climb-up.ensures in
    record {
      n_in_bounds = (room_behind x.above x.n c.words_for-words.result x.s.now some_above c.words_for-words.ensures c.requires.0, omega arith);
      level_bound = omega (arith, climbed_small x.self 0);
    }

pub descend-requires : goal.descend-requires
descend-requires c =
    let x = c.args in
    let h = handed_bound (x.above - 1) (drop (words_for x.n) x.s.now) (words_for x.n) (climbed x.self 0) c.in-At.q 1
    (handed_on (x.above - 1) x.s.now (words_for x.n) 0 c.words_for-words.result x.self c.climb-up.result (Ok (Some c.in-At.q)) c.words_for-words.ensures
    c.climb-up.ensures (sym (ap next_of c.in-At.is) ∙ c.forward.ensures)) in
    record {
      words_in_bounds = (omega (arith, c.words_for-words.ensures, c.requires.0, words_in x.above x.n), omega (arith, pos_of_ne-zero c.if-above-eq0.false));
      level_bound = omega (arith, h);
    }

pub returns-in-At : goal.returns-in-At
returns-in-At c =
    let x = c.args in
    c.descend.ensures
    ∙ way_down x.above x.s.now x.n x.self 0 x.self.low refl c.words_for-words.result c.words_for-words.ensures c.if-words-word.false
    c.clear_from-bit.result c.clear_from-bit.ensures c.if-bit-lt32.false c.if-above-eq0.false c.climb-up.result c.climb-up.ensures
    (Ok (Some c.in-At.q)) (sym (ap next_of c.in-At.is) ∙ c.forward.ensures)

pub returns-in-Nothing : goal.returns-in-Nothing
returns-in-Nothing c =
    let x = c.args in
    way_down x.above x.s.now x.n x.self 0 x.self.low refl c.words_for-words.result c.words_for-words.ensures c.if-words-word.false
    c.clear_from-bit.result c.clear_from-bit.ensures c.if-bit-lt32.false c.if-above-eq0.false c.climb-up.result c.climb-up.ensures
    (Ok None) (sym (ap next_of c.in-Nothing.is) ∙ c.forward.ensures)

pub returns-in-Torn : goal.returns-in-Torn
returns-in-Torn c =
    let x = c.args in
    way_down x.above x.s.now x.n x.self 0 x.self.low refl c.words_for-words.result c.words_for-words.ensures c.if-words-word.false
    c.clear_from-bit.result c.clear_from-bit.ensures c.if-bit-lt32.false c.if-above-eq0.false c.climb-up.result c.climb-up.ensures
    torn (sym (ap next_of c.in-Torn.is) ∙ c.forward.ensures)
