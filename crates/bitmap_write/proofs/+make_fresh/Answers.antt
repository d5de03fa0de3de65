-- `bitmap_write::make_fresh` meets its contract: a level of free bits is written, its words are counted, and the levels above are written behind it.
use mathlib.Core.Path.{sym, ap, ◌∙◌}
use native.Mathlib.Nat.{pos_of_ne-zero}
use native.Mathlib.Omega.{arith}
use lib.ListN.{length}
use Rattle.basics.proofs.Parts.{put_length}
use Rattle.words.proofs.Trees.{words_in, room_behind}
use Rattle.bitmap_write.specs.Completed.{padded, cleared}
use Rattle.bitmap_write.proofs.Fresh.{fresh_none, fresh_put, fresh_last}
use Prim.Native.Nat.{ℕ, ◌-◌, ◌≤◌}
use Rattle.bitmap_write.proofs.+make_fresh.Goals as goal

pub free_level-requires : goal.free_level-requires
free_level-requires t c =
    omega (arith, c.requires, words_in c.args.above c.args.n)

pub offset_bounds-s-i : goal.offset_bounds-s-i
offset_bounds-s-i t c = omega (arith, c.words_for-words.ensures)

pub slice_bounds-last_level-count : goal.slice_bounds-last_level-count
slice_bounds-last_level-count t c =
    omega (arith, c.requires, words_in c.args.above c.args.n, c.words_for-words.ensures, c.free_level.auto.s)

pub slice_bounds-last_level-start : goal.slice_bounds-last_level-start
slice_bounds-last_level-start t c =
    omega (arith, c.requires, words_in c.args.above c.args.n, c.words_for-words.ensures, c.free_level.auto.s)

pub last_level-requires : goal.last_level-requires
last_level-requires t c =
    let a = c.args in
    let behind = room_behind a.above a.n c.words_for-words.result c.free_level.new.s
    (pos_of_ne-zero c.if-above-ne0.true) c.words_for-words.ensures
    (omega (arith, c.requires, c.free_level.auto.s)) in
    omega (arith, behind, words_in (a.above - 1) c.words_for-words.result)

pub offset_bounds-s-i-else-above-eq1 : goal.offset_bounds-s-i-else-above-eq1
offset_bounds-s-i-else-above-eq1 t c = omega (arith, c.words_for-words.ensures)

pub slice_bounds-make_fresh-count : goal.slice_bounds-make_fresh-count
slice_bounds-make_fresh-count t c =
    omega (arith, c.requires, words_in c.args.above c.args.n, c.words_for-words.ensures, c.free_level.auto.s)

pub slice_bounds-make_fresh-start : goal.slice_bounds-make_fresh-start
slice_bounds-make_fresh-start t c =
    omega (arith, c.requires, words_in c.args.above c.args.n, c.words_for-words.ensures, c.free_level.auto.s)

pub overflow_sub-above : goal.overflow_sub-above
overflow_sub-above t c = pos_of_ne-zero c.if-above-ne0.true

pub make_fresh-requires : goal.make_fresh-requires
make_fresh-requires t c =
    let some = pos_of_ne-zero c.if-above-ne0.true in (
      omega (arith, c.decreases, some),
      room_behind c.args.above c.args.n c.words_for-words.result c.free_level.new.s some
          c.words_for-words.ensures (omega (arith, c.requires, c.free_level.auto.s)),
    )

pub shape_of-s-then-above-eq1 : goal.shape_of-s-then-above-eq1
shape_of-s-then-above-eq1 t c =
    let inside : c.words_for-words.result ≤ length c.free_level.new.s =
    omega (arith, c.words_for-words.ensures, c.requires, words_in c.args.above c.args.n, c.free_level.auto.s) in
    put_length c.words_for-words.result c.free_level.new.s c.last_level.new.s inside c.last_level.auto.s ∙ c.free_level.auto.s

pub returns-then-above-eq1 : goal.returns-then-above-eq1
returns-then-above-eq1 t c =
    let a = c.args in
    let level = c.free_level.ensures ∙ ap (λ (m : ℕ). padded a.n (cleared m a.s.now)) (sym c.words_for-words.ensures) in
    fresh_last a.above a.n c.words_for-words.result a.s.now c.free_level.new.s c.last_level.new.s
    c.if-above-eq1.true c.words_for-words.ensures c.requires level c.last_level.ensures

pub shape_of-s-else-above-eq1 : goal.shape_of-s-else-above-eq1
shape_of-s-else-above-eq1 t c =
    let inside : c.words_for-words.result ≤ length c.free_level.new.s =
    omega (arith, c.words_for-words.ensures, c.requires, words_in c.args.above c.args.n, c.free_level.auto.s) in
    put_length c.words_for-words.result c.free_level.new.s c.make_fresh.new.s inside c.make_fresh.auto.s ∙ c.free_level.auto.s

pub returns-else-above-eq1 : goal.returns-else-above-eq1
returns-else-above-eq1 t c =
    let a = c.args in
    let level = c.free_level.ensures ∙ ap (λ (m : ℕ). padded a.n (cleared m a.s.now)) (sym c.words_for-words.ensures) in
    fresh_put a.above a.n c.words_for-words.result a.s.now c.free_level.new.s c.make_fresh.new.s
    (pos_of_ne-zero c.if-above-ne0.true) c.words_for-words.ensures c.requires level c.make_fresh.ensures

pub shape_of-s-else-above-ne0 : goal.shape_of-s-else-above-ne0
shape_of-s-else-above-ne0 t c = c.free_level.auto.s

pub returns-else-above-ne0 : goal.returns-else-above-ne0
returns-else-above-ne0 t c =
    let a = c.args in
    c.free_level.ensures ∙ fresh_none a.above a.n a.s.now c.if-above-ne0.false
