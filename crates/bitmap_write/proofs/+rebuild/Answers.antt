-- `bitmap_write::rebuild` meets its contract.
use mathlib.Core.Path.{sym, ◌∙◌}
use native.Mathlib.Omega.{arith}
use Rattle.basics.proofs.Parts.{put_length}
use Rattle.words.proofs.Trees.{words_in, words_above, room_behind}
use Rattle.bitmap_write.proofs.Rebuilt.{rebuilt_none, rebuild_put}
use Rattle.bitmap_write.proofs.+rebuild.Goals as goal

pub sum_up-requires : goal.sum_up-requires
sum_up-requires t c =
    rw c.words_for-words.ensures (omega (arith, c.requires, words_above c.args.above c.args.n c.if-above-gt0.true))

pub offset_bounds-s-i : goal.offset_bounds-s-i
offset_bounds-s-i t c = omega (arith, c.words_for-words.ensures)

pub slice_bounds-rebuild-count : goal.slice_bounds-rebuild-count
slice_bounds-rebuild-count t c =
    omega (arith, c.words_for-words.ensures, c.requires, words_in c.args.above c.args.n, c.sum_up.auto.s)

pub slice_bounds-rebuild-start : goal.slice_bounds-rebuild-start
slice_bounds-rebuild-start t c =
    omega (arith, c.words_for-words.ensures, c.requires, words_in c.args.above c.args.n, c.sum_up.auto.s)

pub overflow_sub-above : goal.overflow_sub-above
overflow_sub-above t c =
    c.if-above-gt0.true

pub rebuild-requires : goal.rebuild-requires
rebuild-requires t c =
    let x = c.sum_up.new.s in (
      omega (arith, c.decreases, c.if-above-gt0.true),
      room_behind c.args.above c.args.n c.words_for-words.result x c.if-above-gt0.true
          c.words_for-words.ensures (omega (arith, c.requires, c.sum_up.auto.s)),
    )

pub shape_of-s : goal.shape_of-s
shape_of-s t c =
    put_length c.words_for-words.result c.sum_up.new.s c.rebuild.new.s
    (omega (arith, c.words_for-words.ensures, c.requires, words_in c.args.above c.args.n, c.sum_up.auto.s))
    c.rebuild.auto.s ∙ c.sum_up.auto.s

pub returns-then-above-gt0 : goal.returns-then-above-gt0
returns-then-above-gt0 t c =
    let a = c.args in
    rebuild_put a.above a.n c.words_for-words.result a.s.now c.sum_up.new.s
    c.rebuild.new.s c.if-above-gt0.true c.words_for-words.ensures
    (omega (arith, c.requires, words_above a.above a.n c.if-above-gt0.true)) c.sum_up.ensures
    c.rebuild.ensures

pub returns-else-above-gt0 : goal.returns-else-above-gt0
returns-else-above-gt0 t c = sym (rebuilt_none c.args.above c.args.n c.args.s.now (omega (arith, c.if-above-gt0.false)))
