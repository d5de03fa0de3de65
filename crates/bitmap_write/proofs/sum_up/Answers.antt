-- `bitmap_write::sum_up` meets its contract.
use mathlib.Core.Path.{◌≡◌, ap, ◌∙◌}
use Prim.Native.Nat.{ℕ, ◌+◌, ◌≤◌, ◌<◌}
use native.Mathlib.Omega.{arith}
use mathlib.Core.List.{List}
use lib.ListN.{length}
use lib.Seq.{paste, paste-zero}
use Rattle.words.specs.Levels.{words_for}
use Rattle.bitmap_write.specs.Rebuild.{packed, full_bit}
use Rattle.bitmap_write.proofs.Summed.{paste_length, sum_step, sum_done}
use Rattle.bitmap_write.proofs.sum_up.Goals as goal

-- the slice keeps its length
kept : (s t : List ℕ) (m words j : ℕ) → m + words_for m ≤ length s → words ≡ words_for m → j ≤ words
    → t ≡ paste s m (packed (full_bit s m) (words_for m) 0) j → length t ≡ length s
kept s t m words j l w h e = ap length e ∙ paste_length s m l j (omega arith)

pub loop-j-init : goal.loop-j-init
loop-j-init c =
    let a = c.args in
    paste-zero a.s.now a.m (packed (full_bit a.s.now a.m) (words_for a.m) 0)

pub full_word-w-requires : goal.full_word-w-requires
full_word-w-requires c =
    (omega (arith, c.requires, kept c.args.s.now c.loop-j.s c.args.m c.words_for-j-end.result c.loop-j.j c.requires c.words_for-j-end.ensures c.loop-j.auto.j-end c.loop-j.invariant), omega (arith, c.loop-j-test.true, c.words_for-j-end.ensures))

pub overflow_add-s : goal.overflow_add-s
overflow_add-s c = omega (arith, c.loop-j.auto.j-end)

pub offset_bounds-s-base : goal.offset_bounds-s-base
offset_bounds-s-base c =
    omega (arith, c.well_formed.0.1, c.requires, c.loop-j-test.true, c.words_for-j-end.ensures)

pub bounds-s-base : goal.bounds-s-base
bounds-s-base c =
    omega (arith, c.requires, kept c.args.s.now c.loop-j.s c.args.m c.words_for-j-end.result c.loop-j.j c.requires c.words_for-j-end.ensures c.loop-j.auto.j-end c.loop-j.invariant, c.loop-j-test.true, c.words_for-j-end.ensures)

pub loop-j-preserved : goal.loop-j-preserved
loop-j-preserved c =
    let l = c.loop-j in
    let h : l.j < words_for c.args.m = omega (arith, c.loop-j-test.true, c.words_for-j-end.ensures) in
    (sum_step c.args.s.now c.args.m c.requires l.s l.j c.full_word-w.result l.invariant h c.full_word-w.ensures)

pub shape_of-s : goal.shape_of-s
shape_of-s c = kept c.args.s.now c.loop-j.s c.args.m c.words_for-j-end.result c.loop-j.j c.requires c.words_for-j-end.ensures c.loop-j.auto.j-end c.loop-j.invariant

pub returns : goal.returns
returns c =
    let a = c.args in
    let e : c.loop-j.j ≡ words_for a.m = omega (arith, c.loop-j-test.false, c.loop-j.auto.j-end, c.words_for-j-end.ensures) in
    c.loop-j.invariant ∙ ap (λ (x : ℕ). paste a.s.now a.m (packed (full_bit a.s.now a.m) (words_for a.m) 0) x) e ∙ sum_done a.s.now a.m c.requires
