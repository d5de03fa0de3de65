-- `bitmap_write::gather_by` meets its contract. The loop's invariant: the words before word `j` are gathered.
use mathlib.Core.Path.{◌≡◌, ap, ◌∙◌}
use Prim.Native.Nat.{ℕ, ◌≤◌, ◌<◌}
use native.Mathlib.Omega.{arith}
use mathlib.Core.List.{List}
use lib.ListN.{length, drop}
use Rattle.words.specs.Levels.{words_for}
use Rattle.bitmap_write.specs.Completed.{copied, gathered}
use Rattle.bitmap_write.proofs.Gathered.{copied_none, part_length, part_turn, count_small}
use Rattle.bitmap_write.proofs.gather_by.Goals as goal

-- the slice keeps its length
kept : (s t : List ℕ) (from n step words j : ℕ) → words_for n ≤ from → from ≤ length s → words ≡ words_for n → j ≤ words
    → t ≡ copied j (gathered (drop from s) step n) s → length t ≡ length s
kept s t from n step words j b l w h e = ap length e ∙ part_length from n step s b l j (omega arith)

pub words_for-j-end-requires : goal.words_for-j-end-requires
words_for-j-end-requires c = let h = count_small _ _ c.requires.4 c.requires.3 in omega arith

pub loop-j-init : goal.loop-j-init
loop-j-init c = copied_none _ _

pub next_word-w-requires : goal.next_word-w-requires
next_word-w-requires c =
    let k = kept c.args.s.now c.loop-j.s c.args.from c.args.n c.args.step c.words_for-j-end.result c.loop-j.j c.requires.0 c.requires.1
    c.words_for-j-end.ensures c.loop-j.auto.j-end c.loop-j.invariant in
    let h = c.requires.2 in
    (omega (arith, c.loop-j-test.true, c.words_for-j-end.ensures), omega (arith, c.requires.1), rw k h, c.requires.3, c.requires.4, c.requires.5)

pub offset_bounds-s-j : goal.offset_bounds-s-j
offset_bounds-s-j c =
    omega (arith, c.well_formed.0.1, c.requires.0, c.requires.1, c.loop-j-test.true, c.words_for-j-end.ensures)

pub bounds-s-j : goal.bounds-s-j
bounds-s-j c =
    omega (
      arith,
      c.requires.0,
      c.requires.1,
      kept c.args.s.now c.loop-j.s c.args.from c.args.n c.args.step c.words_for-j-end.result c.loop-j.j c.requires.0 c.requires.1
          c.words_for-j-end.ensures c.loop-j.auto.j-end c.loop-j.invariant,
      c.loop-j-test.true,
      c.words_for-j-end.ensures,
    )

pub loop-j-preserved : goal.loop-j-preserved
loop-j-preserved c =
    let l = c.loop-j in
    let h : l.j < words_for c.args.n = omega (arith, c.loop-j-test.true, c.words_for-j-end.ensures) in
    (part_turn c.args.from c.args.n c.args.step c.args.s.now c.requires.0 c.requires.1 l.s l.j h l.invariant c.next_word-w.result c.next_word-w.ensures)

pub shape_of-s : goal.shape_of-s
shape_of-s c = kept c.args.s.now c.loop-j.s c.args.from c.args.n c.args.step c.words_for-j-end.result c.loop-j.j c.requires.0 c.requires.1
    c.words_for-j-end.ensures c.loop-j.auto.j-end c.loop-j.invariant

pub returns : goal.returns
returns c =
    let a = c.args in
    let e : c.loop-j.j ≡ words_for a.n = omega (arith, c.loop-j-test.false, c.loop-j.auto.j-end, c.words_for-j-end.ensures) in
    c.loop-j.invariant ∙ ap (λ (k : ℕ). copied k (gathered (drop a.from a.s.now) a.step a.n) a.s.now) e
