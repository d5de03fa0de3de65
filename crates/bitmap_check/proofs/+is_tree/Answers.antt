-- `bitmap_check::is_tree` meets its contract.
use native.Mathlib.Nat.{pos_of_ne-zero}
use native.Mathlib.Omega.{arith}
use Rattle.basics.proofs.Deciding.{fails, refuted}
use Rattle.words.proofs.Trees.{tree_level, words_above}
use Rattle.bitmap_check.proofs.Examine.{top_decided, not_summed, by_rest}
use Rattle.bitmap_check.proofs.+is_tree.Goals as goal

pub returns-then-not-level_ok : goal.returns-then-not-level_ok
returns-then-not-level_ok t c =
    fails (λ q. refuted c.level_ok.ensures c.if-not-level_ok.true (tree_level c.args.above c.args.n c.args.s.now q))

pub returns-then-above-eq0 : goal.returns-then-above-eq0
returns-then-above-eq0 t c =
    top_decided c.args.above c.args.n c.args.s.now c.if-above-eq0.true (c.level_ok.ensures.sound c.if-not-level_ok.false)

pub sums_ok-requires : goal.sums_ok-requires
sums_ok-requires t c =
    rw c.words_for-words.ensures (omega (arith, c.requires, words_above c.args.above c.args.n (pos_of_ne-zero c.if-above-eq0.false)))

pub returns-then-sums_ok : goal.returns-then-sums_ok
returns-then-sums_ok t c =
    by_rest c.args.above c.args.n c.words_for-words.result c.args.s.now c.if-above-eq0.false c.words_for-words.ensures
    (c.level_ok.ensures.sound c.if-not-level_ok.false) (c.sums_ok.ensures.sound c.if-sums_ok.true) c.is_tree.ensures

pub returns-else-sums_ok : goal.returns-else-sums_ok
returns-else-sums_ok t c =
    rw c.if-sums_ok.false
    (fails
    (not_summed c.args.above c.args.n c.words_for-words.result c.args.s.now c.if-above-eq0.false c.words_for-words.ensures
    (refuted c.sums_ok.ensures c.if-sums_ok.false)))
