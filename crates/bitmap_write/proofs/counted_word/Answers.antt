-- `bitmap_write::counted_word` meets its contract. The loop's invariant: the word over the words passed.
use mathlib.Core.Path.{◌≡◌, sym, ap, ◌∙◌}
use Prim.Native.Nat.{ℕ, ◌+◌, ◌<◌}
use native.Mathlib.Omega.{arith}
use Rattle.words.proofs.Word.{one_shl}
use Rattle.bitmap_write.proofs.Counted.{passed, passed_none, turn_full, turn_less, passed_all}
use Rattle.bitmap_write.proofs.counted_word.Goals as goal
use Rattle.bitmap_write.proofs.counted_word.Goals.{then-full_bit-eq0, else-full_bit-eq0}

pub loop-i-init : goal.loop-i-init
loop-i-init c = let a = c.args in passed_none a.s.now a.from ∙ ap (passed a.s.now a.from) (omega arith)

pub overflow_add-from : goal.overflow_add-from
overflow_add-from c = let l = c.requires in omega arith

pub full_bit-requires : goal.full_bit-requires
full_bit-requires c = let l = c.requires in (omega arith, l.0)

pub overflow_shl-w : goal.overflow_shl-w
overflow_shl-w c =
    omega arith

pub overflow_sub-w : goal.overflow_sub-w
overflow_sub-w c =
    let x = c.loop-i in
    let a = c.args in
    let i : x.i < 32 = omega arith in
    rw (one_shl x.i i) (omega (arith, turn_less a.s.now a.from a.m x.i x.w (omega arith) x.invariant (sym c.full_bit.ensures ∙ c.if-full_bit-eq0.true) i))

pub loop-i-preserved : goal.loop-i-preserved
loop-i-preserved c =
    let x = c.loop-i in
    let a = c.args in
    let i : x.i < 32 = omega arith in
    elim c.if-full_bit-eq0.branch [
      | then-full_bit-eq0 w ↦ w.w-is ∙ rw (one_shl x.i i) (omega (arith, turn_less a.s.now a.from a.m x.i x.w (omega arith) x.invariant (sym c.full_bit.ensures ∙ w.if-full_bit-eq0.true) i))
      | else-full_bit-eq0 w ↦ w.w-is ∙ turn_full a.s.now a.from a.m x.i x.w (omega arith) x.invariant (λ z. w.if-full_bit-eq0.false (c.full_bit.ensures ∙ z))
    ]

pub returns : goal.returns
returns c =
    let l = c.requires in
    let a = c.args in
    let e : c.loop-i.i ≡ a.count = omega (arith, c.loop-i-test.false, c.loop-i.auto.i-end) in
    c.loop-i.invariant ∙ ap (λ (x : ℕ). passed a.s.now a.from (a.from + x)) e ∙ passed_all a.s.now a.from a.m (a.from + a.count) (omega arith) l.2 l.3
