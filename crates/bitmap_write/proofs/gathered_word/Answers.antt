-- `bitmap_write::gathered_word` meets its contract. The loop's invariant: the word of the bits passed, and how many there are.
use mathlib.Core.Path.{◌≡◌, sym, ap, ◌∙◌}
use Prim.Native.Nat.{ℕ, ◌+◌, ◌-◌, ◌*◌, ◌<◌}
use native.Mathlib.Omega.{arith}
use lib.ListN.{length, drop, length-drop}
use mathlib.Core.List.{List}
use Rattle.words.specs.Bits.{bit_at}
use Rattle.words.proofs.Word.{one_shl}
use Rattle.bitmap_write.proofs.Gathered.{sofar, sofar_none, sofar_lt, turn_one, turn_none, sofar_all, bit_inside, count_small, tail_all, is_count}
use Rattle.bitmap_write.proofs.gathered_word.Goals as goal
use Rattle.bitmap_write.proofs.gathered_word.Goals.{then-bit_at-eq1, else-bit_at-eq1}

pub overflow_mul-first : goal.overflow_mul-first
overflow_mul-first c = let h = count_small _ _ c.requires.4 c.requires.3 in let l = c.requires.0 in omega arith

pub overflow_sub-most : goal.overflow_sub-most
overflow_sub-most c = omega arith

pub loop-i-init : goal.loop-i-init
loop-i-init c = (
  sofar_none _ _ _,
  is_count _ _ _ (omega arith) c.min-count.ensures,
)

pub overflow_add-k : goal.overflow_add-k
overflow_add-k c =
    let l = c.loop-i.invariant.1 in
    let h = count_small _ _ c.requires.4 c.requires.3 in
    omega arith

pub overflow_mul-k : goal.overflow_mul-k
overflow_mul-k c =
    let a = c.args in
    let l = c.loop-i.invariant.1 in
    let q = bit_inside (a.j * 32 + c.loop-i.i) a.n a.step (a.n * a.step) (omega arith) c.requires.4 (omega arith) in
    omega arith

pub offset_bounds-s-from : goal.offset_bounds-s-from
offset_bounds-s-from c = omega (arith, c.well_formed.0.1, c.requires.1)

pub slice_bounds-bit_at-count : goal.slice_bounds-bit_at-count
slice_bounds-bit_at-count c = c.requires.1

pub bit_at-requires : goal.bit_at-requires
bit_at-requires c =
    let l = c.loop-i.invariant.1 in
    let q = bit_inside (c.args.j * 32 + c.loop-i.i) c.args.n c.args.step ((length c.args.s.now - c.args.from) * 32) (omega arith) c.requires.4 c.requires.2 in
    rw (tail_all c.args.from c.args.s.now) (let h = length-drop c.args.from c.args.s.now in omega arith)

pub overflow_shl-w : goal.overflow_shl-w
overflow_shl-w c =
    let l = c.loop-i.invariant.1 in
    omega arith

pub overflow_add-w : goal.overflow_add-w
overflow_add-w c =
    let l = c.loop-i.invariant.1 in
    let x = c.loop-i in
    let a = c.args in
    let i : x.i < 32 = omega arith in
    let e : bit_at (drop a.from a.s.now) ((a.j * 32 + x.i) * a.step) ≡ 1 =
    ap (λ (z : List ℕ). bit_at z ((a.j * 32 + x.i) * a.step)) (sym (tail_all a.from a.s.now)) ∙ sym c.bit_at.ensures ∙ c.if-bit_at-eq1.true in
    rw (one_shl x.i i)
    (omega
    (arith, turn_one (drop a.from a.s.now) a.step (a.j * 32) x.i x.w x.invariant.0 e i, sofar_lt (drop a.from a.s.now) a.step (a.j * 32) (a.j * 32 + (x.i + 1))))

pub loop-i-preserved : goal.loop-i-preserved
loop-i-preserved c =
    let l = c.loop-i.invariant.1 in
    let x = c.loop-i in
    let a = c.args in
    let i : x.i < 32 = omega arith in
    let s = drop a.from a.s.now in
    let r : bit_at (drop a.from a.s.now) ((a.j * 32 + x.i) * a.step) ≡ c.bit_at.result =
    ap (λ (z : List ℕ). bit_at z ((a.j * 32 + x.i) * a.step)) (sym (tail_all a.from a.s.now)) ∙ sym c.bit_at.ensures in (
      elim c.if-bit_at-eq1.branch [
        | then-bit_at-eq1 w ↦ w.w-is ∙ rw (one_shl x.i i) (turn_one s a.step (a.j * 32) x.i x.w x.invariant.0 (r ∙ w.if-bit_at-eq1.true) i)
        | else-bit_at-eq1 w ↦ w.w-is ∙ turn_none s a.step (a.j * 32) x.i x.w x.invariant.0 (λ z. w.if-bit_at-eq1.false (sym r ∙ z))
      ],
      l,
    )

pub returns : goal.returns
returns c =
    let l = c.loop-i.invariant.1 in
    let a = c.args in
    let e : c.loop-i.i ≡ c.min-count.result = omega (arith, c.loop-i-test.false, c.loop-i.auto.i-end) in
    c.loop-i.invariant.0 ∙ ap (λ (x : ℕ). sofar (drop a.from a.s.now) a.step (a.j * 32) (a.j * 32 + x)) e
    ∙ sofar_all (drop a.from a.s.now) a.step (a.j * 32) a.n (a.j * 32 + c.min-count.result) l.1 l.2
