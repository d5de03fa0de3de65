-- `words::ones_in_words` meets its contract.
use mathlib.Core.Path.{ap, ap₂, ◌∙◌, sym, ◌≡◌, refl}
use mathlib.Core.List.{List}
use Prim.Native.Nat.{◌+◌, ℕ, ◌*◌, ◌<◌}
use native.Mathlib.Omega.{arith}
use lib.ListN.{get_or, take}
use lib.Seq.{get_or-take, length-take-le}
use Rattle.words.specs.Bits.{bit_of, bit_at, ones_among}
use Rattle.words.proofs.Ones.{among_word, among_words_le, among_bits_le}
use Rattle.words.proofs.ones_in_words.Goals as goal

-- one word more
next : (ws : List ℕ) (m j total more : ℕ) → j < m → total ≡ ones_among (bit_at ws) (j * 32) → more ≡ ones_among (bit_of (get_or (take m ws) j 0)) 32
    → total + more ≡ ones_among (bit_at ws) ((j + 1) * 32)
next ws m j total more l e f =
    ap₂ (λ (x y : ℕ). x + y) e (f ∙ ap (λ w. ones_among (bit_of w) 32) (get_or-take m ws j 0 l))
    ∙ sym (among_word ws j 32 (omega arith)) ∙ ap (λ (x : ℕ). ones_among (bit_at ws) x) (omega arith)

pub loop-w-init : goal.loop-w-init
unfolding ones_among
loop-w-init c = refl

pub overflow_add-total : goal.overflow_add-total
overflow_add-total c =
    let a = c.args in
    let e = length-take-le a.m a.s.now c.requires.0 in
    omega (arith, c.ones_of-total.ensures, among_words_le a.s.now (c.loop-w.w-index * 32), among_bits_le (get_or (take a.m a.s.now) c.loop-w.w-index 0) 32)

pub loop-w-preserved : goal.loop-w-preserved
loop-w-preserved c =
    let a = c.args in
    let e = length-take-le a.m a.s.now c.requires.0 in
    next a.s.now a.m c.loop-w.w-index c.loop-w.total c.ones_of-total.result (omega arith) c.loop-w.invariant c.ones_of-total.ensures

pub returns : goal.returns
returns c =
    let e = length-take-le c.args.m c.args.s.now c.requires.0 in
    c.loop-w.invariant ∙ ap (λ (x : ℕ). ones_among (bit_at c.args.s.now) (x * 32)) (omega arith)
