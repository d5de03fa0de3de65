-- `bitmap_write::pressed_word` meets its contract. The loop's invariant: the word of the bits of the words passed.
use mathlib.Core.Path.{◌≡◌, refl, sym, ap, ◌∙◌}
use Prim.Native.Nat.{ℕ, ◌+◌, ◌-◌, ◌*◌, ◌%◌, ◌^◌, ◌≤◌, ◌<◌}
use native.Mathlib.Omega.{arith}
use mathlib.Core.List.{List}
use lib.ListN.{length, get_or, drop}
use lib.Seq.{get_or-drop}
use Rattle.bitmap_write.specs.Completed.{pressed, Pressable}
use Rattle.bitmap_write.proofs.Pressed.{room, some_step, press_fits, parts, parts_none, parts_turn, parts_lt, parts_all}
use Rattle.bitmap_write.proofs.pressed_word.Goals as goal

-- what is known of part k: its word is there, and no number on the way is large
record Part (s from j step count k : ℕ) : Type 0 where
  there : from + j * step + k < s
  low : j * step < 2 ^ 20
  shift : k * count < 32
  fits : count + k * count ≤ 32
  next : (k + 1) * count ≤ 32

-- what the function requires
abbrev Asked : (s from n step count j : ℕ) → Type 0
Asked s from n step count j =
    (j * 32 + 32 ≤ n) × (from ≤ s) × (n * step ≤ (s - from) * 32) × (n * step ≤ 2 ^ 20) × Pressable step count

in-room : (s from n step count j k : ℕ) → Asked s from n step count j → k < step → Part s from j step count k
in-room s from n step count j k r l =
    let h = room step count r.4 n j k from s r.0 r.1 r.2 r.3 l in
    record { there = h.0; low = h.1; shift = h.2; fits = h.3; next = h.4 }

pub overflow_mul-at : goal.overflow_mul-at
overflow_mul-at c = let h = in-room (length c.args.s.now) c.args.from c.args.n c.args.step c.args.count c.args.j 0 c.requires (omega (arith, (some_step _ _ c.requires.4).0)) in omega (arith, h.low)

pub overflow_cast-at : goal.overflow_cast-at
overflow_cast-at c = let h = in-room (length c.args.s.now) c.args.from c.args.n c.args.step c.args.count c.args.j 0 c.requires (omega (arith, (some_step _ _ c.requires.4).0)) in omega (arith, h.low)

pub overflow_add-at : goal.overflow_add-at
overflow_add-at c = let h = in-room (length c.args.s.now) c.args.from c.args.n c.args.step c.args.count c.args.j 0 c.requires (omega (arith, (some_step _ _ c.requires.4).0)) in omega (arith, h.there, c.well_formed.0.1)

pub loop-k-init : goal.loop-k-init
loop-k-init c = let a = c.args in parts_none (drop a.from a.s.now) a.n a.step a.count a.j

pub overflow_add-at-in-loop-k : goal.overflow_add-at-in-loop-k
overflow_add-at-in-loop-k c =
    let h = in-room (length c.args.s.now) c.args.from c.args.n c.args.step c.args.count c.args.j c.loop-k.k c.requires c.loop-k-test.true in
    omega (arith, h.there, c.well_formed.0.1)

pub offset_bounds-s-at : goal.offset_bounds-s-at
offset_bounds-s-at c =
    let h = in-room (length c.args.s.now) c.args.from c.args.n c.args.step c.args.count c.args.j c.loop-k.k c.requires c.loop-k-test.true in
    omega (arith, h.there, c.well_formed.0.1)

pub bounds-s-at : goal.bounds-s-at
bounds-s-at c =
    let h = in-room (length c.args.s.now) c.args.from c.args.n c.args.step c.args.count c.args.j c.loop-k.k c.requires c.loop-k-test.true in
    h.there

pub press-bits-requires : goal.press-bits-requires
press-bits-requires c = c.requires.4

pub overflow_mul-w : goal.overflow_mul-w
overflow_mul-w c =
    let h = in-room (length c.args.s.now) c.args.from c.args.n c.args.step c.args.count c.args.j c.loop-k.k c.requires c.loop-k-test.true in
    omega (arith, h.shift)

pub overflow_shl-w : goal.overflow_shl-w
overflow_shl-w c =
    let h = in-room (length c.args.s.now) c.args.from c.args.n c.args.step c.args.count c.args.j c.loop-k.k c.requires c.loop-k-test.true in
    h.shift

-- the word with one part more
turned : (s : List ℕ) (from n step count j k w bits : ℕ) → Asked (length s) from n step count j → k < step
    → w ≡ parts (drop from s) n step count j k → bits ≡ pressed step count (get_or s (from + j * step + k) 0)
    → w + (bits * 2 ^ (k * count)) % 2 ^ 32 ≡ parts (drop from s) n step count j (k + 1)
turned s from n step count j k w bits r l so e =
    let ws = drop from s in
    let h = in-room (length s) from n step count j k r l in
    let x = get_or ws (j * step + k) 0 in
    let e' : get_or s (from + j * step + k) 0 ≡ x =
    ap (λ (i : ℕ). get_or s i 0) (let q : from + j * step + k ≡ from + (j * step + k) = omega arith in q)
    ∙ sym (get_or-drop from s (j * step + k) 0) in
    let p : bits ≡ pressed step count x = e ∙ ap (pressed step count) e' in
    ap (λ (b : ℕ). w + (b * 2 ^ (k * count)) % 2 ^ 32) p
    ∙ ap (λ (b : ℕ). w + b) (press_fits step count x k h.fits)
    ∙ parts_turn ws n step count j r.4 r.0 k w x l so refl

pub overflow_add-w : goal.overflow_add-w
overflow_add-w c =
    let at = c.loop-k in
    let a = c.args in
    let h = in-room (length c.args.s.now) c.args.from c.args.n c.args.step c.args.count c.args.j at.k c.requires c.loop-k-test.true in
    let l = parts_lt (drop a.from a.s.now) a.n a.step a.count a.j (at.k + 1) h.next in
    omega (arith, turned c.args.s.now c.args.from c.args.n c.args.step c.args.count c.args.j c.loop-k.k c.loop-k.w c.press-bits.result c.requires c.loop-k-test.true c.loop-k.invariant c.press-bits.ensures, l)

pub loop-k-preserved : goal.loop-k-preserved
loop-k-preserved c = (turned c.args.s.now c.args.from c.args.n c.args.step c.args.count c.args.j c.loop-k.k c.loop-k.w c.press-bits.result c.requires c.loop-k-test.true c.loop-k.invariant c.press-bits.ensures)

pub returns : goal.returns
returns c =
    let at = c.loop-k in
    let a = c.args in
    let e : at.k ≡ a.step = omega (arith, c.loop-k-test.false, at.auto.k-end) in
    at.invariant ∙ parts_all (drop a.from a.s.now) a.n a.step a.count a.j c.requires.4 c.requires.0 at.k e
