-- `bitmap_write::next_word` meets its contract: where there is a count, words are whole.
use mathlib.Core.Path.{◌≡◌}
use mathlib.Core.Logic.{inl, inr}
use Prim.Native.Nat.{ℕ, ◌%◌}
use native.Mathlib.Omega.{arith}
use Rattle.bitmap_write.specs.Completed.{Pressable, Ways}
use Rattle.bitmap_write.proofs.next_word.Goals as goal

pressable : (n step count : ℕ) → Ways n step count → (count ≡ 0 → ⊥) → (n % 32 ≡ 0) × Pressable step count
pressable n step count (inl e) f = absurd (f e)
pressable n step count (inr p) f = p

pub pressed_word-requires : goal.pressed_word-requires
pressed_word-requires c =
    let p = c.requires in
    let w = pressable _ _ _ p.5 c.if-count-eq0.false in
    (omega (arith, p.0, w.0), p.1, p.2, p.3, w.1)
