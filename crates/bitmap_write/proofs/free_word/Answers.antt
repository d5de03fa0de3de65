-- `bitmap_write::free_word` meets its contract.
use Prim.Native.Nat.{ℕ, ◌-◌, ◌*◌, ◌%◌, ◌^◌, ◌≤◌}
use native.Mathlib.Nat.{one-mul}
use native.Mathlib.Omega.{arith}
use lib.Pow.{shl_exact, pow_mono, pow_pos}
use lib.Dec.{lit<}
use mathlib.Core.Path.{◌≡◌, ◌∙◌, ap}
use Rattle.bitmap_write.proofs.free_word.Goals as goal

shifted : (n : ℕ) → n ≤ 32 → (1 * 2 ^ n) % 2 ^ 64 ≡ 2 ^ n
shifted n h = shl_exact 1 n 64 (lit< tt) (omega arith) ∙ one-mul (2 ^ n)

pub overflow_sub-result : goal.overflow_sub-result
overflow_sub-result c = rw (shifted _ c.requires) (pow_mono {j = 32} c.requires)

pub overflow_cast-result : goal.overflow_cast-result
overflow_cast-result c = rw (shifted _ c.requires) (omega (arith, pow_pos c.args.n))

pub returns : goal.returns
returns c = ap (λ (x : ℕ). 4294967296 - x) (shifted _ c.requires)
