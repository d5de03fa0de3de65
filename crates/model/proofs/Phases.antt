-- The rules of the cycle by the phase's number, as the code tests it.
use mathlib.Core.Path.{◌≡◌, refl}
use mathlib.Core.Bool.{false}
use Prim.Native.Nat.{ℕ, zero, suc, ◌≤◌}
use native.Mathlib.Omega.{arith}
use lib.Dec.{eqb, leb, ltb}
use borrow.Author.Tests.{le-leb, le-ltb, ne_eqb}
use Rattle.theory.specs.Phases.{duty, owes, black, twice, in_handshake, newcomer}
use Rattle.model.specs.declared.Duty.TheVariants.{Nothing, Both}
use Rattle.model.specs.PhaseNumbers.{phase_of, duty_of}

pub duty_none : (p acks : ℕ) → (p ≡ 3 → ⊥) → (1 ≤ p → p ≤ 2 → acks ≡ 0) → Nothing ≡ duty_of (duty (phase_of p) acks)
duty_none zero acks f h = refl
duty_none (suc zero) zero f h = refl
duty_none (suc zero) (suc acks) f h = let z = h (omega arith) (omega arith) in absurd (omega arith)
duty_none (suc (suc zero)) zero f h = refl
duty_none (suc (suc zero)) (suc acks) f h = let z = h (omega arith) (omega arith) in absurd (omega arith)
duty_none (suc (suc (suc zero))) acks f h = absurd (f refl)
duty_none (suc (suc (suc (suc p)))) acks f h = refl

pub duty_both : (p acks : ℕ) → 1 ≤ p → p ≤ 2 → (acks ≡ 0 → ⊥) → Both ≡ duty_of (duty (phase_of p) acks)
duty_both zero acks l h f = absurd (omega arith)
duty_both (suc p) zero l h f = absurd (f refl)
duty_both (suc zero) (suc acks) l h f = refl
duty_both (suc (suc zero)) (suc acks) l h f = refl
duty_both (suc (suc (suc p))) (suc acks) l h f = absurd (omega arith)

pub owes_first : (acks : ℕ) → eqb acks 0 ≡ owes (phase_of 1) acks
owes_first zero = refl
owes_first (suc acks) = ne_eqb (suc acks) 0 (λ e. omega arith)

pub owes_second : (acks : ℕ) → ltb acks 2 ≡ owes (phase_of 2) acks
owes_second zero = refl
owes_second (suc zero) = refl
owes_second (suc (suc acks)) = le-ltb (suc (suc acks)) 2 (omega arith)

pub owes_other : (p acks : ℕ) → (p ≡ 1 → ⊥) → (p ≡ 2 → ⊥) → false ≡ owes (phase_of p) acks
owes_other zero acks f h = refl
owes_other (suc zero) acks f h = absurd (f refl)
owes_other (suc (suc zero)) acks f h = absurd (h refl)
owes_other (suc (suc (suc zero))) acks f h = refl
owes_other (suc (suc (suc (suc p)))) acks f h = refl

twice_is : (acks : ℕ) → leb 2 acks ≡ twice acks
twice_is zero = refl
twice_is (suc zero) = refl
twice_is (suc (suc acks)) = le-leb 2 (suc (suc acks)) (omega arith)

pub black_other : (p acks : ℕ) → (2 ≤ p → p ≤ 3 → ⊥) → false ≡ black (phase_of p) acks
black_other zero acks f = refl
black_other (suc zero) acks f = refl
black_other (suc (suc zero)) acks f = absurd (f (omega arith) (omega arith))
black_other (suc (suc (suc zero))) acks f = absurd (f (omega arith) (omega arith))
black_other (suc (suc (suc (suc p)))) acks f = refl

pub black_here : (p acks : ℕ) → 2 ≤ p → p ≤ 3 → leb 2 acks ≡ black (phase_of p) acks
black_here zero acks l h = absurd (omega arith)
black_here (suc zero) acks l h = absurd (omega arith)
black_here (suc (suc zero)) acks l h = twice_is acks
black_here (suc (suc (suc zero))) acks l h = twice_is acks
black_here (suc (suc (suc (suc p)))) acks l h = absurd (omega arith)

pub handshake_second : (p : ℕ) → (p ≡ 1 → ⊥) → eqb p 2 ≡ in_handshake (phase_of p)
handshake_second zero f = refl
handshake_second (suc zero) f = absurd (f refl)
handshake_second (suc (suc zero)) f = refl
handshake_second (suc (suc (suc zero))) f = refl
handshake_second (suc (suc (suc (suc p)))) f = ne_eqb (suc (suc (suc (suc p)))) 2 (λ e. omega arith)

pub newcomer_other : (p : ℕ) → (p ≡ 3 → ⊥) → 0 ≡ newcomer (phase_of p)
newcomer_other zero f = refl
newcomer_other (suc zero) f = refl
newcomer_other (suc (suc zero)) f = refl
newcomer_other (suc (suc (suc zero))) f = absurd (f refl)
newcomer_other (suc (suc (suc (suc p)))) f = refl
