-- `layout::wrong_size` meets its contract.
use mathlib.Core.Path.{◌≡◌, refl}
use mathlib.Core.Logic.{◌⊎◌, inl, inr}
use mathlib.Core.Bool.{true}
use Prim.Native.Nat.{ℕ, ◌+◌, ◌*◌, ◌<◌, ◌≤◌}
use native.Mathlib.Omega.{arith}
use borrow.Author.Tests.{le-ltb, lt-ltb, ne_eqb}
use Rattle.layout.specs.declared.Geometry.{Geometry}
use Rattle.layout.specs.Geometry.{small_kib, large_kib, IsSize, total, max_segments, wrong_size}
use Rattle.layout.proofs.Regions.{is_size}
use Rattle.layout.proofs.Sizes.{large_bytes, small_bytes}
use Rattle.layout.proofs.wrong_size.Goals as goal
use Rattle.layout.proofs.wrong_size.Goals.{then-n-lt1-via-then-n-lt1, then-n-lt1-via-else-n-lt1+then-n-gt-MAX_SEGMENTS, in-16, in-32}

-- the words for each segment, by its size
abbrev EachBy : ℕ → ℕ → Type 0
EachBy k each = ((k ≡ small_kib) × (each ≡ 6294)) ⊎ ((k ≡ large_kib) × (each ≡ 12568))

size_by : {k each : ℕ} → EachBy k each → IsSize k
size_by (inl (e, f)) = omega arith
size_by (inr (e, f)) = omega arith

total_by : (g : Geometry) {each : ℕ} → EachBy g.kib each → g.segments * each + 1053 ≡ total g
total_by g (inl (e, f)) = rw (f, small_bytes g (λ q. omega arith)) (omega arith)
total_by g (inr (e, f)) = rw (f, large_bytes g e) (omega arith)

module _ (g : Geometry) (x : ℕ) where
  none : g.segments < 1 → true ≡ wrong_size g x
  unfolding wrong_size
  none l = rw (lt-ltb g.segments 1 l) refl

  many : max_segments < g.segments → true ≡ wrong_size g x
  unfolding wrong_size
  many l = rw (le-ltb g.segments 1 (omega arith), lt-ltb max_segments g.segments l) refl

  neither : 1 ≤ g.segments → g.segments ≤ max_segments → (g.kib ≡ small_kib → ⊥) → (g.kib ≡ large_kib → ⊥) → true ≡ wrong_size g x
  unfolding wrong_size
  neither s l d e = rw (le-ltb g.segments 1 s, le-ltb max_segments g.segments l, ne_eqb g.kib small_kib d, ne_eqb g.kib large_kib e) refl

pub returns-then-n-lt1 : goal.returns-then-n-lt1
returns-then-n-lt1 c =
    elim c.then-n-lt1.branch [
      | then-n-lt1-via-then-n-lt1 w ↦ none c.args.g c.args.x w.if-n-lt1.true
      | then-n-lt1-via-else-n-lt1+then-n-gt-MAX_SEGMENTS w ↦ many c.args.g c.args.x w.if-n-gt-MAX_SEGMENTS.true
    ]

pub returns-in_default : goal.returns-in_default
returns-in_default c = neither c.args.g c.args.x c.if-n-lt1.false c.if-n-gt-MAX_SEGMENTS.false (omega arith) (omega arith)

pub returns : goal.returns
unfolding wrong_size
returns c =
    let g = c.args.g in
    let each : EachBy g.kib c.match-g.each = elim c.match-g.branch [ in-16 w ↦ inl (omega arith, omega arith) | in-32 w ↦ inr (omega arith, omega arith) ] in
    rw (le-ltb g.segments 1 c.if-n-lt1.false, le-ltb max_segments g.segments c.if-n-gt-MAX_SEGMENTS.false, is_size g.kib (size_by each), total_by g each) refl
