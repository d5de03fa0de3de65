-- The scan for the lowest condemned segment, from the cursor up: what it keeps, one segment more, and what it finds.
use mathlib.Core.Path.{◌≡◌, sym, ◌∙◌, ap}
use mathlib.Core.Logic.{⊎_elim}
use Prim.Native.Nat.{ℕ, ◌+◌, ◌≤◌, ◌<◌}
use native.Mathlib.Omega.{arith}
use Rattle.basics.proofs.Order.{le_or_lt, same_or_not}
use Rattle.layout.specs.declared.Geometry.{Geometry}
use Rattle.layout.specs.Mem.{Mem}
use Rattle.model.specs.Fields.{cursor, tag}
use Rattle.model.specs.Consistent.{Behind}
use Rattle.model_laws.proofs.Lowest.{lowest_none, lowest_some}
use Rattle.sweeping.specs.Sweeping.{lowest_of, Next, Finds}
use Rattle.model.specs.Tag as Tag
use Rattle.std.specs.Prelude as rust

-- the segments from one on to i are not condemned
pub record Scanned (m : Mem) (from i : ℕ) : Type 0 where
  pub onward : from ≤ i
  pub passed : (x : ℕ) → from ≤ x → x < i → tag m x ≡ Tag.condemned → ⊥

pub none_scanned : (m : Mem) (from : ℕ) → Scanned m from from
none_scanned m from = record { onward = omega arith; passed = λ x a b q. omega arith }

-- i is the segment after them, t its tag
module _ (g : Geometry) (m : Mem) (from i : ℕ) (p : Scanned m from i) where
  pub one_other : (t : ℕ) → t ≡ tag m i → (t ≡ Tag.condemned → ⊥) → Scanned m from (i + 1)
  one_other t e h = record { onward = omega (arith, p.onward); passed = λ x a b q. ⊎_elim (λ z. h (e ∙ sym (ap (tag m) z) ∙ q)) (λ d. p.passed x a (omega arith) q) (same_or_not x i) }

  pub next_found : (t : ℕ) → t ≡ tag m i → t ≡ Tag.condemned → Next g m from i
  next_found t e h = record { onward = p.onward; passed = p.passed; found = λ _. sym e ∙ h }

  pub next_none : g.segments ≤ i → Next g m from i
  next_none l = record { onward = p.onward; passed = p.passed; found = λ h. absurd (omega arith) }

-- from the cursor on
module _ (g : Geometry) (m : Mem) (c i : ℕ) (e : c ≡ cursor m) (p : Next g m c i) where
  -- none before i is condemned, if none is before the cursor
  before : Behind g m → (x : ℕ) → x < g.segments → x < i → tag m x ≡ Tag.condemned → ⊥
  before b x l h q = ⊎_elim (λ z. p.passed x z h q) (λ z. b x l (omega arith) q) (le_or_lt c x)

  pub scanned_some : i < g.segments → Finds g m (rust.Some i)
  scanned_some l = record {
    found = λ s q. (let z = same s q in (omega arith, ap (tag m) (sym z) ∙ p.found l));
    exact = λ b. ap lowest_of (sym (lowest_some m g.segments i l (p.found l) (λ x k. before b x (omega arith) k)));
  }
    where
      same : (s : ℕ) → rust.Some i ≡ rust.Some s → i ≡ s
      same s q = cc

  pub scanned_none : g.segments ≤ i → Finds g m rust.None
  scanned_none l = record {
    found = λ s q. absurd (other s q);
    exact = λ b. ap lowest_of (sym (lowest_none m g.segments (λ x k. before b x k (omega arith))));
  }
    where
      other : (s : ℕ) → rust.None ≡ rust.Some s → ⊥
      other s q = cc
