-- The search run on a small graph: 0 → 1 → 2 → 0, and 3 → 0; the root is 0. Then the same with an edge to 9, which does not pass.
use mathlib.Core.Path.{◌≡◌, refl}
use mathlib.Core.Bool.{Bool}
use mathlib.Core.Option.{Option, none, some}
use Prim.Native.Nat.{ℕ, zero, suc, ◌*◌, ◌+◌}
use lib.Dec.{ltb}
use Rattle.graph_search.specs.Walk.{State}
use Rattle.graph_search.specs.Search.{searched, turns, started}

ok : ℕ → Bool
ok x = ltb x 4

edge : ℕ → ℕ → ℕ → Option ℕ
edge last zero f = some 1
edge last (suc zero) f = some 2
edge last (suc (suc zero)) f = some last
edge last (suc (suc (suc x))) f = some 0

-- the bits, lowest node first, as decimal digits; 7 where a node that does not pass was met
shown : Option State → ℕ
shown none = 7
shown (some s) = s.seen 0 + 10 * s.seen 1 + 100 * s.seen 2 + 1000 * s.seen 3

cycle : shown (searched 4 ok (λ x. x) (λ x. 1) (edge 0) 1 (λ i. some 0)) ≡ 111
unfolding ok edge shown
cycle = refl

three : turns 4 ok (λ x. x) (λ x. 1) (edge 0) 4 (started 4 ok (λ x. x) (λ x. 1) (edge 0) 1 (λ i. some 0)) ≡ 3
unfolding ok edge shown
three = refl

broken : shown (searched 4 ok (λ x. x) (λ x. 1) (edge 9) 1 (λ i. some 0)) ≡ 7
unfolding ok edge shown
broken = refl
