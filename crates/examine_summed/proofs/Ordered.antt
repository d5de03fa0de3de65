-- A stack whose count and whose entries are right is in order, and the trees, the counts and the stacks make the first half of consistency.
use mathlib.Core.Path.{◌≡◌, refl, sym, ◌∙◌, ap, subst}
use mathlib.Core.Bool.{Bool, true, false}
use mathlib.Core.Logic.{◌⊎◌, inl, inr}
use mathlib.Core.List.{List}
use Prim.Native.Nat.{ℕ, zero, suc, ◌+◌, ◌-◌, ◌≤◌, ◌<◌}
use native.Mathlib.Omega.{arith}
use lib.ListN.{get_or, replicate}
use Rattle.basics.specs.Decides.{Decides}
use Rattle.basics.specs.Pick.{one_if}
use Rattle.basics.proofs.Deciding.{fails, via}
use Rattle.basics.proofs.Order.{same_or_not}
use Rattle.words.specs.Bits.{ones_among}
use Rattle.words.proofs.Ones.{among_le}
use Rattle.words.proofs.Counts.{places_all}
use Rattle.classes.specs.Class.{IsClass}
use Rattle.layout.specs.declared.Geometry.{Geometry}
use Rattle.layout.specs.Geometry.{stack_count}
use Rattle.layout.specs.Mem.{Mem}
use Rattle.model.specs.Segments.{part_stack, count, entry}
use Rattle.model.specs.Consistent.{StackOk, TreeOk, CountsOk, Summed, is_part}
use Rattle.model_laws.proofs.Bools.{one_less}
use Rattle.examine_summed.specs.Stacked.{on_stack, OrderedStack, Seen, EntersAll}

-- a fresh table
pub zeros : (n s : ℕ) → ◌≡◌ {A = ℕ} (get_or (replicate n 0) s 0) 0
zeros zero s = refl
zeros (suc n) zero = refl
zeros (suc n) (suc s) = zeros n s

-- ---- one stack; n is its count, k the number of segments that belong on it

module _ (g : Geometry) (m : Mem) (t n k : ℕ) (e : n ≡ count g m t) (q : k ≡ ones_among (λ s. one_if (on_stack m t s)) g.segments) where
  pub count_few : n ≡ k → n ≤ g.segments
  count_few h = let a = among_le (λ s. one_if (on_stack m t s)) (λ s. one_less (on_stack m t s)) g.segments in omega arith

  pub count_wrong : (n ≡ k → ⊥) → Decides false (OrderedStack g m t)
  count_wrong f = fails (λ o. f (e ∙ o.number ∙ sym q))

  module _ (h : n ≡ k) where
    ordered : (seen : List ℕ) → Seen g m t (count g m t) seen → OrderedStack g m t
    ordered seen p = record {
      number = sym e ∙ h ∙ q;
      members = p.members;
      once = p.once;
      all = λ s l x. go s l x (same_or_not (get_or seen s 0) 0);
    }
      where
        go : (s : ℕ) → s < g.segments → on_stack m t s ≡ true → (get_or seen s 0 ≡ 0) ⊎ (get_or seen s 0 ≡ 0 → ⊥) → (i : ℕ) × (i < count g m t) × (entry g m t i ≡ s)
        go s l x (inr f) = p.only s f
        go s l x (inl z) =
            absurd
            (places_all (count g m t) (λ s. one_if (on_stack m t s)) g.segments (entry g m t) (λ i y. ((p.members i y).0, ap one_if (p.members i y).1)) p.once
            (omega arith) s l (ap one_if x) (λ i y w. p.there i y (ap (λ v. get_or seen v 0) w ∙ z)))

    pub count_right : (seen : List ℕ) (r : Bool) → EntersAll g m t r seen → Decides r (OrderedStack g m t)
    count_right seen true p = record { sound = λ _. ordered seen (p.new refl); complete = λ _. refl }
    count_right seen false p = fails (p.wrong refl)

-- ---- the first half

module _ (g : Geometry) (m : Mem) where
  abbrev Trees : Type 0
  Trees = (s : ℕ) → s < g.segments → TreeOk g m s

  abbrev Counts : Type 0
  Counts = (s : ℕ) → s < g.segments → CountsOk g m s

  from_stacks : Trees → Counts → ((t : ℕ) → t < stack_count → OrderedStack g m t) → Summed g m
  from_stacks a n h = record { trees = a; counts = n; free_segments = h 0 (omega arith); part_segments = λ c k. part c k }
    where
      part : (c : ℕ) → IsClass c → StackOk g m (part_stack c) (is_part m c)
      part c (a, b) =
          let x : suc (c - 3) ≡ part_stack c = omega arith in
          let y : 3 + (c - 3) ≡ c = omega arith in
          subst (λ z. StackOk g m (part_stack c) (is_part m z)) y (subst (λ z. StackOk g m z (is_part m (3 + (c - 3)))) x (h (suc (c - 3)) (omega arith)))

  to_stacks : Summed g m → (t : ℕ) → t < stack_count → OrderedStack g m t
  to_stacks s zero l = s.free_segments
  to_stacks s (suc t) l = let x : part_stack (3 + t) ≡ suc t = omega arith in subst (λ z. StackOk g m z (is_part m (3 + t))) x (s.part_segments (3 + t) (omega arith, omega arith))

  pub all_three : {r : Bool} → Decides r ((Trees × Counts) × ((t : ℕ) → t < stack_count → OrderedStack g m t)) → Decides r (Summed g m)
  all_three d = via (λ p. from_stacks p.0.0 p.0.1 p.1) (λ s. ((s.trees, s.counts), to_stacks s)) d
