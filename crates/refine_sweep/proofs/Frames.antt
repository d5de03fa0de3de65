-- Memories that differ in segments' records, stacks and bitmaps alone: roots, entries and pointers, so what is live, are the same.
use mathlib.Core.Path.{◌≡◌, ◌∙◌, ap}
use mathlib.Core.Logic.{◌⊎◌, inl, inr}
use mathlib.Core.List.{List}
use Prim.Native.Nat.{ℕ, ◌<◌}
use native.Mathlib.Omega.{arith}
use lib.ListN.{get_or}
use Rattle.layout.specs.Mem.{Mem, mutator_word, heap_word}
use Rattle.theory.specs.Reach.{root}
use Rattle.theory.proofs.Graph.{reach_map}
use Rattle.model.specs.Fields.{trace_count}
use Rattle.model.specs.Reaching.{IsRoot, IsEntry, Live, Reached}
use Rattle.refine_view.proofs.Seeing.{root_was, edge_was, live_was}

word_same : (l l' : List ℕ) → l' ≡ l → (i : ℕ) → get_or l' i 0 ≡ get_or l i 0
word_same l l' e i = ap (λ (z : List ℕ). get_or z i 0) e

module _ (m m' : Mem) (e : m'.mutators ≡ m.mutators) where
  pub mutator_same : (i : ℕ) → mutator_word m' i ≡ mutator_word m i
  mutator_same i = word_same m.mutators m'.mutators e i

module _ (m m' : Mem) (e : m'.heap ≡ m.heap) where
  pub heap_same : (i : ℕ) → heap_word m' i ≡ heap_word m i
  heap_same i = word_same m.heap m'.heap e i

module _ (m m' : Mem) (n : trace_count m ≡ 0) (n' : trace_count m' ≡ 0) where
  no_entry : (k : Mem) → trace_count k ≡ 0 → (x : ℕ) → IsEntry k x → ⊥
  no_entry k e x q = let l : q.index < trace_count k = q.within in omega arith

  -- with an empty trace stack what is live is reached from roots
  pub live_reached : {x : ℕ} → Live m x → Reached m x
  live_reached p = reach_map {R = λ at. IsRoot m at ⊎ IsEntry m at} {R' = IsRoot m} base (λ x y q h. inl h) p
    where
      base : (x : ℕ) → IsRoot m x ⊎ IsEntry m x → Reached m x
      base x (inl q) = root q
      base x (inr q) = absurd (no_entry m n x q)

  pub live_before : m'.mutators ≡ m.mutators → m'.heap ≡ m.heap → {x : ℕ} → Live m' x → Live m x
  live_before e h p = live_was m m' (root_was m m' (λ k z. mutator_same m m' e _ ∙ z) (λ k i l. mutator_same m m' e _)) (λ x q. absurd (no_entry m' n' x q)) (edge_was m m' (heap_same m m' h)) p
