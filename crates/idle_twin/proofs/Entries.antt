-- What two memories of the same heap show of their mutators, and so which of the numbers 2 to 9 refuses a call; an entry written whole in both, and
-- the segments that a mutator holds released in both.
use mathlib.Core.Path.{◌≡◌, refl, sym, ◌∙◌, ap, subst}
use mathlib.Core.Logic.{◌⊎◌, inl, inr, ⊎_elim}
use mathlib.Core.Bool.{Bool, true, false, not}
use mathlib.Core.Option.{map}
use mathlib.Core.List.{List, ◌∷◌, ◌++◌}
use Prim.Native.Nat.{ℕ, zero, suc, ◌+◌, ◌-◌, ◌*◌, ◌≤◌, ◌<◌}
use native.Mathlib.Omega.{arith}
use lib.Dec.{eqb, ltb}
use lib.ListN.{length, get_or, replicate}
use lib.Seq.{get_or-set_other}
use borrow.Author.Tests.{ltb-true}
use Rattle.basics.specs.Pick.{pick}
use Rattle.basics.proofs.Order.{same_or_not, le_or_lt}
use Rattle.classes.specs.Class.{first_class, class_count, IsClass}
use Rattle.layout.specs.declared.Geometry.{Geometry}
use Rattle.layout.specs.Geometry.{mutator_count, mutator_words, root_count, segment_record_words}
use Rattle.layout.specs.Mem.{Mem, set_segment, set_stack, set_run, spliced}
use Rattle.theory.specs.Phases.{newcomer}
use Rattle.theory.specs.Calls.{shape_if}
use Rattle.model.specs.declared.SegmentState.TheVariants.{Part}
use Rattle.model.specs.Fields.{phase, absent, inside, state_at, acks_at, held_from, state, root, holding, place_at, place, handed_at, handed_count}
use Rattle.model.specs.Segments.{set_segment_state, part_stack, stacked}
use Rattle.model.specs.Records.{record?, header_shape, shape_of}
use Rattle.model.specs.Mutators.{attached, released, released_one, detached}
use Rattle.model.specs.Calls.{is_attached, observe}
use Rattle.model_laws.proofs.Entries.{holding_by, table_below}
use Rattle.model_laws.proofs.Windows.{length-spliced, spliced_in, spliced_out}
use Rattle.idle_twin.specs.SameHeap.{SameHeap}
use Rattle.idle_twin.proofs.Same.{same_state, same_pick, same_stacked}
use Rattle.layout.specs.Region as Region

-- ---- words read

module _ (m m' : Mem) (e : SameHeap m m') where
  same_side : (k : ℕ) → state m' k ≡ state m k
  same_side k = e.entries k state_at (omega arith) (λ z. omega arith)

  pub same_root : (k i : ℕ) → i < root_count → root m' k i ≡ root m k i
  same_root k i l = e.entries k i (omega arith) (λ z. omega arith)

  pub same_holding : (k c : ℕ) → IsClass c → holding m' k c ≡ holding m k c
  same_holding k c i = holding_by m m' k c (e.entries k (held_from + (c - first_class)) (table_below c i) (λ z. omega arith))

  pub same_place : (s : ℕ) → place m' s ≡ place m s
  same_place s = ap (λ (l : List ℕ). get_or l (s * segment_record_words + place_at) 0) e.segments

  pub same_handed_count : (s : ℕ) → handed_count m' s ≡ handed_count m s
  same_handed_count s = ap (λ (l : List ℕ). get_or l (s * segment_record_words + handed_at) 0) e.segments

  same_shape : (k i : ℕ) → (observe m').shape k i ≡ (observe m).shape k i
  same_shape k i = ap (λ w. shape_if (not (eqb w absent)) (ltb i root_count) (map (shape_of m') (record? (root m' k i)))) (same_side k) ∙ go (is_attached m k) (ltb i root_count) refl
    where
      go : (a b : Bool) → ltb i root_count ≡ b → shape_if a b (map (shape_of m') (record? (root m' k i))) ≡ shape_if a b (map (shape_of m) (record? (root m k i)))
      go true true q =
          ap (λ (l : List ℕ). map (λ at. header_shape (get_or l at 0)) (record? (root m' k i))) e.heap
          ∙ ap (λ w. map (shape_of m) (record? w)) (same_root k i (ltb-true _ _ q))
      go true false q = refl
      go false b q = refl

  pub same_shown : observe m' ≡ observe m
  same_shown = λ j. record { attached = λ k. not (eqb (same_side k j) absent); inside = λ k. eqb (same_side k j) inside; shape = λ k i. same_shape k i j }

-- ---- an entry written whole, with other acknowledgements

module _ (m m' : Mem) (e : SameHeap m m') (z : length m.mutators ≡ mutator_count * mutator_words) (k : ℕ) (few : k < mutator_count) where
  module _ (vs vs' : List ℕ) (n : length vs ≡ mutator_words) (n' : length vs' ≡ mutator_words) (h : (o : ℕ) → (o ≡ acks_at → ⊥) → get_or vs' o 0 ≡ get_or vs o 0) where
    entry_word : (j o : ℕ) → o < mutator_words → (o ≡ acks_at → ⊥)
        → get_or (spliced m'.mutators (k * mutator_words) vs') (j * mutator_words + o) 0 ≡ get_or (spliced m.mutators (k * mutator_words) vs)
        (j * mutator_words + o) 0
    entry_word j o l f = go (same_or_not j k)
      where
        there : (ws x : List ℕ) → length ws ≡ mutator_words → length x ≡ mutator_count * mutator_words → get_or (spliced x (k * mutator_words) ws) (k * mutator_words + o) 0 ≡ get_or ws o 0
        there ws x a b = spliced_in ws x (k * mutator_words) o (omega arith) (omega arith)

        aside : (j ≡ k → ⊥) → (ws : List ℕ) → length ws ≡ mutator_words → (j * mutator_words + o < k * mutator_words) ⊎ (k * mutator_words + length ws ≤ j * mutator_words + o)
        aside q ws a = ⊎_elim (λ x. inl (⊎_elim (λ y. absurd (q (omega arith))) (λ y. omega arith) (le_or_lt k j))) (λ x. inr (omega arith)) (le_or_lt j k)

        away : (j ≡ k → ⊥) → (ws x : List ℕ) → length ws ≡ mutator_words → get_or (spliced x (k * mutator_words) ws) (j * mutator_words + o) 0 ≡ get_or x (j * mutator_words + o) 0
        away q ws x a = spliced_out ws x (k * mutator_words) (j * mutator_words + o) (aside q ws a)

        go : (j ≡ k) ⊎ (j ≡ k → ⊥) → get_or (spliced m'.mutators (k * mutator_words) vs') (j * mutator_words + o) 0 ≡ get_or (spliced m.mutators (k * mutator_words) vs) (j * mutator_words + o) 0
        go (inl q) =
            subst
            (λ j. get_or (spliced m'.mutators (k * mutator_words) vs') (j * mutator_words + o) 0 ≡ get_or (spliced m.mutators (k * mutator_words) vs) (j * mutator_words + o) 0)
            (sym q) (there vs' m'.mutators n' (e.long ∙ z) ∙ h o f ∙ sym (there vs m.mutators n z))
        go (inr q) = away q vs' m'.mutators n' ∙ e.entries j o l f ∙ sym (away q vs m.mutators n)

    pub same_entry : SameHeap (set_run m Region.mutators (k * mutator_words) vs) (set_run m' Region.mutators (k * mutator_words) vs')
    unfolding set_run
    same_entry = record {
      long = length-spliced m'.mutators (k * mutator_words) vs' ∙ e.long ∙ sym (length-spliced m.mutators (k * mutator_words) vs);
      entries = entry_word;
      heap = e.heap;
      segments = e.segments;
      stacks = e.stacks;
      bitmaps = e.bitmaps;
    }

  -- a newcomer's entry
  abbrev entry_of : ℕ → ℕ → List ℕ
  entry_of v a = v ∷ replicate (root_count - 1) 0 ++ inside ∷ a ∷ replicate (mutator_words - held_from) 0

  pub same_attached : (v : ℕ) → SameHeap (attached m k v) (attached m' k v)
  unfolding attached
  same_attached v =
      same_entry (entry_of v (newcomer (phase m))) (entry_of v (newcomer (phase m'))) refl refl
      (λ o f. get_or-set_other (entry_of v (newcomer (phase m))) acks_at o (newcomer (phase m')) 0 f)

-- ---- the segments that a mutator holds, released

module _ (g : Geometry) (k : ℕ) where
  same_released_one : (m m' : Mem) → SameHeap m m' → (c : ℕ) → IsClass c → SameHeap (released_one g m k c) (released_one g m' k c)
  same_released_one m m' e c i =
      let r : ℕ = holding m k c - 1 in
      let parted : SameHeap (set_segment_state g m r (Part c (place m r))) (set_segment_state g m' r (Part c (place m' r))) =
      subst (λ p. SameHeap (set_segment_state g m r (Part c (place m r))) (set_segment_state g m' r (Part c p))) (sym (same_place m m' e r)) (same_state g m m' e r (Part c (place m r))) in
      subst (λ w. SameHeap (released_one g m k c) (pick (eqb w 0) m' (stacked g (set_segment_state g m' (w - 1) (Part c (place m' (w - 1)))) (part_stack c) (w - 1)))) (sym (same_holding m m' e k c i))
      (same_pick (eqb (holding m k c) 0) m _ m' _ e (same_stacked g _ _ parted (part_stack c) r))

  same_released : (m m' : Mem) → SameHeap m m' → (n : ℕ) → n ≤ class_count → SameHeap (released g m k n) (released g m' k n)
  unfolding released
  same_released m m' e zero l = e
  same_released m m' e (suc n) l = same_released_one (released g m k n) (released g m' k n) (same_released m m' e n (omega arith)) (first_class + n) (omega arith, omega arith)

  -- the mutators' entries and the control words stay
  abbrev pub Stays : Mem → Mem → Type 0
  Stays m m₁ = (m₁.mutators ≡ m.mutators) × (m₁.control ≡ m.control)

  stays_one : (m : Mem) (t : Bool) (r p c x : ℕ) → Stays m (pick t m (stacked g (set_segment_state g m r (Part c p)) x r))
  unfolding set_segment_state set_segment set_stack
  stays_one m true r p c x = (refl, refl)
  stays_one m false r p c x = (refl, refl)

  pub stays_released : (m : Mem) (n : ℕ) → Stays m (released g m k n)
  unfolding released
  stays_released m zero = (refl, refl)
  stays_released m (suc n) =
      let c : ℕ = first_class + n in
      let m₁ : Mem = released g m k n in
      let a = stays_one m₁ (eqb (holding m₁ k c) 0) (holding m₁ k c - 1) (place m₁ (holding m₁ k c - 1)) c (part_stack c) in
      let b = stays_released m n in
      (a.0 ∙ b.0, a.1 ∙ b.1)

  module _ (few : k < mutator_count) where
    pub same_detached : (m m' : Mem) → SameHeap m m' → length m.mutators ≡ mutator_count * mutator_words → SameHeap (detached g m k) (detached g m' k)
    unfolding detached
    same_detached m m' e z =
        same_entry (released g m k class_count) (released g m' k class_count) (same_released m m' e class_count (omega arith)) (ap length (stays_released m class_count).0 ∙ z) k few
        (replicate mutator_words 0) (replicate mutator_words 0) refl refl (λ o f. refl)
