-- The search as a function meets its law.
use mathlib.Core.Path.{◌≡◌, refl, sym, ap, ◌∙◌, subst}
use mathlib.Core.Logic.{◌⊎◌, inl, inr, ⊎_elim}
use mathlib.Core.Bool.{Bool, true, false}
use mathlib.Core.Option.{Option, none, some, some-injective}
use Prim.Native.Nat.{ℕ, zero, suc, ◌+◌, ◌-◌, ◌≤◌}
use native.Mathlib.Omega.{arith}
use lib.Dec.{eqb}
use borrow.Author.Tests.{eqb-true, eqb-false}
use Rattle.basics.specs.Pick.{pick}
use Rattle.basics.proofs.Order.{same_or_not}
use Rattle.words.specs.Bits.{ones_among}
use Rattle.words.proofs.Counts.{lt_of, no_ones}
use Rattle.words.proofs.Word.{zero_of_not_one}
use Rattle.theory.specs.Reach.{root}
use Rattle.graph_search.specs.Walk.{State, Nodes, Placed, Seen, Valid, Run, Fails, Graph, popped, Reached, Underway, left}
use Rattle.graph_search.specs.Search.{put, at_most_one, Names, empty, nodes_of, pushed, enter, follow, follow_all, turn_at, turn, search, busy, turns, graph_of, started, searched, Law}
use Rattle.graph_search.proofs.Walking.{put_here, put_other, run_still, run_more, Pushed, run_push, valid_empty, valid_popped, run_first}
use Rattle.graph_search.proofs.Walking.{underway_from, underway_turn, left_turn, turn_fails, underway_exact, ones_le, room_le}

-- what a run came to
abbrev Came : Nodes → (ℕ → Type 0) → State → Option State → Type 0
Came T Named s none = Fails T Named
Came T Named s (some u) = Run T Named s u

module _ (size : ℕ) (ok : ℕ → Bool) (place : ℕ → ℕ) (placed : Placed (nodes_of size ok place)) where
  abbrev T : Nodes
  T = nodes_of size ok place

  pushes : (s : State) (x : ℕ) → Valid T s → Pushed T x s (pushed size ok place s x)
  pushes s x f = record {
    bits = λ k. ⊎_elim (λ e. omega (arith, ap (put s.seen (place x) 1) e, put_here s.seen (place x) 1)) (λ e. rw (put_other s.seen (place x) 1 k e) (f.bits k)) (same_or_not k (place x));
    bit = put_here s.seen (place x) 1;
    others = λ k l d. put_other s.seen (place x) 1 k d;
    last = put_here s.entry s.top x;
    below = λ i l. put_other s.entry s.top x i (λ e. omega arith);
    more = refl;
  }

  follow_came : (s : State) (e : Option ℕ) → Valid T s → Came T (λ x. e ≡ some x) s (follow size ok place (some s) e)
  follow_came s none f = run_still f (λ x q. absurd (let z : ◌≡◌ {A = ℕ} 0 1 = cc in omega arith))
  follow_came s (some x) f = test (ok x) refl
    where
      one : (y : ℕ) → some x ≡ some y → y ≡ x
      one y q = sym (some-injective x y q)

      entered : ok x ≡ true → (b : Bool) → eqb (s.seen (place x)) 1 ≡ b → Run T (λ y. some x ≡ some y) s (pick b s (pushed size ok place s x))
      entered h true e = run_still f (λ y q. subst (λ (z : ℕ). Seen T s z) (sym (one y q)) (h, eqb-true (s.seen (place x)) 1 e))
      entered h false e = run_push placed f x h (zero_of_not_one (s.seen (place x)) (f.bits (place x)) (eqb-false (s.seen (place x)) 1 e)) (pushes s x f) refl one

      test : (b : Bool) → ok x ≡ b → Came T (λ y. some x ≡ some y) s (pick b (some (enter size ok place s x)) none)
      test true e = entered e (eqb (s.seen (place x)) 1) refl
      test false e = record { node = x; named = refl; fails = λ q. let z : ◌≡◌ {A = ℕ} 0 1 = cc in omega arith }

  all_came : (edges : ℕ → Option ℕ) (n : ℕ) (s : State) → Valid T s → Came T (Names edges n) s (follow_all size ok place edges n (some s))
  all_came edges zero s f = run_still f (λ x q. absurd (omega (arith, q.within)))
  all_came edges (suc n) s f = go (follow_all size ok place edges n (some s)) (all_came edges n s f)
    where
      up : (x : ℕ) → Names edges n x → Names edges (suc n) x
      up x q = record { index = q.index; within = omega (arith, q.within); names = q.names }

      here : (x : ℕ) → edges n ≡ some x → Names edges (suc n) x
      here x q = record { index = n; within = omega arith; names = q }

      split : (x : ℕ) → Names edges (suc n) x → Names edges n x ⊎ (edges n ≡ some x)
      split x q = ⊎_elim (λ e. inr (ap edges (sym e) ∙ q.names)) (λ e. inl (record { index = q.index; within = lt_of q.within e; names = q.names })) (same_or_not q.index n)

      then : (u : State) → Run T (Names edges n) s u → (o : Option State) → Came T (λ x. edges n ≡ some x) u o → Came T (Names edges (suc n)) s o
      then u r none c = record { node = c.node; named = here c.node c.named; fails = c.fails }
      then u r (some v) c = run_more r c up here split

      go : (o : Option State) → Came T (Names edges n) s o → Came T (Names edges (suc n)) s (follow size ok place o (edges n))
      go none c = record { node = c.node; named = up c.node c.named; fails = c.fails }
      go (some u) c = then u c (follow size ok place (some u) (edges n)) (follow_came u (edges n) c.valid)

  module _ (degree : ℕ → ℕ) (edge : ℕ → ℕ → Option ℕ) (root_count : ℕ) (root_at : ℕ → Option ℕ) where
    abbrev G : Graph
    G = graph_of size ok place degree edge root_count root_at

    -- a search with n turns left and t behind it
    abbrev Way : ℕ → ℕ → Option State → Type 0
    Way n t none = Fails T (Reached G)
    Way n t (some s) = Underway G s × ((s.top ≡ 0) ⊎ (left G s ≤ n)) × (t + left G s ≡ size)

    way_turn : (n t : ℕ) (o : Option State) → Way (suc n) t o → Way n (t + busy size ok place degree edge o) (turn size ok place degree edge o)
    way_turn n t none w = w
    way_turn n t (some s) w = go s.top refl
      where
        came : (k : ℕ) → s.top ≡ suc k → (o : Option State) → Came T (G.Edge (s.entry k)) (popped s k) o → Way n (t + 1) o
        came k e none c = turn_fails w.0 k e c
        came k e (some u) c =
            let l = left_turn w.0 k e c in
            (underway_turn w.0 k e c, ⊎_elim (λ z. absurd (omega arith)) (λ z. inr (omega arith)) w.1, omega (arith, w.2))

        go : (k : ℕ) → s.top ≡ k → Way n (t + at_most_one k) (turn_at size ok place degree edge s k)
        go zero e = (w.0, inl e, omega (arith, w.2))
        go (suc k) e = came k e (turn_at size ok place degree edge s (suc k)) (all_came (edge (s.entry k)) (degree (s.entry k)) (popped s k) (valid_popped k w.0.valid (omega arith)))

    way_search : (n t : ℕ) (o : Option State) → Way n t o → Way 0 (t + turns size ok place degree edge n o) (search size ok place degree edge n o)
    way_search zero t o w = subst (λ (z : ℕ). Way 0 z o) (omega arith) w
    way_search (suc n) t o w =
        subst (λ (z : ℕ). Way 0 z (search size ok place degree edge n (turn size ok place degree edge o))) (omega arith)
        (way_search n (t + busy size ok place degree edge o) (turn size ok place degree edge o) (way_turn n t o w))

    way_start : (o : Option State) → Came T G.Root empty o → Way size 0 o
    way_start none c = record { node = c.node; named = root c.named; fails = c.fails }
    way_start (some s) c =
        let z : ones_among (λ k. 0) size ≡ 0 = no_ones (λ k. 0) size (λ i l. refl) in
        let l = ones_le c.valid in
        (underway_from c.valid (λ x q. (run_first placed (λ k l. refl) c x q).1) c.all (λ x q. (run_first placed (λ k l. refl) c x q).0), inr (omega (arith, c.once)), omega (arith, c.once))

    abbrev turned : ℕ
    turned = turns size ok place degree edge size (started size ok place degree edge root_count root_at)

    whole : Way 0 turned (searched size ok place degree edge root_count root_at)
    whole =
        subst (λ (z : ℕ). Way 0 z (searched size ok place degree edge root_count root_at)) (omega arith)
        (way_search size 0 (started size ok place degree edge root_count root_at)
        (way_start (started size ok place degree edge root_count root_at) (all_came root_at root_count empty (valid_empty (λ k. omega arith) (λ k l. refl) refl))))

    ends : (s : State) → Way 0 turned (some s) → s.top ≡ 0
    ends s w = ⊎_elim (λ z. z) (λ z. omega arith) w.1

    -- any number of turns
    abbrev On : Option State → Type 0
    On none = Unit {0}
    On (some s) = Underway G s

    on : (n t : ℕ) (o : Option State) → Way n t o → On o
    on n t none w = tt
    on n t (some s) w = w.0

    on_turn : (o : Option State) → On o → On (turn size ok place degree edge o)
    on_turn none g = tt
    on_turn (some s) g =
        on (left G s) _ (turn size ok place degree edge (some s))
        (way_turn (left G s) (size - left G s) (some s) (g, inr (omega arith), omega (arith, g.valid.room, ones_le g.valid)))

    on_search : (m : ℕ) (o : Option State) → On o → On (search size ok place degree edge m o)
    on_search zero o g = g
    on_search (suc m) o g = on_search m (turn size ok place degree edge o) (on_turn o g)

    roomy : (o : Option State) → On o → (s : State) → o ≡ some s → s.top ≤ size
    roomy none g s e = absurd (let z : ◌≡◌ {A = ℕ} 0 1 = cc in omega arith)
    roomy (some u) g s e = subst (λ (v : State). v.top ≤ size) (some-injective u s e) (room_le g.valid)

    start_way : Way size 0 (started size ok place degree edge root_count root_at)
    start_way = way_start (started size ok place degree edge root_count root_at) (all_came root_at root_count empty (valid_empty (λ k. omega arith) (λ k l. refl) refl))

    pub search_law : Law size ok place degree edge root_count root_at
    search_law = record {
      exact = λ s e. let w = subst (Way 0 turned) e whole in underway_exact w.0 (ends s w);
      room =
          λ m. roomy (search size ok place degree edge m (started size ok place degree edge root_count root_at))
          (on_search m (started size ok place degree edge root_count root_at) (on size 0 (started size ok place degree edge root_count root_at) start_way));
      fails = λ e. subst (Way 0 turned) e whole;
      once = λ s e. let w = subst (Way 0 turned) e whole in let z = ends s w in let l = ones_le w.0.valid in omega (arith, w.2);
    }
