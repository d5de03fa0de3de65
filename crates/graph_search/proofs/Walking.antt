-- The laws of a search under way: a push, two runs one after the other, a turn, and the end.
use mathlib.Core.Path.{◌≡◌, refl, sym, ap, ◌∙◌, subst}
use mathlib.Core.Logic.{◌⊎◌, inl, inr, ⊎_elim}
use Prim.Native.Nat.{ℕ, suc, ◌≤◌, ◌<◌}
use native.Mathlib.Omega.{arith}
use borrow.Author.Tests.{eq-eqb, ne_eqb}
use Rattle.basics.proofs.Order.{same_or_not}
use Rattle.words.specs.Bits.{ones_among}
use Rattle.words.proofs.Ones.{among_le}
use Rattle.words.proofs.Counts.{among_change, lt_of}
use Rattle.theory.specs.Reach.{Reach, root, next}
use Rattle.graph_search.specs.Walk.{State, Nodes, Placed, Seen, OnStack, Valid, Run, Fails, Graph, popped, Reached, Underway, left, Exact}
use Rattle.graph_search.specs.Search.{put}
use Rattle.theory.proofs.Graph.{reach_append, reach_closed}

pub put_here : (f : ℕ → ℕ) (k v : ℕ) → put f k v k ≡ v
put_here f k v = rw (eq-eqb k k refl) refl

pub put_other : (f : ℕ → ℕ) (k v i : ℕ) → (i ≡ k → ⊥) → put f k v i ≡ f i
put_other f k v i d = rw (ne_eqb i k d) refl

-- ---- runs

module _ {T : Nodes} {s : State} (f : Valid T s) where
  -- over names that are seen already, or none
  pub run_still : {Named : ℕ → Type 0} → ((x : ℕ) → Named x → Seen T s x) → Run T Named s s
  run_still h = record { valid = f; keeps = λ x q. q; stays = λ x q. q; fresh = λ x q. inl q; all = h; once = refl }

  pub ones_le : ones_among s.seen T.size ≤ T.size
  ones_le = among_le s.seen f.bits T.size

  pub room_le : s.top ≤ T.size
  room_le = omega (arith, f.room, ones_le)

-- one run after another
pub run_more : {T : Nodes} {A B C : ℕ → Type 0} {s t u : State} → Run T A s t → Run T B t u → ((x : ℕ) → A x → C x) → ((x : ℕ) → B x → C x) → ((x : ℕ) → C x → A x ⊎ B x) → Run T C s u
run_more {T} {A} {B} {C} {s} {t} {u} a b from_a from_b split = record {
  valid = b.valid;
  keeps = λ x q. b.keeps x (a.keeps x q);
  stays = λ x q. b.stays x (a.stays x q);
  fresh = λ x q. ⊎_elim (λ p. ⊎_elim inl (λ r. inr (from_a x r.0, b.stays x r.1)) (a.fresh x p)) (λ r. inr (from_b x r.0, r.1)) (b.fresh x q);
  all = λ x q. ⊎_elim (λ r. b.keeps x (a.all x r)) (λ r. b.all x r) (split x q);
  once = omega (arith, a.once, b.once);
}

-- the same names said otherwise
pub run_same : {T : Nodes} {A B : ℕ → Type 0} {s u : State} → ((x : ℕ) → A x → B x) → ((x : ℕ) → B x → A x) → Run T A s u → Run T B s u
run_same to from r = record {
  valid = r.valid;
  keeps = r.keeps;
  stays = r.stays;
  fresh = λ x q. ⊎_elim inl (λ o. inr (to x o.0, o.1)) (r.fresh x q);
  all = λ x q. r.all x (from x q);
  once = r.once;
}

-- what a push of x is: its bit is set and it is the last entry
pub record Pushed (T : Nodes) (x : ℕ) (s s' : State) : Type 0 where
  pub bits : (k : ℕ) → s'.seen k < 2
  pub bit : s'.seen (T.place x) ≡ 1
  pub others : (k : ℕ) → k < T.size → (k ≡ T.place x → ⊥) → s'.seen k ≡ s.seen k
  pub last : s'.entry s.top ≡ x
  pub below : (i : ℕ) → i < s.top → s'.entry i ≡ s.entry i
  pub more : s'.top ≡ suc s.top

module _ {T : Nodes} (placed : Placed T) {s : State} (f : Valid T s) (x : ℕ) (ok : T.Ok x) (new : s.seen (T.place x) ≡ 0) where
  -- there is room for it
  pub push_room : s.top < T.size
  push_room =
      let p = T.place x in
      let small : (k : ℕ) → put s.seen p 1 k < 2 =
      λ k. ⊎_elim (λ e. omega (arith, ap (put s.seen p 1) e, put_here s.seen p 1)) (λ e. rw (put_other s.seen p 1 k e) (f.bits k)) (same_or_not k p) in
      let c = among_change s.seen (put s.seen p 1) T.size p (placed.small x ok) (λ i l d. put_other s.seen p 1 i d) in
      let h = put_here s.seen p 1 in
      let l = among_le (put s.seen p 1) small T.size in
      omega (arith, f.room)

  module _ {s' : State} (p : Pushed T x s s') where
    count : ones_among s'.seen T.size ≡ suc (ones_among s.seen T.size)
    count =
        let c = among_change s.seen s'.seen T.size (T.place x) (placed.small x ok) p.others in
        omega (arith, p.bit)

    keep : (k : ℕ) → k < T.size → s.seen k ≡ 1 → s'.seen k ≡ 1
    keep k l e = ⊎_elim (λ q. ap s'.seen q ∙ p.bit) (λ q. p.others k l q ∙ e) (same_or_not k (T.place x))

    stay : (y : ℕ) → OnStack s y → OnStack s' y
    stay y o = record { index = o.index; within = omega (arith, o.within, p.more); names = p.below o.index o.within ∙ o.names }

    on : OnStack s' x
    on = record { index = s.top; within = omega (arith, p.more); names = p.last }

    push_valid : Valid T s'
    push_valid = record {
      bits = p.bits;
      nodes = λ k l e. ⊎_elim (λ q. record { node = x; ok = ok; here = sym q }) (λ q. f.nodes k l (sym (p.others k l q) ∙ e)) (same_or_not k (T.place x));
      stack =
          λ i l. ⊎_elim (λ q. subst (λ (y : ℕ). Seen T s' y) (sym (ap s'.entry q ∙ p.last)) (ok, p.bit))
          (λ q. old i (lt_of (subst (λ (t : ℕ). i < t) p.more l) q)) (same_or_not i s.top);
      room = omega (arith, f.room, p.more, count);
    }
      where
        old : (i : ℕ) → i < s.top → Seen T s' (s'.entry i)
        old i l = let o = f.stack i l in subst (λ (y : ℕ). Seen T s' y) (sym (p.below i l)) (o.0, keep (T.place (s.entry i)) (placed.small (s.entry i) o.0) o.1)

    -- a node that passes and is not seen is pushed
    pub run_push : {Named : ℕ → Type 0} → Named x → ((y : ℕ) → Named y → y ≡ x) → Run T Named s s'
    run_push {Named} n only = record {
      valid = push_valid;
      keeps = λ y q. (q.0, keep (T.place y) (placed.small y q.0) q.1);
      stays = stay;
      fresh =
          λ y q. ⊎_elim (λ e. let z = placed.apart y x q.0 ok e in inr (subst Named (sym z) n, subst (λ (w : ℕ). OnStack s' w) (sym z) on))
          (λ e. inl (q.0, sym (p.others (T.place y) (placed.small y q.0) e) ∙ q.1)) (same_or_not (T.place y) (T.place x));
      all = λ y q. subst (λ (w : ℕ). Seen T s' w) (sym (only y q)) (ok, p.bit);
      once = omega (arith, p.more, count);
    }

-- ---- the search

-- the state before: no bit of a node is 1, and the stack is empty
pub valid_empty : {T : Nodes} {s : State} → ((k : ℕ) → s.seen k < 2) → ((k : ℕ) → k < T.size → s.seen k ≡ 0) → s.top ≡ 0 → Valid T s
valid_empty {T} {s} b z e = record {
  bits = b;
  nodes = λ k l q. absurd (omega (arith, z k l));
  stack = λ i l. absurd (omega arith);
  room = omega arith;
}

pub valid_popped : {T : Nodes} {s : State} (t : ℕ) → Valid T s → t ≤ s.top → Valid T (popped s t)
valid_popped {T} {s} t f l = record {
  bits = f.bits;
  nodes = f.nodes;
  stack = λ i q. f.stack i (omega arith);
  room = omega (arith, f.room);
}

-- after a run from no bit at all, what is seen is what was named, and all of it is on the stack
pub run_first : {T : Nodes} {Named : ℕ → Type 0} {s u : State} → Placed T → ((k : ℕ) → k < T.size → s.seen k ≡ 0) → Run T Named s u → (x : ℕ) → Seen T u x → Named x × OnStack u x
run_first {T} {Named} {s} {u} p z r x q = ⊎_elim (λ o. absurd (omega (arith, o.1, z (T.place x) (p.small x o.0)))) (λ o. o) (r.fresh x q)

-- the same graph with its roots said otherwise
module _ {T : Nodes} {R S : ℕ → Type 0} {E : ℕ → ℕ → Type 0} (to : (x : ℕ) → R x → S x) where
  pub fails_roots : Fails T (Reach R E) → Fails T (Reach S E)
  fails_roots f = record { node = f.node; named = reach_append (λ x r. root (to x r)) f.named; fails = f.fails }

  pub exact_roots : {seen : ℕ → ℕ} → ((x : ℕ) → S x → R x) → Exact (record { nodes = T; Root = R; Edge = E }) seen → Exact (record { nodes = T; Root = S; Edge = E }) seen
  exact_roots from e = record { reached = λ x r. e.reached x (reach_append (λ y q. root (from y q)) r); only = λ x ok b. reach_append (λ y q. root (to y q)) (e.only x ok b); bits = e.bits }

-- bits that are the same at every place
pub exact_bits : {G : Graph} {a b : ℕ → ℕ} → Placed G.nodes → ((k : ℕ) → k < G.nodes.size → a k ≡ b k) → Exact G a → Exact G b
exact_bits p same e = record {
  reached = λ x r. let q = e.reached x r in (q.0, sym (same _ (p.small x q.0)) ∙ q.1);
  only = λ x ok q. e.only x ok (same _ (p.small x ok) ∙ q);
  bits = λ k l q. e.bits k l (same k l ∙ q);
}

module _ {G : Graph} {s : State} where
  -- at a state whose seen nodes are the roots, all on the stack
  pub underway_from : Valid G.nodes s → ((x : ℕ) → Seen G.nodes s x → OnStack s x) → ((x : ℕ) → G.Root x → Seen G.nodes s x) → ((x : ℕ) → Seen G.nodes s x → G.Root x) → Underway G s
  underway_from f on all only = record { valid = f; reached = λ x q. root (only x q); rooted = all; closed = λ x q. inl (on x q) }

  module _ (g : Underway G s) where
    module _ (t : ℕ) (less : s.top ≡ suc t) where
      pub last_seen : Seen G.nodes s (s.entry t)
      last_seen = g.valid.stack t (omega arith)

      -- a turn: the last entry is taken off, then a run over its edges
      pub underway_turn : {u : State} → Run G.nodes (G.Edge (s.entry t)) (popped s t) u → Underway G u
      underway_turn {u} r = record {
        valid = r.valid;
        reached = λ x q. ⊎_elim (λ o. g.reached x o) (λ o. next (g.reached (s.entry t) last_seen) o.0) (r.fresh x q);
        rooted = λ x q. r.keeps x (g.rooted x q);
        closed = λ x q. ⊎_elim (λ o. old x (g.closed x o)) (λ o. inl o.1) (r.fresh x q);
      }
        where
          waiting : (x : ℕ) (o : OnStack s x) → (o.index ≡ t) ⊎ (o.index ≡ t → ⊥) → OnStack u x ⊎ ((y : ℕ) → G.Edge x y → Seen G.nodes u y)
          waiting x o (inl e) = inr (λ y h. r.all y (subst (λ (z : ℕ). G.Edge z y) (sym o.names ∙ ap s.entry e) h))
          waiting x o (inr e) = inl (r.stays x (record { index = o.index; within = lt_of (subst (λ (z : ℕ). o.index < z) less o.within) e; names = o.names }))

          old : (x : ℕ) → OnStack s x ⊎ ((y : ℕ) → G.Edge x y → Seen G.nodes s y) → OnStack u x ⊎ ((y : ℕ) → G.Edge x y → Seen G.nodes u y)
          old x (inl o) = waiting x o (same_or_not o.index t)
          old x (inr o) = inr (λ y h. r.keeps y (o y h))

      -- each turn leaves 1 less to do
      pub left_turn : {u : State} → Run G.nodes (G.Edge (s.entry t)) (popped s t) u → left G s ≡ suc (left G u)
      left_turn {u} r = omega (arith, r.once, ones_le g.valid, ones_le r.valid)

      -- an edge that names a node that does not pass
      pub turn_fails : Fails G.nodes (G.Edge (s.entry t)) → Fails G.nodes (Reached G)
      turn_fails f = record { node = f.node; named = next (g.reached (s.entry t) last_seen) f.named; fails = f.fails }

    -- the end
    pub underway_exact : s.top ≡ 0 → Exact G s.seen
    underway_exact e = record {
      reached = λ x q. reach_closed (Seen G.nodes s) g.rooted (λ y z p h. ⊎_elim (λ o. absurd (omega (arith, o.within))) (λ o. o z h) (g.closed y p)) q;
      only = λ x ok q. g.reached x (ok, q);
      bits = g.valid.nodes;
    }
