-- The steps of the search over plain lists: what one word, one more word of a run, a turn and the whole search do.
use mathlib.Core.Path.{◌≡◌, refl, sym, ap, ◌∙◌, subst}
use mathlib.Core.Logic.{◌⊎◌, inl, inr, ⊎_elim}
use mathlib.Core.List.{List, ◌++◌}
use mathlib.Core.Bool.{Bool, true, false}
use Prim.Native.Nat.{ℕ, zero, suc, ◌+◌, ◌-◌, ◌/◌, ◌%◌, ◌≤◌, ◌<◌}
use native.Mathlib.Numerals.{add-one}
use native.Mathlib.Omega.{arith}
use lib.ListN.{length, get_or, set, replicate}
use lib.Seq.{get_or-set_same, get_or-set_other}
use Rattle.std.specs.Prelude.{Option, Some, None}
use Rattle.basics.specs.Pick.{pick}
use Rattle.basics.proofs.Order.{same_or_not}
use Rattle.words.specs.Bits.{bit_of, bit_at, set_bit, with_bit}
use Rattle.words.proofs.Word.{zero_of_not_one, bit_zero}
use Rattle.words.proofs.Lists.{at_lt, bit_split, bits_same, set_there, set-elsewhere, length-set_bit}
use Rattle.words.proofs.Counts.{lt_of}
use Rattle.layout.specs.declared.Geometry.{Geometry}
use Rattle.layout.specs.Geometry.{len, mark_bit}
use Rattle.layout.specs.Mem.{Mem}
use Rattle.layout.proofs.Sizes.{mark_word}
use Rattle.theory.specs.Reach.{root}
use Rattle.model.specs.Records.{pointer_count}
use Rattle.examine_search.proofs.Covering.{is_entered}
use Rattle.model.specs.Consistent.{RecordOk}
use Rattle.model_laws.proofs.Blocks.{bit_below, same_bit}
use Rattle.model_laws.proofs.Apart.{class_of, field_inside}
use Rattle.graph_search.specs.Walk.{State, Placed, Seen, Valid, Run, Underway, left}
use Rattle.graph_search.proofs.Walking.{room_le, run_still, run_more, run_same, Pushed, push_room, run_push, valid_empty, valid_popped, run_first}
use Rattle.graph_search.proofs.Walking.{underway_from, exact_roots, fails_roots, underway_turn, left_turn, turn_fails, underway_exact}
use Rattle.examine_search.specs.declared.Edges.{Edges}
use Rattle.examine_search.specs.declared.Edges.TheVariants.{All, Unentered}
use Rattle.examine_search.specs.Graph.{records_of, followed, InRun, Follows, graph_of, graph_from}
use Rattle.examine_search.specs.Scratch.{search_words, Blank, state_of, Enters, Came, Searched, Fresh}
use Rattle.layout.specs.Region as Region

pub placed : (g : Geometry) (m : Mem) → Placed (records_of g m)
placed g m = record {
  small = λ x r. bit_below g m x (class_of g m x r) r.inside;
  apart = λ x y r q e. same_bit g m x y (class_of g m x r) (class_of g m y q) r.aligned q.aligned e;
}

-- ---- one word

-- a set bit leaves the other words
set_word : (s : List ℕ) (k j : ℕ) → (j ≡ k / 32 → ⊥) → get_or (set_bit s k) j 0 ≡ get_or s j 0
unfolding set_bit
set_word s k j d = get_or-set_other s (k / 32) j (with_bit (get_or s (k / 32) 0) (k % 32)) 0 d

-- the word of a bit lies before the stack
pub bit_word : (g : Geometry) (k : ℕ) → k < len g Region.trace → k / 32 < len g Region.marks
bit_word g k l = mark_word g k l

module _ (g : Geometry) (m : Mem) (s : List ℕ) (top at k : ℕ) (f : Valid (records_of g m) (state_of g s top)) (ok : RecordOk g m at) (ek : k ≡ mark_bit at) where
  here : (bit_at s k ≡ 1 → ⊥) → bit_at s (mark_bit at) ≡ 0
  here d = zero_of_not_one (bit_at s (mark_bit at)) (at_lt s (mark_bit at)) (λ e. d (ap (bit_at s) ek ∙ e))

  pub enter_room : (bit_at s k ≡ 1 → ⊥) → top < len g Region.trace
  enter_room d = push_room (placed g m) f at ok (here d)

  pub bit_room : k < len g Region.trace
  bit_room = subst (λ z. z < len g Region.trace) (sym ek) ((placed g m).small at ok)

  module _ (size : length s ≡ search_words g) (w : ℕ) (names : w ≡ suc at) where
    -- a set bit and a new entry are a push
    pushes : (d : bit_at s k ≡ 1 → ⊥) → Pushed (records_of g m) at (state_of g s top) (state_of g (set (set_bit s k) (len g Region.marks + top) at) (top + 1))
    pushes d =
        let u = set_bit s k in
        let b = len g Region.marks in
        let v = set u (b + top) at in
        let l : length u ≡ search_words g = length-set_bit s k ∙ size in
        let r = enter_room d in
        let p = bit_room in
        let q = bit_word g k p in
        let same : (i : ℕ) → i < len g Region.trace → bit_at v i ≡ bit_at u i = λ i h. let y = bit_word g i h in bits_same v u i (get_or-set_other u (b + top) (i / 32) at 0 (λ e. omega arith)) in
        record {
          bits = at_lt v;
          bit = subst (λ z. bit_at v z ≡ 1) ek (same k p ∙ set_there s k (omega arith));
          others = λ i h e. same i h ∙ set-elsewhere s k (omega arith) i (λ z. e (z ∙ ek));
          last = get_or-set_same u (b + top) at 0 (omega arith);
          below = λ i h. get_or-set_other u (b + top) (b + i) at 0 (λ e. omega arith) ∙ set_word s k (b + i) (λ e. omega arith);
          more = omega arith;
        }

    only : (y : ℕ) → w ≡ suc y → y ≡ at
    only y q = omega arith

    pub enter_run : (r : ℕ) (s' : List ℕ) → Enters g at k s top r s' → Run (records_of g m) (λ x. w ≡ suc x) (state_of g s top) (state_of g s' r)
    enter_run r s' e = go (same_or_not (bit_at s k) 1)
      where
        go : (bit_at s k ≡ 1) ⊎ (bit_at s k ≡ 1 → ⊥) → Run (records_of g m) (λ x. w ≡ suc x) (state_of g s top) (state_of g s' r)
        go (inl h) =
            let q = e.old h in
            rw (q.0, q.1) (run_still f (λ y z. subst (λ (x : ℕ). Seen (records_of g m) (state_of g s top) x) (sym (only y z)) (ok, subst (λ i. bit_at s i ≡ 1) ek h)))
        go (inr h) = let q = e.new h in rw (q.0, q.1) (run_push (placed g m) f at ok (here h) (pushes h) names only)

-- ---- a run

module _ (g : Geometry) (m : Mem) (s : State) where
  -- one run after another
  pub came_then : {A B C : ℕ → Type 0} → ((x : ℕ) → A x → C x) → ((x : ℕ) → B x → C x) → ((x : ℕ) → C x → A x ⊎ B x)
      → (t : ℕ) (r : Option ℕ) (before after : List ℕ) → Came g m A s (Some t) before → Came g m B (state_of g before t) r after → Came g m C s r after
  came_then up here split t (Some u) before after c e = run_more c e up here split
  came_then up here split t None before after c e = record { node = e.node; named = here e.node e.named; fails = e.fails }

  -- a name that fails the test is one of more names
  pub came_fails : {A C : ℕ → Type 0} → ((x : ℕ) → A x → C x) → (after : List ℕ) → Came g m A s None after → (last : List ℕ) → Came g m C s None last
  came_fails up after c last = record { node = c.node; named = up c.node c.named; fails = c.fails }

  -- the same names said otherwise
  pub came_same : {A B : ℕ → Type 0} → ((x : ℕ) → A x → B x) → ((x : ℕ) → B x → A x) → (met : Option ℕ) (after : List ℕ) → Came g m A s met after → Came g m B s met after
  came_same to from (Some t) after c = run_same to from c
  came_same to from None after c = record { node = c.node; named = to c.node c.named; fails = c.fails }

-- one word more of a run
module _ (list : List ℕ) (from f x : ℕ) where
  run_up : InRun list from f x → InRun list from (f + 1) x
  run_up q = record { index = q.index; within = omega (arith, q.within); names = q.names }

  run_here : get_or list (from + f) 0 ≡ suc x → InRun list from (f + 1) x
  run_here q = record { index = f; within = omega arith; names = q }

  run_split : InRun list from (f + 1) x → InRun list from f x ⊎ (get_or list (from + f) 0 ≡ suc x)
  run_split q =
      ⊎_elim (λ e. inr (ap (λ (i : ℕ). get_or list (from + i) 0) (sym e) ∙ q.names))
      (λ e. inl (record { index = q.index; within = lt_of (subst (λ (z : ℕ). q.index < z) (add-one f) q.within) e; names = q.names }))
      (same_or_not q.index f)

module _ (g : Geometry) (m : Mem) (list : List ℕ) (from : ℕ) (s : State) where
  pub came_more : (f w : ℕ) → w ≡ get_or list (from + f) 0 → (t : ℕ) (r : Option ℕ) (before after : List ℕ) → Came g m (InRun list from f) s (Some t) before
      → Came g m (λ x. w ≡ suc x) (state_of g before t) r after → Came g m (InRun list from (f + 1)) s r after
  came_more f w e t r before after c q =
      came_then g m s (run_up list from f) (λ x q. run_here list from f x (sym e ∙ q)) (λ x q. ⊎_elim inl (λ z. inr (e ∙ z)) (run_split list from f x q)) t r before after c q

-- ---- a turn

pick_le : (b : Bool) (k : ℕ) → pick b 0 k ≤ k
pick_le true k = omega arith
pick_le false k = omega arith

followed_le : (e : Edges) (g : Geometry) (m : Mem) (at : ℕ) → followed e g m at ≤ pointer_count m at
followed_le All g m at = omega arith
followed_le Unentered g m at = pick_le (is_entered g m at) (pointer_count m at)

-- where the stack begins, as the code reads it
pub base_is : (g : Geometry) (n t : ℕ) → n ≡ search_words g → t ≡ len g Region.trace → n - t ≡ len g Region.marks
base_is g n t en et = omega arith

-- b is where the stack begins
module _ (g : Geometry) (m : Mem) (s : List ℕ) (top : ℕ) (f : Valid (records_of g m) (state_of g s top)) (some : 0 < top) (b : ℕ) (eb : b ≡ len g Region.marks) where
  abbrev last : ℕ
  last = get_or s (b + (top - 1)) 0

  pub turn_room : top ≤ len g Region.trace
  turn_room = room_le f

  -- the last entry is a record, so its words lie within the heap
  pub turn_record : RecordOk g m last
  turn_record = subst (λ z. RecordOk g m (get_or s (z + (top - 1)) 0)) (sym eb) (f.stack (top - 1) (omega arith)).0

  pub turn_edges : (e : Edges) → last + 1 + followed e g m last ≤ len g Region.heap
  turn_edges e = let l = field_inside g m last turn_record (pointer_count m last) (omega arith) in let h = followed_le e g m last in omega arith

  pub turn_valid : Valid (records_of g m) (state_of g s (top - 1))
  turn_valid = valid_popped (top - 1) f (omega arith)

  pub turn_came : (e : Edges) (n : ℕ) → n ≡ followed e g m last → (met : Option ℕ) (after : List ℕ) → Came g m (InRun m.heap (last + 1) n) (state_of g s (top - 1)) met after
      → Came g m (Follows e g m (get_or s (len g Region.marks + (top - 1)) 0)) (state_of g s (top - 1)) met after
  turn_came e n en met after c =
      subst (λ (z : ℕ). Came g m (Follows e g m (get_or s (z + (top - 1)) 0)) (state_of g s (top - 1)) met after) eb
      (subst (λ (z : ℕ). Came g m (InRun m.heap (last + 1) z) (state_of g s (top - 1)) met after) en c)

-- ---- the search

zeros_before : (n : ℕ) (rest : List ℕ) (j : ℕ) → j < n → ◌≡◌ {A = ℕ} (get_or (replicate n 0 ++ rest) j 0) 0
zeros_before zero rest j l = absurd (omega arith)
zeros_before (suc n) rest zero l = refl
zeros_before (suc n) rest (suc j) l = zeros_before n rest j (omega arith)

pub cleared_bits : (g : Geometry) (s : List ℕ) → ((j : ℕ) → j < len g Region.marks → get_or s j 0 ≡ 0) → Blank g s
cleared_bits g s z k l = bit_split s k ∙ ap (λ (w : ℕ). bit_of w (k % 32)) (z (k / 32) (bit_word g k l)) ∙ bit_zero (k % 32)

-- zeros before the stack
pub cleared_part : (g : Geometry) (bits stack : List ℕ) (n : ℕ) → bits ≡ replicate n 0 → len g Region.marks ≤ n → Blank g (bits ++ stack)
cleared_part g bits stack n e l = cleared_bits g (bits ++ stack) (λ j h. subst (λ (z : List ℕ). get_or (z ++ stack) j 0 ≡ 0) (sym e) (zeros_before n stack j (omega arith)))

module _ (g : Geometry) (m : Mem) (Named : ℕ → Type 0) (s : List ℕ) (blank : Blank g s) where
  pub start_valid : Valid (records_of g m) (state_of g s 0)
  start_valid = valid_empty (at_lt s) blank refl

  -- after the roots
  pub start_waits : (t : ℕ) (after : List ℕ) → Came g m Named (state_of g s 0) (Some t) after → Fresh g m after t
  start_waits t after c = record { valid = c.valid; waits = λ x q. (run_first (placed g m) blank c x q).1 }

  -- what was named is what is seen
  pub finish_named : (e : Edges) (t : ℕ) (r : Bool) (before after : List ℕ) → Came g m Named (state_of g s 0) (Some t) before → Searched (graph_from e g m (state_of g before t)) r after → Searched (graph_of e g m Named) r after
  finish_named e t true before after c f = exact_roots (λ x q. (run_first (placed g m) blank c x q).0) c.all f
  finish_named e t false before after c f = fails_roots (λ x q. (run_first (placed g m) blank c x q).0) f

  pub named_fails : (e : Edges) (before after : List ℕ) → Came g m Named (state_of g s 0) None before → Searched (graph_of e g m Named) false after
  named_fails e before after c = record { node = c.node; named = root c.named; fails = c.fails }

-- the search under way, and what is left to do
abbrev pub Under : Geometry → Mem → Edges → List ℕ → ℕ → ℕ → List ℕ → Type 0
Under g m e before start t scratch = Underway (graph_from e g m (state_of g before start)) (state_of g scratch t)

abbrev pub left_under : Geometry → Mem → Edges → List ℕ → ℕ → ℕ → List ℕ → ℕ
left_under g m e before start t scratch = left (graph_from e g m (state_of g before start)) (state_of g scratch t)

module _ (g : Geometry) (m : Mem) (e : Edges) (before : List ℕ) (start : ℕ) where
  pub under_start : Fresh g m before start → Under g m e before start start before
  under_start f = underway_from f.valid f.waits (λ x q. q) (λ x q. q)

  module _ (v : ℕ) (s after : List ℕ) (h : Under g m e before start v s) (some : 0 < v) where
    popped : v ≡ suc (v - 1)
    popped = omega (arith, some)

    -- one turn more
    pub under_more : (u : ℕ) → Came g m (Follows e g m (get_or s (len g Region.marks + (v - 1)) 0)) (state_of g s (v - 1)) (Some u) after
        → Under g m e before start u after × (left_under g m e before start u after < left_under g m e before start v s)
    under_more u q = let l = left_turn h (v - 1) popped q in (underway_turn h (v - 1) popped q, omega arith)

    pub under_fails : Came g m (Follows e g m (get_or s (len g Region.marks + (v - 1)) 0)) (state_of g s (v - 1)) None after → Searched (graph_from e g m (state_of g before start)) false after
    under_fails q = turn_fails h (v - 1) popped q

  -- the end
  pub under_end : (v : ℕ) (s : List ℕ) → Under g m e before start v s → v ≤ 0 → Searched (graph_from e g m (state_of g before start)) true s
  under_end v s h w = underway_exact h (omega (arith, w))
