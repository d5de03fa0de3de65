-- A segment put on a stack and taken off, an empty stack, and a stack that a call leaves alone.
use mathlib.Core.Path.{◌≡◌, sym, ◌∙◌, ap, subst}
use mathlib.Core.Logic.{◌⊎◌, inl, inr, ⊎_elim}
use mathlib.Core.Bool.{Bool, true, false, true≢false}
use Prim.Native.Nat.{ℕ, ◌+◌, ◌-◌, ◌*◌, ◌≤◌, ◌<◌}
use native.Mathlib.Omega.{arith}
use Rattle.basics.specs.Pick.{one_if}
use Rattle.basics.proofs.Order.{le_or_lt, same_or_not}
use Rattle.words.specs.Bits.{ones_among}
use Rattle.words.proofs.Ones.{among_same, among_le}
use Rattle.layout.specs.declared.Geometry.{Geometry}
use Rattle.layout.specs.Geometry.{stack_count}
use Rattle.layout.specs.Mem.{Mem, stack_word, set_stack, Sizes}
use Rattle.model.specs.Segments.{count, entry, top, pop, stacked}
use Rattle.model.specs.Consistent.{StackOk}
use Rattle.model_laws.proofs.Bools.{one_less}
use Rattle.model_laws.proofs.Words.{stack_there, stack_other}
use Rattle.words.proofs.Counts.{among_change, zero_less, no_ones}
use Rattle.model_laws.proofs.Lengths.{sizes_stack}

-- a stack has no more entries than there are segments
pub count_le : (g : Geometry) (m : Mem) (t : ℕ) (test : ℕ → Bool) → StackOk g m t test → count g m t ≤ g.segments
count_le g m t test o = let e = o.number in let f = among_le (λ i. one_if (test i)) (λ i. one_less (test i)) g.segments in omega arith

-- and room for a segment that is not on it
pub stack_room : (g : Geometry) (m : Mem) (t : ℕ) (test : ℕ → Bool) → StackOk g m t test → (r : ℕ) → r < g.segments → test r ≡ false → count g m t < g.segments
stack_room g m t test o r l e =
    let n = o.number in
    let f = zero_less (λ i. one_if (test i)) (λ i. one_less (test i)) g.segments r l (ap one_if e) in
    omega arith

-- ---- a stack that is empty: no segment passes the test, and its count is 0

module _ (g : Geometry) (m : Mem) (t : ℕ) (test : ℕ → Bool) (none : (s : ℕ) → s < g.segments → test s ≡ false) where
  none_pass : ones_among (λ s. one_if (test s)) g.segments ≡ 0
  none_pass = no_ones (λ s. one_if (test s)) g.segments (λ i l. ap one_if (none i l))

  pub stack_none : count g m t ≡ 0 → StackOk g m t test
  stack_none z = record {
    number = z ∙ sym none_pass;
    members = λ i l. absurd (omega arith);
    once = λ i j l k q. omega arith;
    all = λ s l q. absurd (true≢false (sym q ∙ none s l));
  }

  pub none_stacked : StackOk g m t test → count g m t ≡ 0
  none_stacked o = o.number ∙ none_pass

-- ---- a stack whose words and whose test stay

pub stack_same : (g : Geometry) (m m' : Mem) (t : ℕ) (test test' : ℕ → Bool) → StackOk g m t test → count g m' t ≡ count g m t
    → ((i : ℕ) → i < count g m t → entry g m' t i ≡ entry g m t i) → ((s : ℕ) → s < g.segments → test' s ≡ test s)
    → StackOk g m' t test'
stack_same g m m' t test test' o c e h = record {
  number = c ∙ o.number ∙ among_same _ _ g.segments (λ s l. ap one_if (sym (h s l)));
  members = λ i l. let k : i < count g m t = subst (λ z. i < z) c l in let q = o.members i k in (subst (λ z. z < g.segments) (sym (e i k)) q.0, ap test' (e i k) ∙ h _ q.0 ∙ q.1);
  once = λ i j l k q. let y : j < count g m t = subst (λ z. j < z) c k in let x : i < count g m t = omega arith in o.once i j l y (sym (e i x) ∙ q ∙ e j y);
  all = λ s l q. let a = o.all s l (sym (h s l) ∙ q) in (a.0, subst (λ z. a.0 < z) (sym c) a.1, e a.0 a.1 ∙ a.2);
}

module _ (g : Geometry) (m : Mem) (s : Sizes g m) (t : ℕ) (lt : t < stack_count) (test : ℕ → Bool) (o : StackOk g m t test) (test' : ℕ → Bool) where
  -- ---- put on

  module _ (r : ℕ) (l : r < g.segments) (old : test r ≡ false) (new : test' r ≡ true) (rest : (i : ℕ) → i < g.segments → (i ≡ r → ⊥) → test' i ≡ test i) where
    more : ones_among (λ i. one_if (test' i)) g.segments ≡ count g m t + 1
    more =
        let e = among_change (λ i. one_if (test i)) (λ i. one_if (test' i)) g.segments r l (λ i x y. ap one_if (rest i x y)) in
        let a : one_if (test r) ≡ 0 = ap one_if old in
        let b : one_if (test' r) ≡ 1 = ap one_if new in
        let n = o.number in
        omega arith

    push_room : count g m t < g.segments
    push_room = stack_room g m t test o r l old

    abbrev m₁ : Mem
    m₁ = set_stack m (t * (1 + g.segments) + 1 + count g m t) r

    slot : t * (1 + g.segments) + 1 + count g m t ≡ t * (1 + g.segments) + (1 + count g m t)
    slot = omega arith

    first_other : (t' j : ℕ) → j < 1 + g.segments → (t' ≡ t → j ≡ 1 + count g m t → ⊥) → stack_word m₁ (t' * (1 + g.segments) + j) ≡ stack_word m (t' * (1 + g.segments) + j)
    first_other t' j h f = let p = push_room in rw slot (stack_other g m s t (1 + count g m t) r lt (omega arith) t' j h f)

    first_there : stack_word m₁ (t * (1 + g.segments) + (1 + count g m t)) ≡ r
    first_there = let p = push_room in rw slot (stack_there g m s t (1 + count g m t) r lt (omega arith))

    no_add : (x : ℕ) → x ≡ x + 0
    no_add x = omega arith

    pub push_other : (t' j : ℕ) → j < 1 + g.segments → (t' ≡ t → j ≡ 1 + count g m t → ⊥) → (t' ≡ t → j ≡ 0 → ⊥)
        → stack_word (stacked g m t r) (t' * (1 + g.segments) + j) ≡ stack_word m (t' * (1 + g.segments) + j)
    push_other t' j h f k =
        subst (λ z. stack_word (set_stack m₁ z (count g m t + 1)) (t' * (1 + g.segments) + j) ≡ stack_word m₁ (t' * (1 + g.segments) + j))
        (sym (no_add (t * (1 + g.segments)))) (stack_other g m₁ (sizes_stack g m s _ _) t 0 (count g m t + 1) lt (omega arith) t' j h k)
        ∙ first_other t' j h f

    pub push_count : count g (stacked g m t r) t ≡ count g m t + 1
    push_count =
        subst (λ z. stack_word (set_stack m₁ z (count g m t + 1)) z ≡ count g m t + 1) (sym (no_add (t * (1 + g.segments))))
        (stack_there g m₁ (sizes_stack g m s _ _) t 0 (count g m t + 1) lt (omega arith))

    entry_at : (m' : Mem) (t' i : ℕ) → entry g m' t' i ≡ stack_word m' (t' * (1 + g.segments) + (1 + i))
    entry_at m' t' i = ap (stack_word m') (let e : t' * (1 + g.segments) + 1 + i ≡ t' * (1 + g.segments) + (1 + i) = omega arith in e)

    pub push_entry : (i : ℕ) → i < count g m t → entry g (stacked g m t r) t i ≡ entry g m t i
    push_entry i h = let p = push_room in entry_at (stacked g m t r) t i ∙ push_other t (1 + i) (omega arith) (λ e x. omega arith) (λ e x. omega arith) ∙ sym (entry_at m t i)

    pub push_last : entry g (stacked g m t r) t (count g m t) ≡ r
    push_last = let p = push_room in entry_at (stacked g m t r) t (count g m t)
        ∙ subst
        (λ z. stack_word (set_stack m₁ z (count g m t + 1)) (t * (1 + g.segments) + (1 + count g m t)) ≡ stack_word m₁ (t * (1 + g.segments) + (1 + count g m t)))
        (sym (no_add (t * (1 + g.segments))))
        (stack_other g m₁ (sizes_stack g m s _ _) t 0 (count g m t + 1) lt (omega arith) t (1 + count g m t) (omega arith) (λ e x. omega arith))
        ∙ first_there

    is_new : (i : ℕ) → i < g.segments → test i ≡ true → test' i ≡ true
    is_new i h e = go (same_or_not i r)
      where
        go : (i ≡ r) ⊎ (i ≡ r → ⊥) → test' i ≡ true
        go (inl q) = ap test' q ∙ new
        go (inr q) = rest i h q ∙ e

    last? : (i : ℕ) → i < count g m t + 1 → (i < count g m t) ⊎ (i ≡ count g m t)
    last? i h = go (le_or_lt (count g m t) i)
      where
        go : (count g m t ≤ i) ⊎ (i < count g m t) → (i < count g m t) ⊎ (i ≡ count g m t)
        go (inl k) = inr (omega arith)
        go (inr k) = inl k

    pub push_ok : StackOk g (stacked g m t r) t test'
    push_ok = record {
      number = push_count ∙ sym more;
      members = λ i h. member i (last? i (subst (λ z. i < z) push_count h));
      once = λ i j h k e. twice i j h (last? j (subst (λ z. j < z) push_count k)) e;
      all = λ i h e. found i h e (same_or_not i r);
    }
      where
        member : (i : ℕ) → (i < count g m t) ⊎ (i ≡ count g m t) → (entry g (stacked g m t r) t i < g.segments) × (test' (entry g (stacked g m t r) t i) ≡ true)
        member i (inl h) = let q = o.members i h in (subst (λ z. z < g.segments) (sym (push_entry i h)) q.0, ap test' (push_entry i h) ∙ is_new _ q.0 q.1)
        member i (inr h) = let e : entry g (stacked g m t r) t i ≡ r = ap (entry g (stacked g m t r) t) h ∙ push_last in (subst (λ z. z < g.segments) (sym e) l, ap test' e ∙ new)

        twice : (i j : ℕ) → i < j → (j < count g m t) ⊎ (j ≡ count g m t) → entry g (stacked g m t r) t i ≡ entry g (stacked g m t r) t j → ⊥
        twice i j h (inl k) e = let x : i < count g m t = omega arith in o.once i j h k (sym (push_entry i x) ∙ e ∙ push_entry j k)
        twice i j h (inr k) e =
            let x : i < count g m t = omega arith in
            let z : entry g m t i ≡ r = sym (push_entry i x) ∙ e ∙ ap (entry g (stacked g m t r) t) k ∙ push_last in
            true≢false (sym (o.members i x).1 ∙ ap test z ∙ old)

        found : (i : ℕ) → i < g.segments → test' i ≡ true → (i ≡ r) ⊎ (i ≡ r → ⊥) → (j : ℕ) × (j < count g (stacked g m t r) t) × (entry g (stacked g m t r) t j ≡ i)
        found i h e (inl q) = (count g m t, subst (λ z. count g m t < z) (sym push_count) (omega arith), push_last ∙ sym q)
        found i h e (inr q) =
            let a = o.all i h (sym (rest i h q) ∙ e) in
            let k : a.0 < count g m t = a.1 in
            (a.0, subst (λ z. a.0 < z) (sym push_count) (omega arith), push_entry a.0 k ∙ a.2)

  -- ---- taken off

  module _ (some : 1 ≤ count g m t) (gone : test' (top g m t) ≡ false) (rest : (i : ℕ) → i < g.segments → (i ≡ top g m t → ⊥) → test' i ≡ test i) where
    pub top_member : (top g m t < g.segments) × (test (top g m t) ≡ true)
    top_member = o.members (count g m t - 1) (omega arith)

    no_more : (x : ℕ) → x ≡ x + 0
    no_more x = omega arith

    pub pop_count : count g (pop g m t) t ≡ count g m t - 1
    pop_count = subst (λ z. stack_word (set_stack m z (count g m t - 1)) z ≡ count g m t - 1) (sym (no_more (t * (1 + g.segments)))) (stack_there g m s t 0 (count g m t - 1) lt (omega arith))

    pub pop_other : (t' j : ℕ) → j < 1 + g.segments → (t' ≡ t → j ≡ 0 → ⊥) → stack_word (pop g m t) (t' * (1 + g.segments) + j) ≡ stack_word m (t' * (1 + g.segments) + j)
    pop_other t' j h k =
        subst (λ z. stack_word (set_stack m z (count g m t - 1)) (t' * (1 + g.segments) + j) ≡ stack_word m (t' * (1 + g.segments) + j))
        (sym (no_more (t * (1 + g.segments)))) (stack_other g m s t 0 (count g m t - 1) lt (omega arith) t' j h k)

    pub pop_entry : (i : ℕ) → i < count g m t → entry g (pop g m t) t i ≡ entry g m t i
    pop_entry i h =
        let p = count_le g m t test o in
        let e : t * (1 + g.segments) + 1 + i ≡ t * (1 + g.segments) + (1 + i) = omega arith in
        ap (stack_word (pop g m t)) e ∙ pop_other t (1 + i) (omega arith) (λ e x. omega arith) ∙ sym (ap (stack_word m) e)

    less : ones_among (λ i. one_if (test' i)) g.segments + 1 ≡ count g m t
    less =
        let q = top_member in
        let e = among_change (λ i. one_if (test i)) (λ i. one_if (test' i)) g.segments (top g m t) q.0 (λ i x y. ap one_if (rest i x y)) in
        let a : one_if (test (top g m t)) ≡ 1 = ap one_if q.1 in
        let b : one_if (test' (top g m t)) ≡ 0 = ap one_if gone in
        let n = o.number in
        omega arith

    -- an entry below the top is another segment
    below : (i : ℕ) → i < count g m t - 1 → entry g m t i ≡ top g m t → ⊥
    below i h e = o.once i (count g m t - 1) h (omega arith) e

    pub pop_ok : StackOk g (pop g m t) t test'
    pop_ok = record {
      number = pop_count ∙ (let e = less in omega arith);
      members = λ i h. member i (subst (λ z. i < z) pop_count h);
      once =
          λ i j h k e.
          let y : j < count g m t - 1 = subst (λ z. j < z) pop_count k in
          let x : j < count g m t = omega arith in
          let w : i < count g m t = omega arith in
          o.once i j h x (sym (pop_entry i w) ∙ e ∙ pop_entry j x);
      all = λ i h e. found i h e (same_or_not i (top g m t));
    }
      where
        member : (i : ℕ) → i < count g m t - 1 → (entry g (pop g m t) t i < g.segments) × (test' (entry g (pop g m t) t i) ≡ true)
        member i h =
            let x : i < count g m t = omega arith in
            let q = o.members i x in
            (subst (λ z. z < g.segments) (sym (pop_entry i x)) q.0, ap test' (pop_entry i x) ∙ rest _ q.0 (below i h) ∙ q.1)

        found : (i : ℕ) → i < g.segments → test' i ≡ true → (i ≡ top g m t) ⊎ (i ≡ top g m t → ⊥) → (j : ℕ) × (j < count g (pop g m t) t) × (entry g (pop g m t) t j ≡ i)
        found i h e (inl q) = absurd (true≢false (sym e ∙ ap test' q ∙ gone))
        found i h e (inr q) = go (o.all i h (sym (rest i h q) ∙ e))
          where
            go : (j : ℕ) × (j < count g m t) × (entry g m t j ≡ i) → (j : ℕ) × (j < count g (pop g m t) t) × (entry g (pop g m t) t j ≡ i)
            go a =
                let k : a.0 < count g m t = a.1 in
                let d : a.0 ≡ count g m t - 1 → ⊥ = λ x. q (sym a.2 ∙ ap (entry g m t) x) in
                let f : a.0 < count g m t - 1 = ⊎_elim (λ x. absurd (d (omega arith))) (λ x. x) (le_or_lt (count g m t - 1) a.0) in
                (a.0, subst (λ z. a.0 < z) (sym pop_count) f, pop_entry a.0 k ∙ a.2)
