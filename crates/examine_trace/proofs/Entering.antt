-- A bit of an entry, one entry, one more entry and the whole trace stack.
use mathlib.Core.Path.{◌≡◌, refl, sym, ap, ◌∙◌, subst}
use mathlib.Core.Bool.{Bool, true, false, true≢false}
use mathlib.Core.Logic.{◌⊎◌, inl, inr}
use mathlib.Core.List.{List}
use Prim.Native.Nat.{ℕ, ◌+◌, ◌-◌, ◌*◌, ◌/◌, ◌≤◌, ◌<◌}
use native.Mathlib.Omega.{arith}
use lib.ListN.{length, replicate}
use Rattle.basics.specs.Decides.{Decides}
use Rattle.basics.proofs.Deciding.{holds, fails}
use Rattle.basics.proofs.Order.{same_or_not}
use Rattle.words.specs.Bits.{bit_at, set_bit, ones_among}
use Rattle.words.proofs.Word.{zero_of_not_one}
use Rattle.words.proofs.Lists.{at_lt, set_there, set-elsewhere, length-set_bit}
use Rattle.words.proofs.Ones.{among_le}
use Rattle.words.proofs.Zeros.{zeros_bit}
use Rattle.layout.specs.declared.Geometry.{Geometry}
use Rattle.layout.specs.Geometry.{len, most_blocks, mark_bit}
use Rattle.layout.specs.Mem.{Mem, trace_word}
use Rattle.layout.proofs.Sizes.{mark_word}
use Rattle.model.specs.Fields.{trace_count}
use Rattle.model.specs.Reaching.{IsEntry}
use Rattle.model.specs.Consistent.{RecordOk}
use Rattle.examine_search.proofs.Steps.{placed}
use Rattle.examine_trace.specs.Traced.{Traced, entry_at, entry_bit, EntryOk, BitEnters, Enters, Seen, EntersAll}
use Rattle.layout.specs.Region as Region

-- ---- a bit of an entry

module _ (m : Mem) (k : ℕ) (before : List ℕ) where
  pub bit_unset : (bit_at m.marks k ≡ 1 → ⊥) → BitEnters m k before false before
  bit_unset d = record { new = λ t. absurd (true≢false (sym t)); wrong = λ _ f _. d f }

  pub bit_again : bit_at before k ≡ 1 → BitEnters m k before false before
  bit_again e = record { new = λ t. absurd (true≢false (sym t)); wrong = λ _ _ f. omega arith }

  pub bit_new : bit_at m.marks k ≡ 1 → (bit_at before k ≡ 1 → ⊥) → BitEnters m k before true (set_bit before k)
  bit_new b c = record {
    new = λ _. (b, zero_of_not_one _ (at_lt before k) c, refl);
    wrong = λ t. absurd (true≢false t);
  }

-- ---- one entry

module _ (g : Geometry) (m : Mem) (i : ℕ) (before : List ℕ) (w : ℕ) (ew : w ≡ trace_word m i) where
  pub enter_nil : w ≡ 0 → Enters g m i before false before
  enter_nil e = record { new = λ t. absurd (true≢false (sym t)); wrong = λ _ o _. omega (arith, o.named) }

  pub enter_torn : (RecordOk g m (w - 1) → ⊥) → Enters g m i before false before
  enter_torn d = record { new = λ t. absurd (true≢false (sym t)); wrong = λ _ o _. d (subst (λ (x : ℕ). RecordOk g m (x - 1)) (sym ew) o.passes) }

  pub enter_by : (w ≡ 0 → ⊥) → RecordOk g m (w - 1) → (k : ℕ) → k ≡ mark_bit (w - 1) → (r : Bool) (after : List ℕ) → BitEnters m k before r after → Enters g m i before r after
  enter_by f ok k ek r after q = record {
    new = λ t.
        let n = q.new t in
        let passes = subst (λ (x : ℕ). RecordOk g m (x - 1)) ew ok in
        (record { named = omega arith; passes = passes; bit = ap (bit_at m.marks) (sym is) ∙ n.0 }, ap (bit_at before) (sym is) ∙ n.1, n.2 ∙ ap (set_bit before) is);
    wrong = λ t o z. q.wrong t (ap (bit_at m.marks) is ∙ o.bit) (ap (bit_at before) is ∙ z);
  }
    where
      is : k ≡ entry_bit g m i
      is = ek ∙ ap (λ (x : ℕ). mark_bit (x - 1)) ew

-- ---- the entries so far

module _ (g : Geometry) (m : Mem) where
  pub seen_none : (bits : List ℕ) → len g Region.marks ≤ length bits → ((k : ℕ) → bit_at bits k ≡ 0) → Seen g m 0 bits
  seen_none bits l z = record {
    long = l;
    entries = λ k h. absurd (omega arith);
    once = λ j k x h. absurd (omega arith);
    there = λ k h. absurd (omega arith);
    only = λ b f. absurd (let y = z b in omega arith);
  }

  entry_is : (at : ℕ) (e : IsEntry m at) → at ≡ entry_at m e.index
  entry_is at e = omega (arith, e.names)

  module _ (i : ℕ) (bits : List ℕ) (p : Seen g m i bits) (r : Bool) (after : List ℕ) (q : Enters g m i bits r after) where
    pub seen_more : r ≡ true → Seen g m (i + 1) after
    seen_more e = subst (Seen g m (i + 1)) (sym (q.new e).2) (record {
      long = let a = p.long in let b = length-set_bit bits at in omega arith;
      entries = λ k h. entry k h (same_or_not k i);
      once = λ j k x h. twice j k x h (same_or_not k i);
      there = λ k h. set k h (same_or_not (entry_bit g m k) at);
      only = λ b f. found b f (same_or_not b at);
    })
      where
        at : ℕ
        at = entry_bit g m i

        inside : at / 32 < length bits
        inside = let a = mark_word g at ((placed g m).small (entry_at m i) (q.new e).0.passes) in let b = p.long in omega arith

        entry : (k : ℕ) → k < i + 1 → (k ≡ i) ⊎ (k ≡ i → ⊥) → EntryOk g m k
        entry k h (inl x) = subst (EntryOk g m) (sym x) (q.new e).0
        entry k h (inr x) = p.entries k (omega arith)

        twice : (j k : ℕ) → j < k → k < i + 1 → (k ≡ i) ⊎ (k ≡ i → ⊥) → trace_word m j ≡ trace_word m k → ⊥
        twice j k x h (inl y) w =
            let a : bit_at bits (entry_bit g m j) ≡ bit_at bits at = ap (λ (z : ℕ). bit_at bits (mark_bit (z - 1))) (w ∙ ap (trace_word m) y) in
            let b = p.there j (omega arith) in
            let c = (q.new e).1 in
            omega arith
        twice j k x h (inr y) w = p.once j k x (omega arith) w

        set : (k : ℕ) → k < i + 1 → (entry_bit g m k ≡ at) ⊎ (entry_bit g m k ≡ at → ⊥) → bit_at (set_bit bits at) (entry_bit g m k) ≡ 1
        set k h (inl y) = ap (bit_at (set_bit bits at)) y ∙ set_there bits at inside
        set k h (inr y) = set-elsewhere bits at inside (entry_bit g m k) y ∙ p.there k (let x : k ≡ i → ⊥ = λ z. y (ap (entry_bit g m) z) in omega arith)

        found : (b : ℕ) → bit_at (set_bit bits at) b ≡ 1 → (b ≡ at) ⊎ (b ≡ at → ⊥) → (k : ℕ) × (k < i + 1) × (entry_bit g m k ≡ b)
        found b f (inl y) = (i, omega arith, sym y)
        found b f (inr y) = let o = p.only b (sym (set-elsewhere bits at inside b y) ∙ f) in let l = o.1 in (o.0, omega arith, o.2)

    -- an entry that a trace stack in order has not
    pub seen_wrong : r ≡ false → i < trace_count m → Traced g m → ⊥
    seen_wrong e l o = q.wrong e ok (go (same_or_not (bit_at bits (entry_bit g m i)) 1))
      where
        some : 1 ≤ trace_word m i
        some = o.trace.named i l

        here : IsEntry m (entry_at m i)
        here = record { index = i; within = l; names = omega (arith, some) }

        ok : EntryOk g m i
        ok = record { named = some; passes = o.records _ here; bit = o.trace.bits _ here }

        go : (bit_at bits (entry_bit g m i) ≡ 1) ⊎ (bit_at bits (entry_bit g m i) ≡ 1 → ⊥) → bit_at bits (entry_bit g m i) ≡ 0
        go (inr d) = zero_of_not_one _ (at_lt bits (entry_bit g m i)) d
        go (inl z) =
            let k = p.only (entry_bit g m i) z in
            let a = p.entries k.0 k.1 in
            let s = (placed g m).apart (entry_at m k.0) (entry_at m i) a.passes ok.passes k.2 in
            let n = a.named in
            absurd (o.trace.once k.0 i k.1 l (omega (arith, s, n, some)))

  pub all_new : (n i : ℕ) (bits : List ℕ) → n ≡ trace_count m → i ≤ n → n ≤ i → Seen g m i bits → EntersAll g m true bits
  all_new n i bits e a b p = record { new = λ _. subst (λ z. Seen g m z bits) (let q : i ≡ n = omega arith in q ∙ e) p; wrong = λ f. absurd (true≢false f) }

  pub one_wrong : (n i : ℕ) (after bits : List ℕ) → n ≡ trace_count m → i < n → Seen g m i bits → (r : Bool) → Enters g m i bits r after → r ≡ false → EntersAll g m false after
  one_wrong n i after bits e l p r q f = record { new = λ x. absurd (true≢false (sym x)); wrong = λ _ o. seen_wrong i bits p r after q f (subst (λ z. i < z) e l) o }

  -- ---- the whole stack

  module _ (n ones : ℕ) (en : n ≡ trace_count m) (eo : ones ≡ ones_among (bit_at m.marks) (g.segments * most_blocks g)) where
    pub count_wrong : ones < n → Decides false (Traced g m)
    count_wrong d = fails (λ o. let k = o.trace.number in omega arith)

    pub count_few : n ≤ ones → n ≤ len g Region.trace
    count_few e = let l = among_le (bit_at m.marks) (at_lt m.marks) (g.segments * most_blocks g) in omega arith

    pub count_right : n ≤ ones → (r : Bool) (after : List ℕ) → EntersAll g m r after → Decides r (Traced g m)
    count_right e true after q = holds (record {
      trace = record {
        named = λ i l. (p.entries i l).named;
        once = p.once;
        bits = λ at x. ap (λ (z : ℕ). bit_at m.marks (mark_bit z)) (entry_is at x) ∙ (p.entries x.index x.within).bit;
        number = omega arith;
      };
      records = λ at x. subst (RecordOk g m) (sym (entry_is at x)) (p.entries x.index x.within).passes;
    })
      where
        p : Seen g m (trace_count m) after
        p = q.new refl
    count_right e false after q = fails (q.wrong refl)

-- a cleared scratch has no bit
pub clear_bits : (n : ℕ) (s : List ℕ) → s ≡ replicate n 0 → (k : ℕ) → bit_at s k ≡ 0
clear_bits n s e k = ap (λ (l : List ℕ). bit_at l k) e ∙ zeros_bit n k
