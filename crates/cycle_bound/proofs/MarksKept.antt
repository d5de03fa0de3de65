-- A record that is marked stays so, whatever is entered on the trace stack or taken off it: a push sets the bit of a record that had none.
use mathlib.Core.Path.{◌≡◌, refl, sym, ◌∙◌, ap, subst}
use mathlib.Core.Logic.{◌⊎◌, inl, inr, ⊎_elim}
use mathlib.Core.Bool.{Bool, true, false}
use mathlib.Core.List.{List}
use Prim.Native.Nat.{ℕ, zero, suc, ◌+◌, ◌-◌, ◌/◌, ◌≤◌, ◌<◌}
use native.Mathlib.Omega.{arith}
use lib.Dec.{eqb}
use lib.ListN.{length, get_or, set, length-set, get_or-eq_default}
use lib.Seq.{set_out, get_or-set_same, get_or-set_other}
use borrow.Author.Tests.{eqb-false}
use Rattle.basics.specs.Pick.{pick}
use Rattle.basics.proofs.Order.{le_or_lt, same_or_not}
use Rattle.words.specs.Bits.{bit_at, set_bit}
use Rattle.words.proofs.Lists.{set_there, set-elsewhere}
use Rattle.layout.specs.declared.Geometry.{Geometry}
use Rattle.layout.specs.Geometry.{mark_bit}
use Rattle.layout.specs.Mem.{Mem, set_trace, set_control}
use Rattle.theory.specs.Phases.{Duty, nothing, both, old}
use Rattle.model.specs.Fields.{trace_count}
use Rattle.model.specs.Records.{record?, entered, set_entered, marked, pointer, pointer_count}
use Rattle.model.specs.Reaching.{IsEntry}
use Rattle.model.specs.Tracing.{push, on_top, barrier, push_pointers, popped, traced}
use Rattle.model_laws.proofs.Marked.{stacked?, off_stack, entry_unmarked, marked_entered}
use Rattle.model_laws.proofs.Pushes.{pointers_none, pointers_next}

-- a bit that is 1 stays so where another is set
bit_stays : (ws : List ℕ) (k j : ℕ) → bit_at ws j ≡ 1 → bit_at (set_bit ws k) j ≡ 1
unfolding set_bit
bit_stays ws k j e = ⊎_elim out (λ l. ⊎_elim (λ q. ap (bit_at (set_bit ws k)) q ∙ set_there ws k l) (λ f. set-elsewhere ws k l j f ∙ e) (same_or_not j k)) (le_or_lt (length ws) (k / 32))
  where
    out : length ws ≤ k / 32 → bit_at (set_bit ws k) j ≡ 1
    out l = ap (λ (z : List ℕ). bit_at z j) (set_out ws (k / 32) _ l) ∙ e

-- no record that is marked loses its mark
abbrev pub MarksKept : Geometry → Mem → Mem → Type 0
MarksKept g m m' = (x : ℕ) → marked g m x ≡ 1 → marked g m' x ≡ 1

kept_self : (g : Geometry) (m : Mem) → MarksKept g m m
kept_self g m x e = e

kept_then : (g : Geometry) (m m₁ m₂ : Mem) → MarksKept g m m₁ → MarksKept g m₁ m₂ → MarksKept g m m₂
kept_then g m m₁ m₂ a b x e = b x (a x e)

-- by the trace stack and the bits: who was not on it and had a bit, is not and has
pub kept_by : (g : Geometry) (m m' : Mem) → ((x : ℕ) → IsEntry m' x → entered g m x ≡ 1 → IsEntry m x) → ((x : ℕ) → entered g m x ≡ 1 → entered g m' x ≡ 1) → MarksKept g m m'
kept_by g m m' back on x e =
    ⊎_elim (λ i. absurd (let z = entry_unmarked g m x (back x i (marked_entered g m x e)) in omega arith)) (λ f. off_stack g m' x f ∙ on x (marked_entered g m x e)) (stacked? g m' x)

-- ---- one push

module _ (g : Geometry) (m : Mem) (h : 1 < length m.control) where
  module _ (at : ℕ) (free : entered g m at ≡ 1 → ⊥) where
    abbrev now : Mem
    now = on_top g m at

    count_now : trace_count now ≡ suc (trace_count m)
    unfolding set_trace set_control set_entered
    count_now = get_or-set_same m.control 1 (trace_count m + 1) 0 h ∙ omega arith

    old_word : (i : ℕ) → (i ≡ trace_count m → ⊥) → get_or now.trace i 0 ≡ get_or m.trace i 0
    unfolding set_trace set_control set_entered
    old_word i f = get_or-set_other m.trace (trace_count m) i (suc at) 0 f

    -- the new entry names the record, or there is no word for it
    new_word : (x : ℕ) → get_or now.trace (trace_count m) 0 ≡ suc x → x ≡ at
    unfolding set_trace set_control set_entered
    new_word x e = ⊎_elim
        (λ l. let z = length-set m.trace (trace_count m) (suc at) in
        let y : get_or (set m.trace (trace_count m) (suc at)) (trace_count m) 0 ≡ 0 = get_or-eq_default (set m.trace (trace_count m) (suc at)) 0 (omega arith) in
        absurd (omega arith))
        (λ l. let y = get_or-set_same m.trace (trace_count m) (suc at) 0 l in omega arith)
        (le_or_lt (length m.trace) (trace_count m))

    back : (x : ℕ) → IsEntry now x → entered g m x ≡ 1 → IsEntry m x
    back x n b = go (same_or_not n.index (trace_count m))
      where
        go : (n.index ≡ trace_count m) ⊎ (n.index ≡ trace_count m → ⊥) → IsEntry m x
        go (inl q) = absurd (free (ap (entered g m) (sym (new_word x (ap (λ i. get_or now.trace i 0) (sym q) ∙ n.names))) ∙ b))
        go (inr f) = record { index = n.index; within = before; names = sym (old_word n.index f) ∙ n.names }
          where
            before : n.index < trace_count m
            before = let l = n.within in let c = count_now in ⊎_elim (λ z. absurd (f (omega arith))) (λ z. z) (le_or_lt (trace_count m) n.index)

    top_kept : MarksKept g m now
    unfolding set_trace set_control set_entered
    top_kept = kept_by g m now back on
      where
        on : (x : ℕ) → entered g m x ≡ 1 → entered g now x ≡ 1
        on x e = bit_stays m.marks (mark_bit at) (mark_bit x) e

  pub push_kept : (w : ℕ) → MarksKept g m (push g m (record? w))
  unfolding push
  push_kept zero = kept_self g m
  push_kept (suc at) = go (eqb (entered g m at) 1) refl
    where
      go : (b : Bool) → eqb (entered g m at) 1 ≡ b → MarksKept g m (pick b m (on_top g m at))
      go true e = kept_self g m
      go false e = top_kept at (eqb-false _ _ e)

  push_long : (w : ℕ) → 1 < length (push g m (record? w)).control
  unfolding push set_trace set_control set_entered
  push_long zero = h
  push_long (suc at) = go (eqb (entered g m at) 1)
    where
      go : (b : Bool) → 1 < length (pick b m (on_top g m at)).control
      go true = h
      go false = subst (λ z. 1 < z) (sym (length-set m.control 1 (trace_count m + 1))) h

-- the write barrier
pub barrier_kept : (g : Geometry) (d : Duty) (m : Mem) → 1 < length m.control → (v w : ℕ) → MarksKept g m (barrier g d m (record? v) (record? w))
barrier_kept g nothing m h v w = kept_self g m
barrier_kept g both m h v w = kept_then g m (push g m (record? v)) (push g (push g m (record? v)) (record? w)) (push_kept g m h v) (push_kept g (push g m (record? v)) (push_long g m h v) w)
barrier_kept g old m h v w = push_kept g m h w

-- ---- a record's pointers

record Folded (g : Geometry) (m m' : Mem) : Type 0 where
  kept : MarksKept g m m'
  long : 1 < length m'.control

pointers_kept : (g : Geometry) (m : Mem) → 1 < length m.control → (at n : ℕ) → Folded g m (push_pointers g m at n)
pointers_kept g m h at zero = subst (Folded g m) (sym (pointers_none g m at)) (record { kept = kept_self g m; long = h })
pointers_kept g m h at (suc n) =
    let o = pointers_kept g m h at n in
    let m₁ : Mem = push_pointers g m at n in
    subst (Folded g m) (sym (pointers_next g m at n)) (record {
      kept = kept_then g m m₁ (push g m₁ (record? (pointer m at n))) o.kept (push_kept g m₁ o.long (pointer m at n));
      long = push_long g m₁ o.long (pointer m at n);
    })

-- ---- the last entry taken off, and what it points to

module _ (g : Geometry) (m : Mem) (h : 1 < length m.control) (at : ℕ) where
  pub count_popped : trace_count (popped g m at) ≡ trace_count m - 1
  unfolding set_control
  count_popped = get_or-set_same m.control 1 (trace_count m - 1) 0 h

  popped_long : 1 < length (popped g m at).control
  unfolding set_control
  popped_long = subst (λ z. 1 < z) (sym (length-set m.control 1 (trace_count m - 1))) h

  popped_kept : MarksKept g m (popped g m at)
  unfolding set_control
  popped_kept = kept_by g m (popped g m at) (λ x n b. record { index = n.index; within = let l = n.within in let c = count_popped in omega arith; names = n.names }) (λ x e. e)

  pub traced_from : MarksKept g (popped g m at) (traced g m at)
  traced_from = (pointers_kept g (popped g m at) popped_long at (pointer_count m at)).kept

  pub traced_kept : MarksKept g m (traced g m at)
  traced_kept = kept_then g m (popped g m at) (traced g m at) popped_kept traced_from
