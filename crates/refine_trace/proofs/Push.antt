-- Pushes on the trace stack, on the memory and on the machine.
use mathlib.Core.Path.{◌≡◌, refl, sym, ◌∙◌, ap, subst}
use mathlib.Core.Bool.{Bool, true, false, ◌&&◌}
use mathlib.Core.Logic.{◌⊎◌, inl, inr}
use mathlib.Core.Option.{Option, none, some}
use mathlib.Core.List.{List, ◌∷◌, Memᴰ}
use Prim.Native.Nat.{ℕ, suc, ◌+◌}
use lib.Dec.{eqb}
use lib.ListN.{get_or, set}
use borrow.Author.Tests.{eq-eqb, eqb-true, eqb-false}
use Rattle.layout.specs.Geometry.{mark_bit}
use Rattle.basics.specs.Pick.{pick}
use Rattle.words.specs.Bits.{bit_at, set_bit}
use Rattle.layout.specs.declared.Geometry.{Geometry}
use Rattle.layout.specs.Mem.{Mem}
use Rattle.theory.specs.TraceStack.{mem?, push_if, push}
use Rattle.model.specs.Records.{entered, marked}
use Rattle.model.specs.Reaching.{IsEntry, is_marked}
use Rattle.model_laws.proofs.Marked.{unentered, entered_as}
use Rattle.model_laws.proofs.Apart.{class_of}
use Rattle.words.proofs.Word.{zero_of_not_one}
use Rattle.words.proofs.Lists.{at_lt}
use Rattle.refine_view.proofs.Seeing.{entry_in}
use Rattle.model.specs.Consistent.{RecordOk}
use Rattle.refine_view.specs.View.{view, stack_of}
use Rattle.refine_trace.proofs.Over.{over, Segments, push_over}
use Rattle.refine_trace.proofs.Entered.{Entered, entry_bit, entered_more, stack_more}
use Rattle.model.specs.Tracing as tracing

-- the memory m' is m but for a trace stack in order, whose entries are l, the last first
pub record Pushed (g : Geometry) (m m' : Mem) (l : List ℕ) : Type 0 where
  pub control : List ℕ
  pub marks : List ℕ
  pub trace : List ℕ
  pub is : m' ≡ over m control marks trace
  pub entered : Entered g m control marks trace
  pub stack : stack_of (over m control marks trace) (get_or control 1 0) ≡ l

push_is : (f : ℕ → Bool) (b : ℕ) (l : List ℕ) → push f (some b) l ≡ push_if (f b) (mem? b l) b l
unfolding push
push_is f b l = refl

push_nil : (f : ℕ → Bool) (l : List ℕ) → push f none l ≡ l
unfolding push
push_nil f l = refl

pushed_nil : (g : Geometry) (m : Mem) → tracing.push g m none ≡ m
unfolding tracing.push
pushed_nil g m = refl

module _ (g : Geometry) (m : Mem) (f : Segments g m) where
  module _ (m' : Mem) (l : List ℕ) (p : Pushed g m m' l) where
    abbrev now : Mem
    now = over m p.control p.marks p.trace

    abbrev next : ℕ → Mem
    next at = over m (set p.control 1 (get_or p.control 1 0 + 1)) (set_bit p.marks (mark_bit at)) (set p.trace (get_or p.control 1 0) (suc at))

    push_one : (at : ℕ) → RecordOk g m at → Pushed g m (tracing.push g m' (some at)) (push (view g m).marked (some at) l)
    push_one at r =
        subst (λ z. Pushed g m z (push (view g m).marked (some at) l)) (sym (ap (λ z. tracing.push g z (some at)) p.is ∙ push_over g m p.control p.marks p.trace at))
        (subst (λ z. Pushed g m (pick (eqb (bit_at p.marks (mark_bit at)) 1) now (next at)) z)
        (sym (push_is (view g m).marked at l ∙ ap (λ b. push_if b (mem? at l) at l) (sym (p.entered.same at (class_of g m at r)) ∙ ap (λ b. b && is_marked g now at) (eq-eqb _ _ r.aligned))))
        (go (eqb (bit_at p.marks (mark_bit at)) 1) refl (mem? at l)))
      where
        same : Pushed g m now l
        same = record { control = p.control; marks = p.marks; trace = p.trace; is = refl; entered = p.entered; stack = p.stack }

        -- its bit is 1 where it is on the stack or marked
        found : (b : Bool) → is_marked g now at ≡ b → IsEntry now at ⊎ (marked g now at ≡ 1) → (k : Dec (Memᴰ at l)) → Pushed g m now (push_if b k at l)
        found true h u k = same
        found false h u (yes k) = same
        found false h (inl u) (no k) = absurd (k (subst (Memᴰ at) p.stack (entry_in now (get_or p.control 1 0) u.index at u.within u.names)))
        found false h (inr u) (no k) = absurd (eqb-false _ _ h u)

        unmarked : entered g now at ≡ 0 → is_marked g now at ≡ false
        unmarked z = ap (λ w. eqb w 1) (unentered g now at z)

        go : (d : Bool) → eqb (bit_at p.marks (mark_bit at)) 1 ≡ d → (k : Dec (Memᴰ at l)) → Pushed g m (pick d now (next at)) (push_if (is_marked g now at) k at l)
        go true e k = found (is_marked g now at) refl (entered_as g now at (eqb-true _ _ e)) k
        go false e k = rw (unmarked (zero_of_not_one _ (at_lt p.marks (mark_bit at)) (eqb-false _ _ e))) (new e k)
          where
            new : eqb (bit_at p.marks (mark_bit at)) 1 ≡ false → (k : Dec (Memᴰ at l)) → Pushed g m (next at) (push_if false k at l)
            new e (yes k) = absurd (eqb-false _ _ e (entry_bit g m p.control p.marks p.trace p.entered f at r (subst (Memᴰ at) (sym p.stack) k)))
            new e (no k) = record {
              control = _;
              marks = _;
              trace = _;
              is = refl;
              entered = entered_more g m p.control p.marks p.trace p.entered f at r (eqb-false _ _ e);
              stack = stack_more g m p.control p.marks p.trace p.entered f at r (eqb-false _ _ e) ∙ ap (λ z. at ∷ z) p.stack;
            }

    pub push_pushed : (o : Option ℕ) → ((at : ℕ) → o ≡ some at → RecordOk g m at) → Pushed g m (tracing.push g m' o) (push (view g m).marked o l)
    push_pushed none r = rw (pushed_nil g m', push_nil (view g m).marked l) p
    push_pushed (some at) r = push_one at (r at refl)
