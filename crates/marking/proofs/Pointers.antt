-- The loop over a record's pointers: what it keeps, one push more, one that is hindered.
use mathlib.Core.Path.{◌≡◌, refl, sym, ◌∙◌, ap, subst}
use mathlib.Core.Bool.{true, false, true≢false}
use Prim.Native.Nat.{ℕ, ◌+◌, ◌<◌}
use native.Mathlib.Numerals.{add-one}
use lib.ListN.{get_or}
use Rattle.layout.specs.declared.Geometry.{Geometry}
use Rattle.layout.specs.Mem.{Mem}
use Rattle.model.specs.Records.{record?, pointer}
use Rattle.model.specs.Tracing.{push, push_pointers}
use Rattle.model_laws.proofs.Pushes.{fold_untouched, pointers_none, pointers_next}
use Rattle.tracing.specs.Pushing.{PushFails, Pushes}
use Rattle.marking.specs.Visiting.{PushesPointers}

-- pushes leave the pointers
same_pointer : (g : Geometry) (m : Mem) (at n i : ℕ) → pointer (push_pointers g m at n) at i ≡ pointer m at i
same_pointer g m at n i =
    ap (λ z. get_or z (at + 1 + i) 0) (fold_untouched g (push_pointers g m at) (pointer m at) (pointers_next g m at) n).heap
    ∙ ap (λ z. pointer z at i) (pointers_none g m at)

-- one more, its word read from the memory with those before it
pub one_more : (g : Geometry) (m : Mem) (at i : ℕ) → push_pointers g m at (i + 1) ≡ push g (push_pointers g m at i) (record? (pointer (push_pointers g m at i) at i))
one_more g m at i = rw (add-one i, pointers_next g m at i, same_pointer g m at i i) refl

pub one_fails : (g : Geometry) (m : Mem) (at n i w : ℕ) (m' m'' : Mem) → m' ≡ push_pointers g m at i → i < n → w ≡ pointer m' at i → Pushes g m' w false m'' → PushesPointers g m at n false m''
one_fails g m at n i w m' m'' e l f q = record {
  done = λ t. absurd (true≢false (sym t));
  fails = λ _. record { index = i; within = l; why = subst (λ z. PushFails g (push_pointers g m at i) z) word (subst (λ z. PushFails g z w) e (q.fails refl)) };
}
  where
    word : w ≡ pointer m at i
    word = f ∙ ap (λ z. pointer z at i) e ∙ same_pointer g m at i i

pub all_pushed : (g : Geometry) (m : Mem) (at n : ℕ) (m' : Mem) → m' ≡ push_pointers g m at n → PushesPointers g m at n true m'
all_pushed g m at n m' e = record { done = λ _. e; fails = λ t. absurd (true≢false t) }

-- what the loop cites
pub ruleset pushed_one_by_one = (pointers_none, one_more, one_fails, all_pushed)
