-- The loop over a mutator's roots: what it keeps, one push more, one that is hindered; and that none is in memory that is ready for it.
use mathlib.Core.Path.{◌≡◌, refl, sym, ◌∙◌, ap, subst}
use mathlib.Core.Bool.{true, false, true≢false}
use Prim.Native.Nat.{ℕ, ◌+◌, ◌*◌, ◌<◌}
use native.Mathlib.Numerals.{add-one}
use native.Mathlib.Omega.{arith}
use lib.ListN.{get_or}
use Rattle.layout.specs.declared.Geometry.{Geometry}
use Rattle.layout.specs.Geometry.{mutator_count, mutator_words, root_count}
use Rattle.layout.specs.Mem.{Mem}
use Rattle.model.specs.Fields.{absent, state, root}
use Rattle.model.specs.Records.{record?}
use Rattle.model.specs.Tracing.{push, push_roots}
use Rattle.model_laws.proofs.Pushes.{fold_untouched, roots_none, roots_next}
use Rattle.model_laws.proofs.Acknowledgements.{RootsReady, ready_roots, root_ok}
use Rattle.tracing.specs.Pushing.{PushFails, Pushes}
use Rattle.tracing.specs.Roots.{RootFails, PushesRoots}
use Rattle.tracing.proofs.Succeeds.{fold_succeeds}

-- pushes leave the roots
same_root : (g : Geometry) (m : Mem) (k n i : ℕ) → root (push_roots g m k n) k i ≡ root m k i
same_root g m k n i =
    ap (λ z. get_or z (k * mutator_words + i) 0) (fold_untouched g (push_roots g m k) (root m k) (roots_next g m k) n).mutators
    ∙ ap (λ z. root z k i) (roots_none g m k)

-- one more, its word read from the memory with those before it
pub one_more : (g : Geometry) (m : Mem) (k i : ℕ) → push_roots g m k (i + 1) ≡ push g (push_roots g m k i) (record? (root (push_roots g m k i) k i))
one_more g m k i = rw (add-one i, roots_next g m k i, same_root g m k i i) refl

pub one_fails : (g : Geometry) (m : Mem) (k i w : ℕ) (m' m'' : Mem) → m' ≡ push_roots g m k i → i < root_count → w ≡ root m' k i → Pushes g m' w false m'' → PushesRoots g m k false m''
one_fails g m k i w m' m'' e l f q = record {
  done = λ t. absurd (true≢false (sym t));
  fails = λ _. record { index = i; within = l; why = subst (λ z. PushFails g (push_roots g m k i) z) word (subst (λ z. PushFails g z w) e (q.fails refl)) };
}
  where
    word : w ≡ root m k i
    word = f ∙ ap (λ z. root z k i) e ∙ same_root g m k i i

pub all_pushed : (g : Geometry) (m : Mem) (k : ℕ) (m' : Mem) → m' ≡ push_roots g m k root_count → PushesRoots g m k true m'
all_pushed g m k m' e = record { done = λ _. e; fails = λ t. absurd (true≢false t) }

-- what the loop cites
pub ruleset pushed_one_by_one = (roots_none, one_more, one_fails, all_pushed)

-- ---- nothing hinders the pushes of an attached mutator's roots

pub roots_succeed : (g : Geometry) (m : Mem) → RootsReady g m → (k : ℕ) → k < mutator_count → (state m k ≡ absent → ⊥) → RootFails g m k → ⊥
unfolding push_roots
roots_succeed g m y k l there f =
    let h = f.within in
    fold_succeeds g (push_roots g m k) (root m k) (roots_next g m k) (ready_roots g m y) f.index (λ i at q. root_ok g m y k l there i at (omega arith)) f.why
