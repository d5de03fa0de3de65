-- The stacks that a call does not touch, where it puts a segment on one stack or takes one off.
use mathlib.Core.Path.{◌≡◌, sym, ◌∙◌, ap, subst}
use mathlib.Core.Bool.{Bool, true, false}
use mathlib.Core.List.{List}
use Prim.Native.Nat.{ℕ, ◌+◌, ◌*◌, ◌<◌}
use native.Mathlib.Omega.{arith}
use lib.ListN.{get_or}
use Rattle.layout.specs.declared.Geometry.{Geometry}
use Rattle.layout.specs.Geometry.{stack_count}
use Rattle.layout.specs.Mem.{Mem, stack_word, set_stack, Sizes}
use Rattle.model.specs.Segments.{count, entry, part_stack, stacked}
use Rattle.classes.specs.Class.{IsClass}
use Rattle.model.specs.Consistent.{StackOk}
use Rattle.model_laws.proofs.Words.{stack_other}
use Rattle.model_laws.proofs.Stacks.{count_le, stack_same, push_other}

pub part_few : (c : ℕ) → IsClass c → part_stack c < stack_count
part_few c i = let a = i.0 in let b = i.1 in omega arith

pub part_apart : (c d : ℕ) → IsClass c → IsClass d → (c ≡ d → ⊥) → part_stack c ≡ part_stack d → ⊥
part_apart c d i j f e = let a = i.0 in let b = j.0 in f (omega arith)

-- a stack's words are those of another memory's stack
pub stack_words : (g : Geometry) (m m₁ : Mem) (t : ℕ) (test test₁ : ℕ → Bool) → ((j : ℕ) → j < 1 + g.segments → stack_word m₁ (t * (1 + g.segments) + j) ≡ stack_word m (t * (1 + g.segments) + j))
    → StackOk g m t test → ((q : ℕ) → q < g.segments → test₁ q ≡ test q) → StackOk g m₁ t test₁
stack_words g m m₁ t test test₁ w o h =
    stack_same g m m₁ t test test₁ o (at_count m₁ ∙ w 0 (omega arith) ∙ sym (at_count m))
    (λ i l. let z = count_le g m t test o in at_entry m₁ i ∙ w (1 + i) (omega arith) ∙ sym (at_entry m i)) h
  where
    at_count : (m' : Mem) → count g m' t ≡ stack_word m' (t * (1 + g.segments) + 0)
    at_count m' = ap (stack_word m') (let e : t * (1 + g.segments) ≡ t * (1 + g.segments) + 0 = omega arith in e)

    at_entry : (m' : Mem) (i : ℕ) → entry g m' t i ≡ stack_word m' (t * (1 + g.segments) + (1 + i))
    at_entry m' i = ap (stack_word m') (let e : t * (1 + g.segments) + 1 + i ≡ t * (1 + g.segments) + (1 + i) = omega arith in e)

-- all stacks' words stay
pub stack_by : (g : Geometry) (m m₁ : Mem) (t : ℕ) (test test₁ : ℕ → Bool) → m₁.stacks ≡ m.stacks → StackOk g m t test → ((q : ℕ) → q < g.segments → test₁ q ≡ test q) → StackOk g m₁ t test₁
stack_by g m m₁ t test test₁ e o h = stack_words g m m₁ t test test₁ (λ j l. ap (λ (x : List ℕ). get_or x (t * (1 + g.segments) + j) 0) e) o h

-- another stack than the one whose count is set
pub stack_apart : (g : Geometry) (m : Mem) → Sizes g m → (m₁ : Mem) (t v : ℕ) → t < stack_count → m₁.stacks ≡ (set_stack m (t * (1 + g.segments)) v).stacks → (t' : ℕ) → (t' ≡ t → ⊥)
    → (test test₁ : ℕ → Bool) → StackOk g m t' test → ((q : ℕ) → q < g.segments → test₁ q ≡ test q) → StackOk g m₁ t' test₁
stack_apart g m s m₁ t v l e t' f test test₁ o h = stack_words g m m₁ t' test test₁ word o h
  where
    no_add : t * (1 + g.segments) + 0 ≡ t * (1 + g.segments)
    no_add = omega arith

    word : (j : ℕ) → j < 1 + g.segments → stack_word m₁ (t' * (1 + g.segments) + j) ≡ stack_word m (t' * (1 + g.segments) + j)
    word j k =
        ap (λ x. get_or x (t' * (1 + g.segments) + j) 0) e
        ∙ subst (λ z. stack_word (set_stack m z v) (t' * (1 + g.segments) + j) ≡ stack_word m (t' * (1 + g.segments) + j)) no_add
        (stack_other g m s t 0 v l (omega arith) t' j k (λ x y. f x))

-- another stack than the one that segment r is put on
module _ (g : Geometry) (m : Mem) (s : Sizes g m) (t : ℕ) (lt : t < stack_count) (test : ℕ → Bool) (o : StackOk g m t test) (test' : ℕ → Bool) (r : ℕ) (l : r < g.segments)
    (old : test r ≡ false) (new : test' r ≡ true) (rest : (i : ℕ) → i < g.segments → (i ≡ r → ⊥) → test' i ≡ test i) where
  pub push_left : (u : ℕ) → (u ≡ t → ⊥) → (p p' : ℕ → Bool) → StackOk g m u p → ((i : ℕ) → i < g.segments → p' i ≡ p i) → StackOk g (stacked g m t r) u p'
  push_left u d p p' q e = stack_words g m (stacked g m t r) u p p' (λ j h. push_other g m s t lt test o test' r l old new rest u j h (λ x. absurd (d x)) (λ x. absurd (d x))) q e
