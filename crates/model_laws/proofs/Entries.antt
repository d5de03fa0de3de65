-- The words of a mutator's entry by their offset, an entry written whole, and one word of it set.
use mathlib.Core.Path.{◌≡◌, sym, ◌∙◌, ap, subst}
use mathlib.Core.Logic.{◌⊎◌, inl, inr, ⊎_elim}
use mathlib.Core.List.{List}
use Prim.Native.Nat.{ℕ, suc, ◌+◌, ◌-◌, ◌*◌, ◌≤◌, ◌<◌}
use native.Mathlib.Omega.{arith}
use lib.ListN.{length, get_or}
use Rattle.basics.proofs.Order.{same_or_not, le_or_lt}
use Rattle.classes.specs.Class.{first_class, IsClass}
use Rattle.layout.specs.declared.Geometry.{Geometry}
use Rattle.layout.specs.Geometry.{mutator_count, mutator_words, entry_words, root_count}
use Rattle.layout.specs.Mem.{Mem, mutator_word, set_mutator, Sizes, spliced}
use Rattle.model.specs.Fields.{absent, state_at, acks_at, held_from, state, acks, root, holding, set_holding, tag, class, owner}
use Rattle.model.specs.Consistent.{MutatorOk}
use Rattle.model_laws.proofs.Words.{Untouched, mutator_there, mutator_other}
use Rattle.model_laws.proofs.Windows.{spliced_in, spliced_out}
use Rattle.model.specs.Tag as Tag

-- ---- each word of an entry by its offset

pub holding_word : (m : Mem) (k c : ℕ) → holding m k c ≡ mutator_word m (k * mutator_words + (held_from + (c - first_class)))
holding_word m k c = ap (mutator_word m) (let e : k * mutator_words + held_from + (c - first_class) ≡ k * mutator_words + (held_from + (c - first_class)) = omega arith in e)

-- and where that word stays
module _ (m m' : Mem) (k : ℕ) where
  abbrev Stays : ℕ → Type 0
  Stays o = mutator_word m' (k * mutator_words + o) ≡ mutator_word m (k * mutator_words + o)

  pub holding_by : (c : ℕ) → Stays (held_from + (c - first_class)) → holding m' k c ≡ holding m k c
  holding_by c e = holding_word m' k c ∙ e ∙ sym (holding_word m k c)

pub table_below : (c : ℕ) → IsClass c → held_from + (c - first_class) < mutator_words
table_below c i = let a = i.0 in let b = i.1 in omega arith

-- ---- an entry written whole

module _ (g : Geometry) (m : Mem) (s : Sizes g m) (k : ℕ) (l : k < mutator_count) (vs : List ℕ) (long : length vs ≡ mutator_words) where
  pub entry_in : (o : ℕ) → o < mutator_words → get_or (spliced m.mutators (k * mutator_words) vs) (k * mutator_words + o) 0 ≡ get_or vs o 0
  entry_in o h = let z = s.mutators in spliced_in vs m.mutators (k * mutator_words) o (omega arith) (omega arith)

  pub entry_out : (j o : ℕ) → o < mutator_words → (j ≡ k → ⊥) → get_or (spliced m.mutators (k * mutator_words) vs) (j * mutator_words + o) 0 ≡ mutator_word m (j * mutator_words + o)
  entry_out j o h f = spliced_out vs m.mutators (k * mutator_words) (j * mutator_words + o) (side (le_or_lt j k))
    where
      side : (j ≤ k) ⊎ (k < j) → (j * mutator_words + o < k * mutator_words) ⊎ (k * mutator_words + length vs ≤ j * mutator_words + o)
      side (inl q) = inl (⊎_elim (λ x. absurd (f (omega arith))) (λ x. omega arith) (le_or_lt k j))
      side (inr q) = inr (omega arith)

-- ---- one word set

module _ (g : Geometry) (m : Mem) (s : Sizes g m) (k o v : ℕ) (l : k < mutator_count) (h : o < mutator_words) where
  abbrev now : Mem
  now = set_mutator m (k * mutator_words + o) v

  pub state_set : (j : ℕ) → (j ≡ k → state_at ≡ o → ⊥) → state now j ≡ state m j
  state_set j f = mutator_other g m s k o v l h j state_at (omega arith) f

  pub acks_set : (j : ℕ) → (j ≡ k → acks_at ≡ o → ⊥) → acks now j ≡ acks m j
  acks_set j f = mutator_other g m s k o v l h j acks_at (omega arith) f

  pub root_set : (j i : ℕ) → i < root_count → (j ≡ k → i ≡ o → ⊥) → root now j i ≡ root m j i
  root_set j i q f = mutator_other g m s k o v l h j i (omega arith) f

  pub holding_set : (j c : ℕ) → IsClass c → (j ≡ k → held_from + (c - first_class) ≡ o → ⊥) → holding now j c ≡ holding m j c
  holding_set j c q f = holding_by m now j c (mutator_other g m s k o v l h j (held_from + (c - first_class)) (table_below c q) f)

-- the table's word of a class
module _ (g : Geometry) (m : Mem) (s : Sizes g m) (k c v : ℕ) (l : k < mutator_count) (i : IsClass c) where
  slot : k * mutator_words + (held_from + (c - first_class)) ≡ k * mutator_words + held_from + (c - first_class)
  slot = omega arith

  pub table_there : holding (set_holding m k c v) k c ≡ v
  table_there = subst (λ z. mutator_word (set_mutator m z v) z ≡ v) slot (mutator_there g m s k (held_from + (c - first_class)) v l (table_below c i))

  pub table_other : (j o : ℕ) → o < mutator_words → (j ≡ k → o ≡ held_from + (c - first_class) → ⊥) → mutator_word (set_holding m k c v) (j * mutator_words + o) ≡ mutator_word m (j * mutator_words + o)
  table_other j o h f =
      subst (λ z. mutator_word (set_mutator m z v) (j * mutator_words + o) ≡ mutator_word m (j * mutator_words + o)) slot
      (mutator_other g m s k (held_from + (c - first_class)) v l (table_below c i) j o h f)

-- ---- the state, the acknowledgements or a root of an attached mutator set: the mutators stay in order, and hold what they held

module _ (g : Geometry) (m : Mem) (s : Sizes g m) (ok : (j : ℕ) → j < mutator_count → MutatorOk g m j) (k o v : ℕ) (l : k < mutator_count) (h : o < held_from) (there : state m k ≡ absent → ⊥)
    (side : o ≡ state_at → (1 ≤ v) × (v ≤ 2)) (answers : o ≡ acks_at → v ≤ 2) where
  abbrev after : Mem
  after = set_mutator m (k * mutator_words + o) v

  low : o < mutator_words
  low = omega arith

  -- a word of an entry is the one that was set, or as it was
  word : (j i : ℕ) → i < mutator_words → ((i ≡ o) × (mutator_word after (j * mutator_words + i) ≡ v)) ⊎ (mutator_word after (j * mutator_words + i) ≡ mutator_word m (j * mutator_words + i))
  word j i q = go (same_or_not j k) (same_or_not i o)
    where
      go : (j ≡ k) ⊎ (j ≡ k → ⊥) → (i ≡ o) ⊎ (i ≡ o → ⊥)
          → ((i ≡ o) × (mutator_word after (j * mutator_words + i) ≡ v)) ⊎ (mutator_word after (j * mutator_words + i) ≡ mutator_word m (j * mutator_words + i))
      go (inl e) (inl f) = inl (f, ap (λ z. mutator_word after (z * mutator_words + i)) e ∙ ap (λ z. mutator_word after (k * mutator_words + z)) f ∙ mutator_there g m s k o v l low)
      go (inl e) (inr f) = inr (mutator_other g m s k o v l low j i q (λ x y. f y))
      go (inr e) f = inr (mutator_other g m s k o v l low j i q (λ x y. e x))

  absent_before : (j : ℕ) → state after j ≡ absent → (state m j ≡ absent) × (j ≡ k → ⊥)
  absent_before j e = go (word j state_at (omega arith))
    where
      go : ((state_at ≡ o) × (state after j ≡ v)) ⊎ (state after j ≡ state m j) → (state m j ≡ absent) × (j ≡ k → ⊥)
      go (inl z) = absurd (let y = (side (sym z.0)).0 in let w : v ≡ 0 = sym z.1 ∙ e in omega arith)
      go (inr z) = let q = sym z ∙ e in (q, λ x. there (ap (state m) (sym x) ∙ q))

  pub mutators_set : (j : ℕ) → j < mutator_count → MutatorOk g after j
  unfolding set_mutator
  mutators_set j q = record {
    states = ⊎_elim (λ z. subst (λ y. y ≤ 2) (sym z.1) (side (sym z.0)).1) (λ z. subst (λ y. y ≤ 2) (sym z) (ok j q).states) (word j state_at (omega arith));
    acknowledged = ⊎_elim (λ z. subst (λ y. y ≤ 2) (sym z.1) (answers (sym z.0))) (λ z. subst (λ y. y ≤ 2) (sym z) (ok j q).acknowledged) (word j acks_at (omega arith));
    gone = λ e i w. let z = absent_before j e in mutator_other g m s k o v l low j i (omega arith) (λ x y. z.1 x) ∙ (ok j q).gone z.0 i w;
    holds = λ c r i e. (ok j q).holds c r i (sym (holding_set g m s k o v l low j c i (λ x y. omega arith)) ∙ e);
  }

  pub held_set : (j c : ℕ) → j < mutator_count → IsClass c → (state m j ≡ absent → ⊥) → (state after j ≡ absent → ⊥) × (holding after j c ≡ holding m j c)
  held_set j c q i a = (λ e. a (absent_before j e).0, holding_set g m s k o v l low j c i (λ x y. omega arith))

-- ---- the table's word of class cl of mutator k changes, and perhaps the segment that it names: the mutators stay in order

module _ (g : Geometry) (m m₁ : Mem) (ok : (j : ℕ) → j < mutator_count → MutatorOk g m j) (k cl : ℕ) (states : (j : ℕ) → state m₁ j ≡ state m j) (answers : (j : ℕ) → acks m₁ j ≡ acks m j)
    (absents : (j : ℕ) → state m j ≡ absent → (i : ℕ) → i < entry_words → mutator_word m₁ (j * mutator_words + i) ≡ mutator_word m (j * mutator_words + i))
    (tables : (j c : ℕ) → IsClass c → (j ≡ k → c ≡ cl → ⊥) → holding m₁ j c ≡ holding m j c)
    (kept : (j c q : ℕ) → (j ≡ k → c ≡ cl → ⊥) → tag m q ≡ Tag.held → class m q ≡ c → owner m q ≡ j → Untouched m m₁ q)
    (new : (q : ℕ) → holding m₁ k cl ≡ suc q → (q < g.segments) × (tag m₁ q ≡ Tag.held) × (class m₁ q ≡ cl) × (owner m₁ q ≡ k)) where
  pub mutators_table : (j : ℕ) → j < mutator_count → MutatorOk g m₁ j
  mutators_table j l = record {
    states = subst (λ z. z ≤ 2) (sym (states j)) (ok j l).states;
    acknowledged = subst (λ z. z ≤ 2) (sym (answers j)) (ok j l).acknowledged;
    gone = λ e i h. let z = sym (states j) ∙ e in absents j z i h ∙ (ok j l).gone z i h;
    holds = λ c q i e. holder c q i e (same_or_not j k) (same_or_not c cl);
  }
    where
      old : (c q : ℕ) → IsClass c → holding m₁ j c ≡ suc q → (j ≡ k → c ≡ cl → ⊥) → (q < g.segments) × (tag m₁ q ≡ Tag.held) × (class m₁ q ≡ c) × (owner m₁ q ≡ j)
      old c q i e f =
          let y = (ok j l).holds c q i (sym (tables j c i f) ∙ e) in
          let x = kept j c q f y.1 y.2 y.3 in
          (y.0, x.tag ∙ y.1, x.class ∙ y.2, x.owner ∙ y.3)

      holder : (c q : ℕ) → IsClass c → holding m₁ j c ≡ suc q → (j ≡ k) ⊎ (j ≡ k → ⊥) → (c ≡ cl) ⊎ (c ≡ cl → ⊥) → (q < g.segments) × (tag m₁ q ≡ Tag.held) × (class m₁ q ≡ c) × (owner m₁ q ≡ j)
      holder c q i e (inl a) (inl b) = let y = new q (ap (λ z. holding m₁ z cl) (sym a) ∙ ap (holding m₁ j) (sym b) ∙ e) in (y.0, y.1, y.2 ∙ sym b, y.3 ∙ sym a)
      holder c q i e (inl a) (inr b) = old c q i e (λ x y. b y)
      holder c q i e (inr a) y = old c q i e (λ x w. a x)
