-- One word of a mutator's entry, of a segment's record or of a stack, set and read.
use mathlib.Core.Path.{◌≡◌, refl, sym, ◌∙◌, ap, subst}
use mathlib.Core.Logic.{⊎_elim}
use Prim.Native.Nat.{ℕ, ◌+◌, ◌*◌, ◌/◌, ◌<◌}
use native.Mathlib.Omega.{arith}
use lib.ListN.{length, get_or, length-set}
use lib.Seq.{get_or-set_same, get_or-set_other}
use Rattle.basics.proofs.Order.{same_or_not}
use Rattle.layout.specs.declared.Geometry.{Geometry}
use Rattle.layout.specs.Geometry.{mutator_count, mutator_words, segment_record_words, stack_count, blocks_in}
use Rattle.layout.specs.Mem.{Mem, mutator_word, segment_record_word, stack_word, set_mutator, set_segment, set_stack, Sizes}
use Rattle.layout.proofs.Sizes.{one_way, within}
use Rattle.model.specs.declared.SegmentState.{SegmentState}
use Rattle.model.specs.Fields.{tag_at, class_at, place_at, owner_at, kept_at, handed_at, tag, set_tag, class, set_class, place, set_place, owner}
use Rattle.model.specs.Fields.{kept_count, set_kept_count, handed_count, set_handed_count}
use Rattle.model.specs.Segments.{set_segment_state, set_record}
use Rattle.model.specs.declared.SegmentState.TheVariants as state
use Rattle.model.specs.Tag as Tag

-- ---- mutators' entries: word o of entry k

module _ (g : Geometry) (m : Mem) (s : Sizes g m) (k o v : ℕ) (l : k < mutator_count) (h : o < mutator_words) where
  pub mutator_there : mutator_word (set_mutator m (k * mutator_words + o) v) (k * mutator_words + o) ≡ v
  unfolding set_mutator
  mutator_there = let z = s.mutators in get_or-set_same m.mutators (k * mutator_words + o) v 0 (omega arith)

  pub mutator_other : (k' o' : ℕ) → o' < mutator_words → (k' ≡ k → o' ≡ o → ⊥) → mutator_word (set_mutator m (k * mutator_words + o) v) (k' * mutator_words + o') ≡ mutator_word m (k' * mutator_words + o')
  unfolding set_mutator
  mutator_other k' o' i f = get_or-set_other m.mutators (k * mutator_words + o) (k' * mutator_words + o') v 0 (λ e. let q = one_way mutator_words k' o' k o i h e in f q.0 q.1)

-- ---- segments' records

-- the words of a segment's state
pub record Recorded (m : Mem) (s t c p k : ℕ) : Type 0 where
  pub tag : tag m s ≡ t
  pub class : class m s ≡ c
  pub place : place m s ≡ p
  pub owner : owner m s ≡ k

-- a segment's two counts
pub record Counted (m : Mem) (s a b : ℕ) : Type 0 where
  pub kept : kept_count m s ≡ a
  pub handed : handed_count m s ≡ b

-- they stay
abbrev pub CountsStay : Mem → Mem → ℕ → Type 0
CountsStay m m' s = Counted m' s (kept_count m s) (handed_count m s)

pub counted_then : {m₁ m₂ : Mem} {s a b : ℕ} → Counted m₁ s a b → CountsStay m₁ m₂ s → Counted m₂ s a b
counted_then q r = record { kept = r.kept ∙ q.kept; handed = r.handed ∙ q.handed }

-- a segment's record stays, but for its tag, which is t
pub record Retagged (m m' : Mem) (s t : ℕ) : Type 0 where
  pub tag : tag m' s ≡ t
  pub class : class m' s ≡ class m s
  pub place : place m' s ≡ place m s
  pub owner : owner m' s ≡ owner m s
  pub counts : CountsStay m m' s

-- a segment's record stays
abbrev pub Untouched : Mem → Mem → ℕ → Type 0
Untouched m m' s = Retagged m m' s (tag m s)

-- it is read from the segments' records only
pub untouched_same : (m m' : Mem) (s : ℕ) → m'.segments ≡ m.segments → Untouched m m' s
untouched_same m m' s e =
    let w : (i : ℕ) → segment_record_word m' i ≡ segment_record_word m i = λ i. ap (λ l. get_or l i 0) e in
    record { tag = w _; class = w _; place = w _; owner = w _; counts = record { kept = w _; handed = w _ } }

-- one change after another
pub retagged_then : {m m₁ m₂ : Mem} {s t u : ℕ} → Retagged m m₁ s t → Retagged m₁ m₂ s u → Retagged m m₂ s u
retagged_then r q = record { tag = q.tag; class = q.class ∙ r.class; place = q.place ∙ r.place; owner = q.owner ∙ r.owner; counts = counted_then r.counts q.counts }

pub retagged_to : {m m' : Mem} {s t u : ℕ} → Retagged m m' s t → t ≡ u → Retagged m m' s u
retagged_to r e = record { tag = r.tag ∙ e; class = r.class; place = r.place; owner = r.owner; counts = r.counts }

pub untouched_then : {m m₁ m₂ : Mem} {s t : ℕ} → Retagged m m₁ s t → Untouched m₁ m₂ s → Retagged m m₂ s t
untouched_then r q = retagged_to (retagged_then r q) r.tag

pub untouched_as : {m m₁ m₂ : Mem} {s t : ℕ} → m₂.segments ≡ m₁.segments → Retagged m m₁ s t → Retagged m m₂ s t
untouched_as e r = untouched_then r (untouched_same _ _ _ e)

-- the state of a segment whose record stays
pub recorded_by : (m m' : Mem) (x t c p k : ℕ) → Recorded m x t c p k → Untouched m m' x → Recorded m' x t c p k
recorded_by m m' x t c p k r q = record { tag = q.tag ∙ r.tag; class = q.class ∙ r.class; place = q.place ∙ r.place; owner = q.owner ∙ r.owner }

pub recorded_as : (m m' : Mem) (q t c p k : ℕ) → m'.segments ≡ m.segments → Recorded m q t c p k → Recorded m' q t c p k
recorded_as m m' q t c p k e x = recorded_by m m' q t c p k x (untouched_same m m' q e)

-- the words of its state are those from before
pub untouched_state : {m m' : Mem} {s : ℕ} → Untouched m m' s → Recorded m' s (tag m s) (class m s) (place m s) (owner m s)
untouched_state q = record { tag = q.tag; class = q.class; place = q.place; owner = q.owner }

segment_word_there : (m : Mem) (i v : ℕ) → i < length m.segments → segment_record_word (set_segment m i v) i ≡ v
unfolding set_segment
segment_word_there m i v h = get_or-set_same m.segments i v 0 h

pub segment_word_other : (m : Mem) (i v j : ℕ) → (j ≡ i → ⊥) → segment_record_word (set_segment m i v) j ≡ segment_record_word m j
unfolding set_segment
segment_word_other m i v j f = get_or-set_other m.segments i j v 0 f

word_length : (m : Mem) (i v : ℕ) → length (set_segment m i v).segments ≡ length m.segments
unfolding set_segment
word_length m i v = length-set m.segments i v

module _ (m : Mem) (s t c p k : ℕ) where
  abbrev m₁ : Mem
  m₁ = set_tag m s t

  abbrev m₂ : Mem
  m₂ = set_class m₁ s c

  abbrev m₃ : Mem
  m₃ = set_place m₂ s p

  pub record_there : s * segment_record_words + owner_at < length m.segments → Recorded (set_record m s t c p k) s t c p k
  record_there h =
      let a = word_length m (s * segment_record_words + tag_at) t in
      let b = word_length m₁ (s * segment_record_words + class_at) c in
      let d = word_length m₂ (s * segment_record_words + place_at) p in
      record {
        tag = segment_word_other m₃ _ k _ (λ e. omega arith) ∙ segment_word_other m₂ _ p _ (λ e. omega arith) ∙ segment_word_other m₁ _ c _ (λ e. omega arith) ∙ segment_word_there m _ t (omega arith);
        class = segment_word_other m₃ _ k _ (λ e. omega arith) ∙ segment_word_other m₂ _ p _ (λ e. omega arith) ∙ segment_word_there m₁ _ c (omega arith);
        place = segment_word_other m₃ _ k _ (λ e. omega arith) ∙ segment_word_there m₂ _ p (omega arith);
        owner = segment_word_there m₃ _ k (omega arith);
      }

  word_far : (j : ℕ) → (j / segment_record_words ≡ s → ⊥) → segment_record_word (set_record m s t c p k) j ≡ segment_record_word m j
  word_far j f =
      segment_word_other m₃ _ k j (λ e. f (omega arith)) ∙ segment_word_other m₂ _ p j (λ e. f (omega arith))
      ∙ segment_word_other m₁ _ c j (λ e. f (omega arith)) ∙ segment_word_other m _ t j (λ e. f (omega arith))

  pub record_other : (r : ℕ) → (r ≡ s → ⊥) → Untouched m (set_record m s t c p k) r
  record_other r f = record {
    tag = word_far _ (λ e. f (omega arith));
    class = word_far _ (λ e. f (omega arith));
    place = word_far _ (λ e. f (omega arith));
    owner = word_far _ (λ e. f (omega arith));
    counts = record { kept = word_far _ (λ e. f (omega arith)); handed = word_far _ (λ e. f (omega arith)) };
  }

  word_behind : (j : ℕ) → s * segment_record_words + owner_at < j → segment_record_word (set_record m s t c p k) j ≡ segment_record_word m j
  word_behind j l =
      segment_word_other m₃ _ k j (λ e. omega arith) ∙ segment_word_other m₂ _ p j (λ e. omega arith)
      ∙ segment_word_other m₁ _ c j (λ e. omega arith) ∙ segment_word_other m _ t j (λ e. omega arith)

  pub record_counts : (r : ℕ) → CountsStay m (set_record m s t c p k) r
  record_counts r = ⊎_elim (λ e. subst (CountsStay m (set_record m s t c p k)) (sym e) there) (λ f. (record_other r f).counts) (same_or_not r s)
    where
      there : CountsStay m (set_record m s t c p k) s
      there = record { kept = word_behind _ (omega arith); handed = word_behind _ (omega arith) }

-- the tag alone: the rest of the record stays, and other records
pub tag_there : (m : Mem) (s t : ℕ) → s * segment_record_words + tag_at < length m.segments → Retagged m (set_tag m s t) s t
tag_there m s t h = record {
  tag = segment_word_there m _ t h;
  class = segment_word_other m _ t _ (λ e. omega arith);
  place = segment_word_other m _ t _ (λ e. omega arith);
  owner = segment_word_other m _ t _ (λ e. omega arith);
  counts = record { kept = segment_word_other m _ t _ (λ e. omega arith); handed = segment_word_other m _ t _ (λ e. omega arith) };
}

pub tag_other : (m : Mem) (s t r : ℕ) → (r ≡ s → ⊥) → Untouched m (set_tag m s t) r
tag_other m s t r f = record {
  tag = segment_word_other m _ t _ (λ e. f (omega arith));
  class = segment_word_other m _ t _ (λ e. omega arith);
  place = segment_word_other m _ t _ (λ e. omega arith);
  owner = segment_word_other m _ t _ (λ e. omega arith);
  counts = record { kept = segment_word_other m _ t _ (λ e. omega arith); handed = segment_word_other m _ t _ (λ e. omega arith) };
}

-- the words of a state
abbrev pub tag_of : SegmentState → ℕ
tag_of state.Free = Tag.free
tag_of (state.Part c p) = Tag.part
tag_of (state.Held c p k) = Tag.held
tag_of (state.Full c) = Tag.full
tag_of (state.Condemned c p) = Tag.condemned

abbrev pub class_in : SegmentState → ℕ
class_in state.Free = 0
class_in (state.Part c p) = c
class_in (state.Held c p k) = c
class_in (state.Full c) = c
class_in (state.Condemned c p) = c

abbrev pub place_in : (g : Geometry) → SegmentState → ℕ
place_in g state.Free = 0
place_in g (state.Part c p) = p
place_in g (state.Held c p k) = p
place_in g (state.Full c) = blocks_in g c
place_in g (state.Condemned c p) = p

abbrev pub owner_in : SegmentState → ℕ
owner_in state.Free = 0
owner_in (state.Part c p) = 0
owner_in (state.Held c p k) = k
owner_in (state.Full c) = 0
owner_in (state.Condemned c p) = 0

pub state_is : (g : Geometry) (m : Mem) (s : ℕ) (x : SegmentState) → set_segment_state g m s x ≡ set_record m s (tag_of x) (class_in x) (place_in g x) (owner_in x)
unfolding set_segment_state
state_is g m s state.Free = refl
state_is g m s (state.Part c p) = refl
state_is g m s (state.Held c p k) = refl
state_is g m s (state.Full c) = refl
state_is g m s (state.Condemned c p) = refl

-- the record of a segment whose state is set, and of another
pub state_there : (g : Geometry) (m : Mem) (s : ℕ) (x : SegmentState) → s * segment_record_words + owner_at < length m.segments
    → Recorded (set_segment_state g m s x) s (tag_of x) (class_in x) (place_in g x) (owner_in x)
state_there g m s x h = rw (state_is g m s x) (record_there m s (tag_of x) (class_in x) (place_in g x) (owner_in x) h)

pub state_other : (g : Geometry) (m : Mem) (s : ℕ) (x : SegmentState) (r : ℕ) → (r ≡ s → ⊥) → Untouched m (set_segment_state g m s x) r
state_other g m s x r f = rw (state_is g m s x) (record_other m s (tag_of x) (class_in x) (place_in g x) (owner_in x) r f)

-- the other regions stay
pub record OtherRegions (m m' : Mem) : Type 0 where
  pub control : m'.control ≡ m.control
  pub mutators : m'.mutators ≡ m.mutators
  pub stacks : m'.stacks ≡ m.stacks
  pub bitmaps : m'.bitmaps ≡ m.bitmaps
  pub marks : m'.marks ≡ m.marks
  pub trace : m'.trace ≡ m.trace
  pub heap : m'.heap ≡ m.heap

record_others : (m : Mem) (s t c p k : ℕ) → OtherRegions m (set_record m s t c p k)
unfolding set_segment
record_others m s t c p k = record { control = refl; mutators = refl; stacks = refl; bitmaps = refl; marks = refl; trace = refl; heap = refl }

pub tag_others : (m : Mem) (s t : ℕ) → OtherRegions m (set_tag m s t)
unfolding set_segment
tag_others m s t = record { control = refl; mutators = refl; stacks = refl; bitmaps = refl; marks = refl; trace = refl; heap = refl }

pub state_others : (g : Geometry) (m : Mem) (s : ℕ) (x : SegmentState) → OtherRegions m (set_segment_state g m s x)
state_others g m s x = rw (state_is g m s x) (record_others m s (tag_of x) (class_in x) (place_in g x) (owner_in x))

-- and so do the counts of every segment
pub state_counts : (g : Geometry) (m : Mem) (s : ℕ) (x : SegmentState) (r : ℕ) → CountsStay m (set_segment_state g m s x) r
state_counts g m s x r = rw (state_is g m s x) (record_counts m s (tag_of x) (class_in x) (place_in g x) (owner_in x) r)

-- ---- a count set: word o of the record of segment s, behind those of its state

module _ (m : Mem) (s o v : ℕ) (l : owner_at < o) (h : o < segment_record_words) where
  abbrev counted : Mem
  counted = set_segment m (s * segment_record_words + o) v

  -- no segment's state changes, and nothing of another's record
  pub count_state : (r : ℕ) → Recorded counted r (tag m r) (class m r) (place m r) (owner m r)
  count_state r = record {
    tag = segment_word_other m _ v _ (λ e. omega arith);
    class = segment_word_other m _ v _ (λ e. omega arith);
    place = segment_word_other m _ v _ (λ e. omega arith);
    owner = segment_word_other m _ v _ (λ e. omega arith);
  }

  pub count_other : (r : ℕ) → (r ≡ s → ⊥) → Untouched m counted r
  count_other r f = let x = count_state r in record {
    tag = x.tag;
    class = x.class;
    place = x.place;
    owner = x.owner;
    counts = record { kept = segment_word_other m _ v _ (λ e. f (omega arith)); handed = segment_word_other m _ v _ (λ e. f (omega arith)) };
  }

pub handed_there : (m : Mem) (s n : ℕ) → s * segment_record_words + handed_at < length m.segments → Counted (set_handed_count m s n) s (kept_count m s) n
handed_there m s n h = record { kept = segment_word_other m _ n _ (λ e. omega arith); handed = segment_word_there m _ n h }

-- both counts
module _ (m : Mem) (s a b : ℕ) where
  abbrev recounted : Mem
  recounted = set_handed_count (set_kept_count m s a) s b

  pub counts_there : s * segment_record_words + handed_at < length m.segments → Counted recounted s a b
  counts_there h =
      let n = word_length m (s * segment_record_words + kept_at) a in
      record {
        kept = segment_word_other (set_kept_count m s a) _ b _ (λ e. omega arith) ∙ segment_word_there m _ a (omega arith);
        handed = segment_word_there (set_kept_count m s a) _ b (omega arith);
      }

  pub counts_other : (r : ℕ) → (r ≡ s → ⊥) → Untouched m recounted r
  counts_other r f = untouched_then (count_other m s kept_at a (omega arith) (omega arith) r f) (count_other (set_kept_count m s a) s handed_at b (omega arith) (omega arith) r f)

  pub counts_state : (r : ℕ) → Recorded recounted r (tag m r) (class m r) (place m r) (owner m r)
  counts_state r =
      let x = count_state m s kept_at a (omega arith) (omega arith) r in
      let y = count_state (set_kept_count m s a) s handed_at b (omega arith) (omega arith) r in
      record { tag = y.tag ∙ x.tag; class = y.class ∙ x.class; place = y.place ∙ x.place; owner = y.owner ∙ x.owner }

-- ---- stacks: word j of stack t

module _ (g : Geometry) (m : Mem) (s : Sizes g m) (t j v : ℕ) (l : t < stack_count) (h : j < 1 + g.segments) where
  pub stack_there : stack_word (set_stack m (t * (1 + g.segments) + j) v) (t * (1 + g.segments) + j) ≡ v
  unfolding set_stack
  stack_there = let z = s.stacks in let q = within (1 + g.segments) t stack_count j l h in get_or-set_same m.stacks (t * (1 + g.segments) + j) v 0 (omega arith)

  pub stack_other : (t' j' : ℕ) → j' < 1 + g.segments → (t' ≡ t → j' ≡ j → ⊥)
      → stack_word (set_stack m (t * (1 + g.segments) + j) v) (t' * (1 + g.segments) + j') ≡ stack_word m (t' * (1 + g.segments) + j')
  unfolding set_stack
  stack_other t' j' i f = get_or-set_other m.stacks (t * (1 + g.segments) + j) (t' * (1 + g.segments) + j') v 0 (λ e. let q = one_way (1 + g.segments) t' j' t j i h e in f q.0 q.1)
