-- A word is the head of a block in use; a bit is fine; as many bits as entries are the entries'.
use mathlib.Core.Path.{◌≡◌, refl, sym, ap, ◌∙◌, subst}
use mathlib.Core.Bool.{Bool, true, false, true≢false}
use mathlib.Core.Logic.{◌⊎◌, inl, inr}
use Prim.Native.Nat.{ℕ, zero, suc, ◌*◌, ◌/◌, ◌%◌, ◌≤◌, ◌<◌}
use native.Mathlib.Omega.{arith}
use lib.Dec.{eqb}
use borrow.Author.Tests.{eq-eqb, ne_eqb, eqb-true}
use Rattle.basics.specs.Decides.{Decides}
use Rattle.basics.specs.Pick.{pick}
use Rattle.basics.proofs.Deciding.{holds, fails, via, refuted}
use Rattle.basics.proofs.Order.{same_or_not}
use Rattle.words.specs.Bits.{bit_at, ones_among}
use Rattle.words.proofs.Word.{zero_of_not_one}
use Rattle.words.proofs.Lists.{at_lt}
use Rattle.words.proofs.Counts.{lt_of, among_change, places_all, no_ones}
use Rattle.classes.specs.Class.{IsClass, first_class, block_words}
use Rattle.layout.specs.declared.Geometry.{Geometry}
use Rattle.layout.specs.Geometry.{len, segment_words, most_blocks, segment_of, mark_bit}
use Rattle.layout.specs.Mem.{Mem}
use Rattle.layout.proofs.Sizes.{marks_words, segment_below}
use Rattle.model.specs.Fields.{tag, class, trace_count}
use Rattle.model.specs.Segments.{used_bit}
use Rattle.model.specs.Records.{block_of}
use Rattle.model.specs.Reaching.{IsEntry}
use Rattle.model.specs.Consistent.{RecordOk, HeadInUse, bit_word}
use Rattle.model_laws.proofs.Blocks.{head_word, bit_below}
use Rattle.model_laws.proofs.Apart.{class_of}
use Rattle.examine_record.specs.Tests.{Classed}
use Rattle.examine_trace.specs.Traced.{Traced, entry_at, entry_bit}
use Rattle.examine_marks.specs.Heads.{Classes, Asked, BitFine, OnlyEntries}
use Rattle.layout.specs.Region as Region
use Rattle.model.specs.Tag as Tag

-- ---- a head

module _ (g : Geometry) (m : Mem) (at s c : ℕ) (es : s ≡ segment_of g at) (k : Classed m s c) (o w : ℕ) (eo : o ≡ at % segment_words g) (ew : w ≡ block_words c) where
  class_is : c ≡ class m (segment_of g at)
  class_is = k.is ∙ ap (class m) es

  head_is : o % w ≡ at % segment_words g % block_words (class m (segment_of g at))
  head_is = rw (eo, ew, class_is)

  used_is : used_bit g m s (o / w) ≡ used_bit g m (segment_of g at) (block_of g m at)
  used_is = rw (es, eo, ew, class_is)

  pub no_head : (o % w ≡ 0 → ⊥) → Decides false (HeadInUse g m at)
  no_head f = fails (λ h. f (head_is ∙ h.aligned))

  pub head_by : o % w ≡ 0 → (r : Bool) → Decides r (used_bit g m s (o / w) ≡ 1) → Decides r (HeadInUse g m at)
  head_by a r d = via (λ u. record { used = λ f. k.used (ap (tag m) es ∙ f); aligned = sym head_is ∙ a; block = sym used_is ∙ u }) (λ h. used_is ∙ h.block) d

module _ (g : Geometry) (m : Mem) (at s : ℕ) (es : s ≡ segment_of g at) (t : ℕ) (et : t ≡ tag m s) where
  pub free_head : t ≡ Tag.free → Decides false (HeadInUse g m at)
  free_head z = fails (λ h. h.used (ap (tag m) (sym es) ∙ sym et ∙ z))

  pub classed_in : Classes g m → s < g.segments → (t ≡ Tag.free → ⊥) → (c : ℕ) → c ≡ class m s → Classed m s c
  classed_in k l f c e = record { is = e; class = subst IsClass (sym e) (k s l (λ q. f (et ∙ q))); used = λ q. f (et ∙ q) }

-- ---- a segment asked of

module _ (m : Mem) (s : ℕ) where
  pub asked_all : (b : Bool) → b ≡ false → Decides true (Asked b m s)
  asked_all false e = holds tt
  asked_all true e = absurd (true≢false e)

  pub asked_tag : (b : Bool) → b ≡ true → (t : ℕ) → t ≡ tag m s → Decides (eqb t Tag.condemned) (Asked b m s)
  asked_tag true e t et = record { sound = λ q. sym et ∙ eqb-true t Tag.condemned q; complete = λ q. eq-eqb t Tag.condemned (et ∙ q) }
  asked_tag false e t et = absurd (true≢false (sym e))

-- ---- a bit

module _ (g : Geometry) (k at : ℕ) (l : k < g.segments * most_blocks g) (w : ℕ) (ew : w ≡ block_words first_class) (ea : at ≡ k * w) where
  pub at_is : at ≡ bit_word k
  at_is = ea ∙ ap (λ z. k * z) ew

  pub at_inside : at < len g Region.heap
  at_inside = let e = marks_words g g.segments in let h = at_is in omega arith

  pub at_segment : (s : ℕ) → s ≡ segment_of g at → s < g.segments
  at_segment s es = subst (λ z. z < g.segments) (sym es) (segment_below g at at_inside)

  module _ (m : Mem) (only : Bool) (s : ℕ) (es : s ≡ segment_of g at) where
    asked_is : Asked only m s → Asked only m (segment_of g (bit_word k))
    asked_is a = subst (λ z. Asked only m z) (es ∙ ap (segment_of g) at_is) a

    asked_back : Asked only m (segment_of g (bit_word k)) → Asked only m s
    asked_back a = subst (λ z. Asked only m z) (sym (es ∙ ap (segment_of g) at_is)) a

    pub not_asked : (r : Bool) → Decides r (Asked only m s) → r ≡ false → Decides true (BitFine only g m k)
    not_asked r d e = holds (λ a b. absurd (refuted d e (asked_back a)))

    pub fine_by : (q : Bool) → Decides q (Asked only m s) → q ≡ true → bit_at m.marks k ≡ 1 → (r : Bool) → Decides r (HeadInUse g m at) → Decides r (BitFine only g m k)
    fine_by q a e b r d = via (λ h _ _. subst (HeadInUse g m) at_is h) (λ f. subst (HeadInUse g m) (sym at_is) (f (asked_is (a.sound e)) b)) d

-- ---- as many bits as entries

-- no more ones than places that have them all
ones_le : (c : ℕ) (f : ℕ → ℕ) (n : ℕ) (p : ℕ → ℕ) → ((k : ℕ) → f k < 2) → ((i : ℕ) → i < c → p i < n) → ((k : ℕ) → k < n → f k ≡ 1 → (i : ℕ) × (i < c) × (p i ≡ k)) → ones_among f n ≤ c
ones_le zero f n p b q h = let e = no_ones f n (λ i l. zero_of_not_one (f i) (b i) (λ y. absurd (let z = (h i l y).1 in omega arith))) in omega arith
ones_le (suc c) f n p b q h =
    let e = among_change f less n (p c) (q c (omega arith)) other in
    let z = gone in
    let y = b (p c) in
    let ih = ones_le c less n p small (λ i l. q i (omega arith)) found in
    omega arith
  where
    less : ℕ → ℕ
    less i = pick (eqb i (p c)) 0 (f i)

    gone : less (p c) ≡ 0
    gone = rw (eq-eqb (p c) (p c) refl) refl

    other : (i : ℕ) → i < n → (i ≡ p c → ⊥) → less i ≡ f i
    other i l d = rw (ne_eqb i (p c) d) refl

    small : (k : ℕ) → less k < 2
    small k = go (eqb k (p c))
      where
        go : (t : Bool) → pick t 0 (f k) < 2
        go true = omega arith
        go false = b k

    found : (k : ℕ) → k < n → less k ≡ 1 → (i : ℕ) × (i < c) × (p i ≡ k)
    found k l e = go (same_or_not k (p c))
      where
        go : (k ≡ p c) ⊎ (k ≡ p c → ⊥) → (i : ℕ) × (i < c) × (p i ≡ k)
        go (inl y) = absurd (let z : less k ≡ 0 = ap less y ∙ gone in omega arith)
        go (inr y) = let r = h k l (sym (other k l y) ∙ e) in (r.0, lt_of r.1 (λ z. y (sym r.2 ∙ ap p z)), r.2)

-- one of the places is k, or none
look : (c : ℕ) (p : ℕ → ℕ) (k : ℕ) → ((i : ℕ) × (i < c) × (p i ≡ k)) ⊎ ((i : ℕ) → i < c → p i ≡ k → ⊥)
look zero p k = inr (λ i l e. absurd (omega arith))
look (suc c) p k = go (look c p k) (same_or_not (p c) k)
  where
    go : ((i : ℕ) × (i < c) × (p i ≡ k)) ⊎ ((i : ℕ) → i < c → p i ≡ k → ⊥) → (p c ≡ k) ⊎ (p c ≡ k → ⊥) → ((i : ℕ) × (i < suc c) × (p i ≡ k)) ⊎ ((i : ℕ) → i < suc c → p i ≡ k → ⊥)
    go (inl r) e = inl (r.0, (let l = r.1 in omega arith), r.2)
    go (inr d) (inl e) = inl (c, omega arith, e)
    go (inr d) (inr e) = inr (λ i l q. d i (lt_of l (λ z. e (sym (ap p z) ∙ q))) q)

module _ (g : Geometry) (m : Mem) (t : Traced g m) where
  entry_of : (i : ℕ) → i < trace_count m → IsEntry m (entry_at m i)
  entry_of i l = record { index = i; within = l; names = let h = t.trace.named i l in omega arith }

  record_of : (i : ℕ) → i < trace_count m → RecordOk g m (entry_at m i)
  record_of i l = t.records (entry_at m i) (entry_of i l)

  word_of : (i : ℕ) → i < trace_count m → bit_word (entry_bit g m i) ≡ entry_at m i
  word_of i l = let r = record_of i l in head_word g m (entry_at m i) (class_of g m (entry_at m i) r) r.aligned

  place_of : (i : ℕ) → i < trace_count m → entry_bit g m i < g.segments * most_blocks g
  place_of i l = let r = record_of i l in bit_below g m (entry_at m i) (class_of g m (entry_at m i) r) r.inside

  apart : (i j : ℕ) → i < j → j < trace_count m → entry_bit g m i ≡ entry_bit g m j → ⊥
  apart i j x l e =
      let a = word_of i (omega arith) in
      let b = word_of j l in
      let c : entry_at m i ≡ entry_at m j = sym a ∙ ap bit_word e ∙ b in
      let u = t.trace.named i (omega arith) in
      let v = t.trace.named j l in
      t.trace.once i j x l (omega arith)

  all_entries : ones_among (bit_at m.marks) (g.segments * most_blocks g) ≤ trace_count m → OnlyEntries g m
  all_entries q k l e = go (look (trace_count m) (entry_bit g m) k)
    where
      go : ((i : ℕ) × (i < trace_count m) × (entry_bit g m i ≡ k)) ⊎ ((i : ℕ) → i < trace_count m → entry_bit g m i ≡ k → ⊥) → IsEntry m (bit_word k)
      go (inl r) = subst (IsEntry m) (sym (word_of r.0 r.1) ∙ ap bit_word r.2) (entry_of r.0 r.1)
      go (inr d) =
          absurd
          (places_all (trace_count m) (bit_at m.marks) (g.segments * most_blocks g) (entry_bit g m) (λ i h. (place_of i h, t.trace.bits (entry_at m i) (entry_of i h))) apart q k l e d)

  few : OnlyEntries g m → ones_among (bit_at m.marks) (g.segments * most_blocks g) ≤ trace_count m
  few h = ones_le (trace_count m) (bit_at m.marks) (g.segments * most_blocks g) (entry_bit g m) (at_lt m.marks) place_of found
    where
      found : (k : ℕ) → k < g.segments * most_blocks g → bit_at m.marks k ≡ 1 → (i : ℕ) × (i < trace_count m) × (entry_bit g m i ≡ k)
      found k l e = let r = h k l e in (r.index, r.within, back r)
        where
          back : (r : IsEntry m (bit_word k)) → entry_bit g m r.index ≡ k
          back r = let z : entry_at m r.index ≡ bit_word k = omega (arith, r.names) in ap mark_bit z ∙ half
            where
              half : mark_bit (bit_word k) ≡ k
              half = omega arith

  pub entries_by : (ones n : ℕ) → ones ≡ ones_among (bit_at m.marks) (g.segments * most_blocks g) → n ≡ trace_count m → Decides (eqb ones n) (OnlyEntries g m)
  entries_by ones n eo en = record {
    sound = λ e. let z = eqb-true ones n e in all_entries (omega arith);
    complete = λ h. let a = few h in let b = t.trace.number in eq-eqb ones n (omega arith);
  }
