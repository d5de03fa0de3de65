-- The words of a trace stack in order and its marks, over a memory that they may be put into; and one record more on top.
use mathlib.Core.Path.{◌≡◌, refl, sym, ◌∙◌, ap, ap₂, subst}
use mathlib.Core.Logic.{◌⊎◌, inl, inr, ⊎_elim}
use mathlib.Core.Bool.{Bool, true, false, ◌&&◌}
use mathlib.Core.List.{List, ◌∷◌, Memᴰ}
use Prim.Native.Nat.{ℕ, suc, ◌+◌, ◌-◌, ◌*◌, ◌/◌, ◌≤◌, ◌<◌}
use native.Mathlib.Omega.{arith}
use lib.Dec.{eqb}
use borrow.Author.Tests.{eqb-true}
use Rattle.basics.specs.Pick.{pick}
use Rattle.classes.specs.Class.{IsClass}
use lib.ListN.{length, get_or, set, length-set}
use lib.Seq.{get_or-set_same, get_or-set_other}
use Rattle.basics.proofs.Order.{le_or_lt, same_or_not}
use Rattle.words.specs.Bits.{bit_at, set_bit, ones_among}
use Rattle.words.proofs.Word.{zero_of_not_one}
use Rattle.words.proofs.Lists.{at_lt, set_there, set-elsewhere, length-set_bit}
use Rattle.words.proofs.Ones.{among_words_le}
use Rattle.layout.specs.declared.Geometry.{Geometry}
use Rattle.layout.specs.Geometry.{len, mutator_count, most_blocks, segment_of, mark_bit}
use Rattle.layout.specs.Mem.{Mem, control_word, heap_word}
use Rattle.model.specs.PhaseNumbers.{phase_of}
use Rattle.model.specs.Fields.{phase, cursor, class}
use Rattle.model.specs.Records.{on_stack, marked}
use Rattle.model.specs.Reaching.{IsEntry, Live}
use Rattle.model.specs.Consistent.{MutatorOk, RecordOk, HeadInUse, MarksOf, bit_word}
use Rattle.refine_view.specs.View.{view, stack_of, is_head}
use Rattle.refine_view.specs.Refines.{EntriesOk, MarksIn, Structure}
use Rattle.layout.proofs.Sizes.{marks_are}
use Rattle.model_laws.proofs.Blocks.{bit_below, same_bit, head_word}
use Rattle.model_laws.proofs.Marked.{stack_same, stack_other, entry_unmarked, unentered}
use Rattle.words.proofs.Counts.{set-count}
use Rattle.refine_view.proofs.Seeing.{entry_of, entries_same}
use Rattle.model_laws.proofs.Apart.{class_of}
use Rattle.refine_view.proofs.Carried.{marks_by}
use Rattle.refine_view.proofs.Frames.{beside, Held, structure_beside, marks_beside, use_beside}
use Rattle.refine_trace.proofs.Over.{over, Segments}
use Rattle.layout.specs.Region as Region

pub record Entered (g : Geometry) (m : Mem) (c q t : List ℕ) : Type 0 where
  pub length_control : length c ≡ len g Region.control
  pub length_marks : length q ≡ len g Region.marks
  pub length_trace : length t ≡ len g Region.trace
  pub phase : get_or c 0 0 ≡ control_word m 0
  pub cursor : get_or c 2 0 ≡ cursor m
  pub named : (i : ℕ) → i < get_or c 1 0 → 1 ≤ get_or t i 0
  pub records : (i : ℕ) → i < get_or c 1 0 → RecordOk g m (get_or t i 0 - 1)
  pub bits : (i : ℕ) → i < get_or c 1 0 → bit_at q (mark_bit (get_or t i 0 - 1)) ≡ 1
  pub number : get_or c 1 0 ≤ ones_among (bit_at q) (g.segments * most_blocks g)
  pub marks : MarksIn (phase_of (control_word m 0)) g (over m c q t)
  -- what is marked is what was marked
  pub same : (x : ℕ) → IsClass (class m (segment_of g x)) → (view g (over m c q t)).marked x ≡ (view g m).marked x

module _ (g : Geometry) (m : Mem) (c q t : List ℕ) (e : Entered g m c q t) where
  pub entries_over : (mu he : List ℕ) → EntriesOk g (beside m c mu q t he)
  entries_over mu he = record {
    named = e.named;
    bits = λ at n. subst (λ z. bit_at q (mark_bit z) ≡ 1) (let w = n.names in omega arith) (e.bits n.index n.within);
    number = e.number;
  }

  -- put into the memory, where the mutators and the live records are in order
  pub structure_entered : (mu he : List ℕ) → Structure g m → Held g m c mu q t he → ((k : ℕ) → k < mutator_count → MutatorOk g (beside m c mu q t he) k)
      → ((at : ℕ) → Live (beside m c mu q t he) at → RecordOk g m at × (get_or he at 0 ≡ heap_word m at))
      → Structure g (beside m c mu q t he)
  structure_entered mu he o h u r =
      structure_beside g m c mu q t he o (subst (λ z. z ≤ 4) (sym e.phase) o.phases) h u r (entries_over mu he)
      (subst (λ z. MarksIn (phase_of z) g (beside m c mu q t he)) (sym e.phase) (marks_beside g (over m c q t) c mu he refl (phase m) e.marks))

  module _ (f : Segments g m) (at : ℕ) (r : RecordOk g m at) where
    below : mark_bit at < g.segments * most_blocks g
    below = bit_below g m at (class_of g m at r) r.inside

    pub entry_bit : Memᴰ at (stack_of (over m c q t) (get_or c 1 0)) → bit_at q (mark_bit at) ≡ 1
    entry_bit h = let x = entry_of (over m c q t) (get_or c 1 0) at h in subst (λ z. bit_at q (mark_bit z) ≡ 1) x.2 (e.bits x.0 x.1)

    -- ---- one record more

    module _ (free : bit_at q (mark_bit at) ≡ 1 → ⊥) where
      abbrev count : ℕ
      count = get_or c 1 0

      abbrev c' : List ℕ
      c' = set c 1 (count + 1)

      abbrev q' : List ℕ
      q' = set_bit q (mark_bit at)

      abbrev t' : List ℕ
      t' = set t count (suc at)

      zero_bit : bit_at q (mark_bit at) ≡ 0
      zero_bit = zero_of_not_one _ (at_lt q (mark_bit at)) free

      in_words_lem : mark_bit at / 32 < length q
      in_words_lem = let b = below in let l = e.length_marks in let w = marks_are g g.segments in omega arith

      more : count + 1 ≤ ones_among (bit_at q') (g.segments * most_blocks g)
      more = let z = set-count q (mark_bit at) (g.segments * most_blocks g) in_words_lem below zero_bit in let n = e.number in omega arith

      room : count < length t
      room = let a = more in let b = among_words_le q' (g.segments * most_blocks g) in let l = e.length_trace in omega arith

      count_after : get_or c' 1 0 ≡ suc count
      count_after = let l = e.length_control in get_or-set_same c 1 (count + 1) 0 (omega arith) ∙ omega arith

      old_word : (i : ℕ) → i < count → get_or t' i 0 ≡ get_or t i 0
      old_word i l = get_or-set_other t count i (suc at) 0 (λ z. omega arith)

      new_word : get_or t' count 0 ≡ suc at
      new_word = get_or-set_same t count (suc at) 0 room

      word : (i : ℕ) → i < get_or c' 1 0 → ((i < count) × (get_or t' i 0 ≡ get_or t i 0)) ⊎ ((i ≡ count) × (get_or t' i 0 ≡ suc at))
      word i l = go (le_or_lt count i)
        where
          go : (count ≤ i) ⊎ (i < count) → ((i < count) × (get_or t' i 0 ≡ get_or t i 0)) ⊎ ((i ≡ count) × (get_or t' i 0 ≡ suc at))
          go (inl h) = let a = count_after in let z : i ≡ count = omega arith in inr (z, ap (λ x. get_or t' x 0) z ∙ new_word)
          go (inr h) = inl (h, old_word i h)

      bit_there : bit_at q' (mark_bit at) ≡ 1
      bit_there = set_there q (mark_bit at) in_words_lem

      bit_kept : (k : ℕ) → bit_at q k ≡ 1 → bit_at q' k ≡ 1
      bit_kept k b = go (same_or_not k (mark_bit at))
        where
          go : (k ≡ mark_bit at) ⊎ (k ≡ mark_bit at → ⊥) → bit_at q' k ≡ 1
          go (inl z) = ap (bit_at q') z ∙ bit_there
          go (inr z) = set-elsewhere q (mark_bit at) in_words_lem k z ∙ b

      bit_was : (k : ℕ) → bit_at q' k ≡ 1 → (k ≡ mark_bit at) ⊎ (bit_at q k ≡ 1)
      bit_was k b = go (same_or_not k (mark_bit at))
        where
          go : (k ≡ mark_bit at) ⊎ (k ≡ mark_bit at → ⊥) → (k ≡ mark_bit at) ⊎ (bit_at q k ≡ 1)
          go (inl z) = inl z
          go (inr z) = inr (sym (set-elsewhere q (mark_bit at) in_words_lem k z) ∙ b)

      abbrev now : Mem
      now = over m c q t

      abbrev then : Mem
      then = over m c' q' t'

      new_entry : IsEntry then at
      new_entry = record { index = count; within = let z = count_after in omega arith; names = new_word }

      old_entry : (x : ℕ) → IsEntry now x → IsEntry then x
      old_entry x n = let l = n.within in record { index = n.index; within = let z = count_after in omega arith; names = old_word n.index l ∙ n.names }

      at_word : bit_word (mark_bit at) ≡ at
      at_word = head_word g m at (class_of g m at r) r.aligned

      used_more : (test : ℕ → Type 0) → MarksOf g now test → MarksOf g then test
      used_more test h k l u b = go (bit_was k b)
        where
          go : (k ≡ mark_bit at) ⊎ (bit_at q k ≡ 1) → HeadInUse g then (bit_word k)
          go (inl z) = subst (HeadInUse g then) (sym (ap bit_word z ∙ at_word)) (record { used = r.used; aligned = r.aligned; block = r.block })
          go (inr o) = use_beside g now c' m.mutators q' t' m.heap (bit_word k) (h k l u o)

      marks_more : MarksIn (phase m) g now → MarksIn (phase m) g then
      marks_more =
          marks_by g now then (λ x z. z) used_more (phase m)
          (λ z h k l b. ⊎_elim (λ y. subst (IsEntry then) (sym (ap bit_word y ∙ at_word)) new_entry) (λ o. old_entry (bit_word k) (h k l o)) (bit_was k b))

      -- no mark is set: the record on the stack is not marked, and it was not
      same_mark : (x : ℕ) → IsClass (class m (segment_of g x)) → is_head g m x ≡ true → marked g then x ≡ marked g now x
      same_mark x k h = go (same_or_not x at)
        where
          go : (x ≡ at) ⊎ (x ≡ at → ⊥) → marked g then x ≡ marked g now x
          go (inl z) = ap (marked g then) z ∙ entry_unmarked g then at new_entry ∙ sym (ap (marked g now) z ∙ unentered g now at zero_bit)
          go (inr d) =
              ap₂ (λ b w. pick b 0 w)
              (ap (λ n. on_stack t' n x) count_after ∙ stack_other t' count x (λ z. d (let w = new_word in omega arith)) ∙ stack_same t t' count x old_word)
              (set-elsewhere q (mark_bit at) in_words_lem (mark_bit x) (λ z. d (same_bit g m x at k (class_of g m at r) (eqb-true _ _ h) r.aligned z)))

      same_more : (x : ℕ) → IsClass (class m (segment_of g x)) → (view g then).marked x ≡ (view g m).marked x
      same_more x k = go (is_head g m x) refl ∙ e.same x k
        where
          go : (b : Bool) → is_head g m x ≡ b → (b && eqb (marked g then x) 1) ≡ (b && eqb (marked g now x) 1)
          go false h = refl
          go true h = ap (λ z. eqb z 1) (same_mark x k h)

      pub entered_more : Entered g m c' q' t'
      entered_more = record {
        length_control = length-set c 1 (count + 1) ∙ e.length_control;
        length_marks = length-set_bit q (mark_bit at) ∙ e.length_marks;
        length_trace = length-set t count (suc at) ∙ e.length_trace;
        phase = get_or-set_other c 1 0 (count + 1) 0 (λ z. omega arith) ∙ e.phase;
        cursor = get_or-set_other c 1 2 (count + 1) 0 (λ z. omega arith) ∙ e.cursor;
        named = λ i l. ⊎_elim (λ h. let n = e.named i h.0 in let w = h.1 in omega arith) (λ h. let w = h.1 in omega arith) (word i l);
        records = λ i l. ⊎_elim (λ h. subst (λ z. RecordOk g m (z - 1)) (sym h.1) (e.records i h.0)) (λ h. subst (λ z. RecordOk g m z) (let w = h.1 in omega arith) r) (word i l);
        bits =
            λ i l. ⊎_elim (λ h. subst (λ z. bit_at q' (mark_bit (z - 1)) ≡ 1) (sym h.1) (bit_kept _ (e.bits i h.0)))
            (λ h. subst (λ z. bit_at q' (mark_bit z) ≡ 1) (let w = h.1 in omega arith) bit_there) (word i l);
        number = let z = count_after in let y = more in omega arith;
        marks = marks_more e.marks;
        same = same_more;
      }

      pub stack_more : stack_of (over m c' q' t') (get_or c' 1 0) ≡ at ∷ stack_of (over m c q t) count
      stack_more =
          let b : get_or t' count 0 - 1 ≡ at = (let w = new_word in omega arith) in
          ap (stack_of (over m c' q' t')) count_after ∙ ap (λ z. z ∷ stack_of (over m c' q' t') count) b ∙ ap (λ z. at ∷ z) (entries_same (over m c q t) (over m c' q' t') count old_word)
