-- The block that is handed out and the record there, by what the search in the bitmap answers; and what a make of a class answers, by the segment that it
-- takes.
use mathlib.Core.Path.{◌≡◌, refl, sym, ◌∙◌, ap, subst}
use mathlib.Core.Bool.{Bool, true, false}
use mathlib.Core.Logic.{inl, inr, ⊎_elim}
use mathlib.Core.Option.{some, none-ne-some, some-injective}
use mathlib.Core.List.{List}
use Prim.Native.Nat.{ℕ, suc, ◌+◌, ◌%◌, ◌≤◌, ◌<◌}
use native.Mathlib.Nat.{mod-eq_of_lt}
use native.Mathlib.Omega.{arith}
use Rattle.words.specs.Bits.{bit_at}
use Rattle.words.proofs.Trees.{tree_level}
use Rattle.classes.specs.Class.{IsClass}
use Rattle.classes.specs.declared.RecordShape.{RecordShape}
use Rattle.bitmap_search.specs.declared.Two.{Two}
use Rattle.std.specs.Prelude.{Option, Some, Result, Ok, Err}
use Rattle.bitmap_search.specs.Scan.{next_free, Found}
use Rattle.bitmap_search.specs.Twice.{TwoBelow, TwoPromise}
use Rattle.bitmap_search.proofs.Scan.{IsNext, next_is}
use Rattle.bitmap_search.proofs.Twice.{Says, two_says, never_torn_lem}
use Rattle.layout.specs.declared.Geometry.{Geometry}
use Rattle.layout.specs.Geometry.{mutator_count, blocks_in, mark_bit}
use Rattle.layout.specs.Mem.{Mem, control_word, Sizes}
use Rattle.theory.specs.Phases.{black}
use Rattle.theory.specs.Calls.{a_ok}
use Rattle.model.specs.declared.Answer.{Answer}
use Rattle.model.specs.declared.Answer.TheVariants.{Done}
use Rattle.model.specs.declared.Refusal.{Refusal}
use Rattle.model.specs.declared.Refusal.TheVariants.{Torn}
use Rattle.model.specs.declared.SegmentState.TheVariants.{Full}
use Rattle.model.specs.Answers.{answer_of}
use Rattle.model.specs.PhaseNumbers.{phase_of}
use Rattle.model.specs.Fields.{phase, acks, set_holding, set_root, place, set_place, handed_at, handed_count, set_handed_count}
use Rattle.model.specs.Segments.{set_segment_state, above, bitmap, free}
use Rattle.model.specs.Records.{header_of, written, set_entered}
use Rattle.model.specs.Making.{Source, held, part, unused, no_room, source_of, advanced, blackened, counted_out, handed_out, in_block, in_segment, from_source, made}
use Rattle.model_laws.proofs.Blocks.{blocks_most}
use Rattle.model_laws.proofs.Words.{Recorded, count_state}
use Rattle.segments.proofs.Records.{place_alone}
use Rattle.bitmaps.specs.Given.{NearIn}
use Rattle.marks.specs.Bits.{with_mark}
use Rattle.making.specs.Taking.{segment_in, taken_from, Takes}
use Rattle.making.specs.HandingOut.{SegmentReady, Advances, filled_as, HandsOut, Makes}
use Rattle.making.proofs.Readying.{ready}
use Rattle.bitmap_search.specs.declared.Two.TheVariants as two
use Rattle.std.specs.declared.result.Result.TheVariants as found
use Rattle.model.specs.Tag as Tag

pub more_below : {a n p b : ℕ} {ws : List ℕ} {r : Two} → TwoPromise a ws n p r → r ≡ two.More b → b < n
more_below {n = n} q e = subst (TwoBelow n) e q.within

pub near_at : (g : Geometry) (m : Mem) (s p b : ℕ) (r : Option ℕ) → NearIn g m s p r → r ≡ Some b → NearIn g m s p (Some b)
near_at g m s p b r q e = subst (NearIn g m s p) e q

-- the words of its record, where one block more is counted
held_record : (g : Geometry) (m : Mem) (k c s : ℕ) → SegmentReady g m k c s → Recorded (counted_out m s) s Tag.held c (place m s) k
held_record g m k c s y =
    let x = count_state m s handed_at (handed_count m s + 1) (omega arith) (omega arith) s in
    record { tag = x.tag ∙ y.tag; class = x.class ∙ y.class; place = x.place; owner = x.owner ∙ y.owner }

-- h is its count
counted_is : (m m₀ : Mem) (s h : ℕ) → h ≡ handed_count m s → m₀ ≡ set_handed_count m s (h + 1) → m₀ ≡ counted_out m s
counted_is m m₀ s h e f = f ∙ ap (λ x. set_handed_count m s (x + 1)) e

-- its count h can grow no more
pub advanced_most : (g : Geometry) (m : Mem) (k c s h : ℕ) → h ≡ handed_count m s → h ≡ 4294967295 → Advances g m k c s (Err Torn) m
advanced_most g m k c s h e f = (refl, λ y. let l = y.counted in omega arith)

-- ---- the block: r is what the search answers from the place p

module _ (g : Geometry) (m : Mem) (k c s : ℕ) (p : ℕ) (ep : p ≡ place m s) (r : Two) (q : TwoPromise (above g c) (bitmap g m s) (blocks_in g c) p r) where
  abbrev scan : ℕ → Found
  scan = next_free (bit_at (bitmap g m s)) (blocks_in g c)

  scans : SegmentReady g m k c s → (x : Two) → r ≡ x → Says scan scan p x
  scans y x e = two_says scan scan p x (sym e ∙ q.scan y.tree)

  module _ (h : ℕ) (eh : h ≡ handed_count m s) (m₀ : Mem) (e₀ : m₀ ≡ set_handed_count m s (h + 1)) where
    counted : m₀ ≡ counted_out m s
    counted = counted_is m m₀ s h eh e₀

    pub advanced_more : (b : ℕ) → r ≡ two.More b → (m₁ : Mem) → m₁ ≡ set_place m₀ s (b + 1) → Advances g m k c s (Ok b) m₁
    advanced_more b e m₁ f = (
      more_below q e,
      λ y.
          let v = scans y (two.More b) e in (
            ap scan (sym ep) ∙ v.0,
            f ∙ ap (λ z. set_place z s (b + 1)) counted ∙ sym (place_alone g (counted_out m s) s c (place m s) (b + 1) k (held_record g m k c s y))
                ∙ ap (advanced g (counted_out m s) k c s (b + 1)) (sym v.1.1),
          ),
    )

    pub advanced_last : (b : ℕ) → r ≡ two.Last b → (m₁ m₂ : Mem) → m₁ ≡ set_segment_state g m₀ s (Full c) → m₂ ≡ set_holding m₁ k c 0 → Advances g m k c s (Ok b) m₂
    advanced_last b e m₁ m₂ f h = (
      subst (TwoBelow (blocks_in g c)) e q.within,
      λ y.
          let v = scans y (two.Last b) e in (
            ap scan (sym ep) ∙ v.0,
            h ∙ ap (λ z. set_holding z k c 0) (f ∙ ap (λ z. set_segment_state g z s (Full c)) counted) ∙ ap (advanced g (counted_out m s) k c s (b + 1)) (sym v.1),
          ),
    )

  pub advanced_none : r ≡ two.Nothing → Advances g m k c s (Err Torn) m
  advanced_none e = (
    refl,
    λ y.
        let n = subst (IsNext (bit_at (bitmap g m s)) (blocks_in g c) p) (scans y two.Nothing e) (next_is (bit_at (bitmap g m s)) (blocks_in g c) p) in
        let b = y.remains in
        n b.0 (subst (λ z. z ≤ b.0) (sym ep) b.1) b.2 b.3,
  )

  pub advanced_torn : r ≡ two.Torn → Advances g m k c s (Err Torn) m
  advanced_torn e = (refl, λ y. never_torn_lem (bit_at (bitmap g m s)) (blocks_in g c) p (sym e ∙ q.scan y.tree))

-- ---- born marked: n is the phase's number, a the acknowledgements, t whether that is black

module _ (g : Geometry) (m : Mem) (k at n a : ℕ) (t : Bool) (en : n ≡ control_word m 0) (ea : a ≡ acks m k) (et : t ≡ black (phase_of n) a) where
  is_black : black (phase m) (acks m k) ≡ t
  is_black = sym (et ∙ ap (λ z. black (phase_of z) a) en ∙ ap (black (phase m)) ea)

  pub born_black : t ≡ true → (i : ℕ) → i ≡ mark_bit at → (m₁ : Mem) → m₁ ≡ with_mark m i → m₁ ≡ blackened g m k at
  unfolding with_mark set_entered
  born_black e i ei m₁ f = f ∙ rw (is_black ∙ e, ei) refl

  pub born_white : t ≡ false → m ≡ blackened g m k at
  born_white e = rw (is_black ∙ e) refl

-- ---- the record

module _ (g : Geometry) (m : Mem) (k d c s b at : ℕ) (e : at ≡ header_of g s c b) (shape : RecordShape) where
  pub filled : (m₁ m₂ : Mem) → m₁ ≡ written m at shape → m₂ ≡ set_root (blackened g m₁ k at) k d (suc at) → m₂ ≡ filled_as g m k d c s b shape
  filled m₁ m₂ e₁ e₂ = e₂ ∙ rw (e₁, e) refl

-- ---- out of segment s

module _ (g : Geometry) (m : Mem) (k d c s : ℕ) (shape : RecordShape) (m₁ : Mem) where
  pub none_out : (w : Refusal) → Advances g m k c s (Err w) m₁ → HandsOut g m k d c s shape (Err w) m₁
  none_out w q = record { either = inr (ap Err q.0); exact = λ y. absurd (q.1 y) }

  pub handed_out_lem : (b : ℕ) → Advances g m k c s (Ok b) m₁ → (m₂ : Mem) → m₂ ≡ filled_as g m₁ k d c s b shape → HandsOut g m k d c s shape (Ok Done) m₂
  unfolding handed_out
  handed_out_lem b q m₂ f = record { either = inl refl; exact = λ y. let x = q.1 y in (b, refl, x.0, f ∙ rw x.1 refl) }

-- ---- out of segment s where the place's own word tells: p is the place, b the block, h the count

module _ (g : Geometry) (m : Mem) (k d c s : ℕ) (i : IsClass c) (shape : RecordShape) (p : ℕ) (ep : p ≡ place m s) (b : ℕ) (q : NearIn g m s p (Some b)) (h : ℕ) (eh : h ≡ handed_count m s) where
  pub near_out : (m₀ m₁ m₂ : Mem) → m₀ ≡ set_handed_count m s (h + 1) → m₁ ≡ set_place m₀ s (b + 1) → m₂ ≡ filled_as g m₁ k d c s (b % blocks_in g c) shape → HandsOut g m k d c s shape (Ok Done) m₂
  unfolding handed_out
  near_out m₀ m₁ m₂ e₀ f e = record {
    either = inl refl;
    exact = λ y.
        let bits = bit_at (bitmap g m s) in
        let n = blocks_in g c in
        let find = next_free bits n in
        let r = y.remains in
        let from = r.1 in
        let under = r.2 in
        let v = two_says find find p (two.More b) (q.1 n (blocks_most g c i) (omega arith) (tree_level (above g c) n (bitmap g m s) y.tree)) in
        let same : b % n ≡ b = mod-eq_of_lt (subst (IsNext bits n p) v.0 (next_is bits n p)).1 in
        let moved : m₁ ≡ advanced g (counted_out m s) k c s (b + 1) (free g m s c (b + 1)) =
        f ∙ ap (λ z. set_place z s (b + 1)) (counted_is m m₀ s h eh e₀) ∙ sym (place_alone g (counted_out m s) s c (place m s) (b + 1) k (held_record g m k c s y))
        ∙ ap (advanced g (counted_out m s) k c s (b + 1)) (sym v.1.1) in
        (b, refl, ap find (sym ep) ∙ v.0, e ∙ rw (same, moved) refl);
  }

-- ---- a make of a class: r is what is taken, m₁ the memory with it

module _ (g : Geometry) (m : Mem) (k d c : ℕ) (shape : RecordShape) where
  by_segment : (source : Source) (s : ℕ) → segment_in source ≡ some s → from_source g m k d c shape source ≡ in_segment g m (taken_from g m k c source) k d c s shape
  by_segment (held q) s e = ap (λ v. in_segment g m m k d c v shape) (some-injective q s e)
  by_segment (part q) s e = rw (some-injective q s e) refl
  by_segment (unused q) s e = rw (some-injective q s e) refl
  by_segment no_room s e = absurd (none-ne-some s e)

  module _ (m₁ : Mem) where
    pub make_none : (w : Refusal) → Takes g m k c (Err w) m₁ → Makes g m k d c shape (Err w) m₁
    unfolding made
    make_none w (inl y) = record { either = inr (inl (ap Err y.0)); exact = λ x. rw (y.0, y.1) (refl, y.2) }
    make_none w (inr y) = record { either = inr (inr (ap Err y.0)); exact = λ x. absurd (y.1 x) }

    pub make_done : Sizes g m → k < mutator_count → IsClass c → (s : ℕ) → Takes g m k c (Ok s) m₁ → (a : Result Answer Refusal) (m₂ : Mem) → HandsOut g m₁ k d c s shape a m₂ → Makes g m k d c shape a m₂
    unfolding made
    make_done z few i s y a m₂ h = record {
      either = ⊎_elim inl (λ v. inr (inr v)) h.either;
      exact = λ x.
          let o = h.exact (subst (λ v. SegmentReady g v k c s) (sym y.2) (ready g m z x k c few i s y.1)) in
          let w : from_source g m k d c shape (source_of g m k c) ≡ (a_ok, handed_out g m₁ k d c s o.0 shape) =
          by_segment (source_of g m k c) s y.1 ∙ ap (λ v. in_segment g m v k d c s shape) (sym y.2) ∙ ap (λ v. in_block g m m₁ v k d c s shape) o.2 in
          (ap answer_of o.1 ∙ sym (ap (λ v. v.0) w), o.3 ∙ sym (ap (λ v. v.1) w));
    }
