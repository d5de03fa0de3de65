-- A segment's state as the words of its record, read and written; the round trip, what is written is read back; and a held segment's record of
-- which only the place changes.
use mathlib.Core.Path.{◌≡◌, refl, sym, ◌∙◌, ap}
use Prim.Native.Nat.{ℕ, zero, suc, ◌<◌}
use native.Mathlib.Omega.{arith}
use lib.ListN.{set}
use lib.Seq.{set-get_or}
use Rattle.layout.specs.declared.Geometry.{Geometry}
use Rattle.layout.specs.Mem.{Mem, segment_record_word, set_segment, with_region, Sizes}
use Rattle.model.specs.declared.SegmentState.{SegmentState}
use Rattle.model.specs.Fields.{set_class, set_place, set_owner}
use Rattle.model.specs.Segments.{state_of, segment, set_segment_state, set_record}
use Rattle.model_laws.proofs.Words.{Recorded, segment_word_other, tag_of, class_in, place_in, owner_in, state_is, state_there}
use Rattle.model.specs.declared.SegmentState.TheVariants as state
use Rattle.model.specs.Tag as Tag
use Rattle.layout.specs.Region as Region

-- ---- read: the words t, c, p, k are those of a record, t', c', p', k'

module _ {t t' c c' p p' k k' : ℕ} (et : t ≡ t') (ec : c ≡ c') (ep : p ≡ p') (ek : k ≡ k') where
  words_read : state_of t c p k ≡ state_of t' c' p' k'
  words_read = rw (et, ec, ep, ek) refl

  pub tag_read : (n : ℕ) → t ≡ n → state_of n c p k ≡ state_of t' c' p' k'
  tag_read n e = ap (λ x. state_of x c p k) (sym e) ∙ words_read

  -- a number that is no other tag's
  pub rest_read : (t ≡ Tag.free → ⊥) → (t ≡ Tag.part → ⊥) → (t ≡ Tag.held → ⊥) → (t ≡ Tag.full → ⊥) → state.Condemned c p ≡ state_of t' c' p' k'
  rest_read f x h u = go t f x h u ∙ words_read
    where
      go : (t : ℕ) → (t ≡ Tag.free → ⊥) → (t ≡ Tag.part → ⊥) → (t ≡ Tag.held → ⊥) → (t ≡ Tag.full → ⊥) → state.Condemned c p ≡ state_of t c p k
      go zero f x h u = absurd (f refl)
      go (suc zero) f x h u = absurd (x refl)
      go (suc (suc zero)) f x h u = absurd (h refl)
      go (suc (suc (suc zero))) f x h u = absurd (u refl)
      go (suc (suc (suc (suc t)))) f x h u = refl

-- ---- written

pub state_written : (g : Geometry) (m after : Mem) (s : ℕ) (x y : SegmentState) → y ≡ x → after ≡ set_record m s (tag_of x) (class_in x) (place_in g x) (owner_in x) → after ≡ set_segment_state g m s y
state_written g m after s x y e f = f ∙ sym (state_is g m s x) ∙ ap (set_segment_state g m s) (sym e)

-- ---- the round trip

words_of : (g : Geometry) (x : SegmentState) → state_of (tag_of x) (class_in x) (place_in g x) (owner_in x) ≡ x
words_of g state.Free = refl
words_of g (state.Part c p) = refl
words_of g (state.Held c p k) = refl
words_of g (state.Full c) = refl
words_of g (state.Condemned c p) = refl

pub state_read_back : (g : Geometry) (m : Mem) → Sizes g m → (s : ℕ) → s < g.segments → (x : SegmentState) → segment (set_segment_state g m s x) s ≡ x
state_read_back g m z s l x =
    let n = z.segments in
    let r = state_there g m s x (omega arith) in
    words_read r.tag r.class r.place r.owner ∙ words_of g x

-- ---- a word set to what it holds

word_kept : (m : Mem) (i v : ℕ) → segment_record_word m i ≡ v → set_segment m i v ≡ m
unfolding set_segment
word_kept m i v e = ap (λ z. with_region m Region.segments (set m.segments i z)) (sym e) ∙ ap (with_region m Region.segments) (set-get_or m.segments i 0)

pub place_alone : (g : Geometry) (m : Mem) (s c q p k : ℕ) → Recorded m s Tag.held c q k → set_segment_state g m s (state.Held c p k) ≡ set_place m s p
place_alone g m s c q p k r =
    state_is g m s (state.Held c p k)
    ∙ ap (λ x. set_owner (set_place (set_class x s c) s p) s k) (word_kept m _ _ r.tag)
    ∙ ap (λ x. set_owner (set_place x s p) s k) (word_kept m _ _ r.class)
    ∙ word_kept (set_place m s p) _ _ (segment_word_other m _ p _ (λ e. omega arith) ∙ r.owner)
