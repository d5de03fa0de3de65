-- The blocks that a cycle traces: each was in use when the phase became mark and not marked since, and no two are one, for the first of two steps marks
-- its block and a mark stays.
use mathlib.Core.Path.{◌≡◌, refl, sym, ◌∙◌, ap, subst}
use mathlib.Core.Logic.{◌⊎◌, inl, inr, ⊎_elim}
use mathlib.Core.Option.{some}
use mathlib.Core.List.{List, [], ◌∷◌, ◌++◌}
use Prim.Native.Nat.{ℕ, suc, ◌-◌, ◌<◌}
use native.Mathlib.Omega.{arith}
use Rattle.layout.specs.declared.Geometry.{Geometry}
use Rattle.layout.specs.Geometry.{blocks_in, mark_bit}
use Rattle.layout.specs.Mem.{Mem, mem_of, Sizes, trace_word}
use Rattle.theory.specs.Phases.{Phase, idle, sync1, sync2, mark, sweep}
use Rattle.model.specs.declared.Step.TheVariants.{Moved, Traced, Swept, Done}
use Rattle.model.specs.Fields.{phase, trace_count, class}
use Rattle.model.specs.Records.{header_of, marked}
use Rattle.model.specs.Tracing.{traced}
use Rattle.model.specs.Consistent.{Consistent, BlockInUse}
use Rattle.model.specs.Lists.{Event, step_call, Element, event_number, next_words, words_after}
use Rattle.model_laws.proofs.Segments.{in_range}
use Rattle.model_laws.proofs.Blocks.{header_is_class, header_head, same_bit}
use Rattle.refine_run.proofs.Elements.{ahead}
use Rattle.guarantee.specs.EmptyCycle.{following}
use Rattle.guarantee.proofs.Elements.{not_refused}
use Rattle.cycle_bound.specs.StepsLeft.{counted_at, MarkOrSweep}
use Rattle.cycle_bound.specs.CycleBound.{at_mark, traced_record, traced_block, BelongsTo}
use Rattle.cycle_bound.proofs.Unmarked.{Unmarked, WasUnmarked, was_self, was_then}
use Rattle.cycle_bound.proofs.MarkStep.{segment, block, header, traced_unmarked}
use Rattle.cycle_bound.proofs.Advancing.{Traces, Advances, quiet, moves, traces, sweeps, ends}
use Rattle.cycle_bound.proofs.Along.{Inside, sizes_at, awake, advance, inside_next, inside_walk}
use Rattle.cycle_bound.proofs.Bounding.{at_here, at_later, leads}

module _ (g : Geometry) where
  -- ---- a step that traces

  by_traces : (m m' : Mem) (v : Event) → v ≡ step_call Traced → Advances g m m' v → Traces g m m'
  by_traces m m' v q (quiet n p c w) = absurd (let x = ap counted_at q in omega arith)
  by_traces m m' v q (moves i f p c) = absurd (let x : step_call Moved ≡ step_call Traced = sym i ∙ q in let y : ◌≡◌ {A = ℕ} 0 1 = cc in omega arith)
  by_traces m m' v q (traces i t c) = t
  by_traces m m' v q (sweeps s f i p h c) = absurd (let x : step_call (Swept s f) ≡ step_call Traced = sym i ∙ q in let y : ◌≡◌ {A = ℕ} 0 1 = cc in omega arith)
  by_traces m m' v q (ends i p h) = absurd (let x : step_call Done ≡ step_call Traced = sym i ∙ q in let y : ◌≡◌ {A = ℕ} 0 1 = cc in omega arith)

  -- what it was lent and what it left are the list's
  record Here (words : List ℕ) (e : Element) : Type 0 where
    lent : e.before ≡ words
    left : next_words words e ≡ e.after
    traces : Traces g (mem_of g words) (mem_of g (next_words words e))

  here : (words : List ℕ) (e : Element) (ys : List Element) → Inside g words (e ∷ ys) → e.event ≡ step_call Traced → Here words e
  here words e ys i q =
      let h = not_refused g words e i.chain.0 (ap event_number q) i.chain.2 in
      record { lent = h.memory; left = ahead g words e i.chain.0 h; traces = by_traces (mem_of g words) (mem_of g (next_words words e)) e.event q (advance g words e ys i) }

  -- ---- from mark on to such a step

  record Onward (words : List ℕ) (e : Element) : Type 0 where
    in_mark : phase (mem_of g words) ≡ mark
    was : WasUnmarked g (mem_of g words) (mem_of g e.before)

  -- one element before it
  one_before : (m m' : Mem) (v : Event) → Advances g m m' v → MarkOrSweep m → phase m' ≡ mark → (phase m ≡ mark) × WasUnmarked g m m'
  one_before m m' v (quiet n p c w) o q = let e : phase m ≡ mark = sym p ∙ q in (e, w e)
  one_before m m' v (moves i f p c) (inl e) q = absurd (let x : sweep ≡ mark = sym (p ∙ ap following e) ∙ q in let y : ◌≡◌ {A = ℕ} 0 1 = cc in omega arith)
  one_before m m' v (moves i f p c) (inr e) q = absurd (f e)
  one_before m m' v (traces i t c) o q = (t.in_mark, t.was)
  one_before m m' v (sweeps s f i p h c) o q = absurd (let x : sweep ≡ mark = sym h ∙ q in let y : ◌≡◌ {A = ℕ} 0 1 = cc in omega arith)
  one_before m m' v (ends i p h) o q = absurd (let x : idle ≡ mark = sym h ∙ q in let y : ◌≡◌ {A = ℕ} 0 1 = cc in omega arith)

  not_empty : (xs ys : List Element) (e : Element) → xs ++ (e ∷ ys) ≡ [] → ⊥
  not_empty [] ys e q = let y : ◌≡◌ {A = ℕ} 0 1 = cc in omega arith
  not_empty (x ∷ xs) ys e q = let y : ◌≡◌ {A = ℕ} 0 1 = cc in omega arith

  onward : (xs ys : List Element) (e : Element) (words : List ℕ) → Inside g words (xs ++ (e ∷ ys)) → MarkOrSweep (mem_of g words) → e.event ≡ step_call Traced → Onward words e
  onward [] ys e words i o q =
      let h = here words e ys i q in
      record { in_mark = h.traces.in_mark; was = subst (λ x. WasUnmarked g (mem_of g words) (mem_of g x)) (sym h.lent) (was_self g (mem_of g words)) }
  onward (x ∷ xs) ys e words i o q =
      let n = inside_next g words x (xs ++ (e ∷ ys)) i in
      let a = advance g words x (xs ++ (e ∷ ys)) i in
      let r = onward xs ys e (next_words words x) n
      (⊎_elim (λ z. z) (λ z. absurd (not_empty xs ys e (n.over z.0))) (leads g (mem_of g words) (mem_of g (next_words words x)) x.event a o)) q in
      let b = one_before (mem_of g words) (mem_of g (next_words words x)) x.event a o r.in_mark in
      record { in_mark = b.0; was = was_then g (mem_of g words) (mem_of g (next_words words x)) (mem_of g e.before) b.1 r.was }

  -- ---- from any point of the cycle

  record Since (words : List ℕ) (ds : List Element) (e : Element) : Type 0 where
    became : Mem
    is : at_mark g words ds ≡ some became
    was : WasUnmarked g became (mem_of g e.before)

  since : (xs ys : List Element) (e : Element) (words : List ℕ) → Inside g words (xs ++ (e ∷ ys)) → e.event ≡ step_call Traced → Since words (xs ++ (e ∷ ys)) e
  since [] ys e words i q =
      let h = here words e ys i q in
      record {
        became = mem_of g words;
        is = at_here g words (e ∷ ys) h.traces.in_mark;
        was = subst (λ x. WasUnmarked g (mem_of g words) (mem_of g x)) (sym h.lent) (was_self g (mem_of g words));
      }
  since (x ∷ xs) ys e words i q = go (phase (mem_of g words)) refl (λ _. since xs ys e (next_words words x) (inside_next g words x (xs ++ (e ∷ ys)) i) q)
    where
      handshake : (phase (mem_of g words) ≡ sync1) ⊎ (phase (mem_of g words) ≡ sync2) → Since (next_words words x) (xs ++ (e ∷ ys)) e → Since words (x ∷ (xs ++ (e ∷ ys))) e
      handshake h r = record { became = r.became; is = at_later g words x (xs ++ (e ∷ ys)) h ∙ r.is; was = r.was }

      marking : MarkOrSweep (mem_of g words) → Since words (x ∷ (xs ++ (e ∷ ys))) e
      marking o = let r = onward (x ∷ xs) ys e words i o q in record { became = mem_of g words; is = at_here g words (x ∷ (xs ++ (e ∷ ys))) r.in_mark; was = r.was }

      go : (p : Phase) → phase (mem_of g words) ≡ p → (Unit {0} → Since (next_words words x) (xs ++ (e ∷ ys)) e) → Since words (x ∷ (xs ++ (e ∷ ys))) e
      go idle p ih = absurd (awake g words x (xs ++ (e ∷ ys)) i p)
      go sync1 p ih = handshake (inl p) (ih tt)
      go sync2 p ih = handshake (inr p) (ih tt)
      go mark p ih = marking (inl p)
      go sweep p ih = marking (inr p)

  -- ---- its block

  record_is : (m : Mem) (n : ℕ) → trace_count m ≡ suc n → traced_record m ≡ trace_word m n - 1
  record_is m n t = let k : trace_count m - 1 ≡ n = omega arith in ap (λ j. trace_word m j - 1) k

  belongs_to : (became : Mem) (words : List ℕ) (ds : List Element) → Inside g words ds → WasUnmarked g became (mem_of g words) → (m' : Mem) → Traces g (mem_of g words) m'
      → BelongsTo g became (mem_of g words) m'
  belongs_to became words ds i was m' t =
      let m : Mem = mem_of g words in
      let z = sizes_at g words ds i in
      let u = traced_unmarked g m z i.consistent t.rest t.some in
      let r = record_is m t.rest t.some in
      let h = header g m z i.consistent t.rest t.some in
      let x = was (segment g m z i.consistent t.rest t.some) (block g m z i.consistent t.rest t.some) u in
      record {
        segment = segment g m z i.consistent t.rest t.some;
        block = block g m z i.consistent t.rest t.some;
        in_use = u.in_use;
        header = r ∙ h;
        unmarked = ap (marked g m) (r ∙ h) ∙ u.unmarked;
        does = t.does ∙ ap (traced g m) (sym r);
        is_marked = ap (marked g m') r ∙ t.taken;
        same_class = x.1;
        was_in_use = x.0.in_use;
      }

  pub belongs_at : (xs ys : List Element) (e : Element) (words : List ℕ) → Inside g words (xs ++ (e ∷ ys)) → e.event ≡ step_call Traced
      → (became : Mem) × (at_mark g words (xs ++ (e ∷ ys)) ≡ some became) × BelongsTo g became (mem_of g e.before) (mem_of g e.after)
  belongs_at xs ys e words i q =
      let s = since xs ys e words i q in
      let u : List ℕ = words_after words xs in
      let j = inside_walk g xs (e ∷ ys) words i in
      let h = here u e ys j q in
      let t : Traces g (mem_of g u) (mem_of g e.after) = subst (λ x. Traces g (mem_of g u) (mem_of g x)) h.left h.traces in (
        s.became,
        s.is,
        subst (λ x. BelongsTo g s.became (mem_of g x) (mem_of g e.after)) (sym h.lent)
            (belongs_to s.became u (e ∷ ys) j (subst (λ x. WasUnmarked g s.became (mem_of g x)) h.lent s.was) (mem_of g e.after) t),
      )

  -- ---- two of them

  -- the record that a step takes, by a block of memory m
  record TakenIn (m : Mem) (taken : ℕ) (is_marked : ℕ) : Type 0 where
    segment : ℕ
    block : ℕ
    in_use : BlockInUse g m segment block
    header : taken ≡ header_of g segment (class m segment) block
    mark : marked g m taken ≡ is_marked

  -- of the memory that the step left, it is marked
  left_marked : (words : List ℕ) (ds : List Element) → Inside g words ds → (m' : Mem) → Traces g (mem_of g words) m' → TakenIn m' (traced_record (mem_of g words)) 1
  left_marked words ds i m' t =
      let b = belongs_to (mem_of g words) words ds i (was_self g (mem_of g words)) m' t in
      let c = t.classes b.segment in
      record {
        segment = b.segment;
        block = b.block;
        in_use = record {
          used = λ y. b.in_use.used (sym (t.tags b.segment) ∙ y);
          within = subst (λ y. b.block < blocks_in g y) (sym c) b.in_use.within;
          block = t.used b.segment b.block b.in_use.block;
        };
        header = b.header ∙ ap (λ y. header_of g b.segment y b.block) (sym c);
        mark = b.is_marked;
      }

  -- of an earlier memory in mark, it is not
  earlier_unmarked : (m : Mem) (words : List ℕ) (ds : List Element) → Inside g words ds → WasUnmarked g m (mem_of g words) → (m' : Mem) → Traces g (mem_of g words) m'
      → TakenIn m (traced_record (mem_of g words)) 0
  earlier_unmarked m words ds i was m' t =
      let b = belongs_to m words ds i was m' t in
      let h : traced_record (mem_of g words) ≡ header_of g b.segment (class m b.segment) b.block = b.header ∙ ap (λ y. header_of g b.segment y b.block) b.same_class in
      let u : Unmarked g (mem_of g words) b.segment b.block = record { in_use = b.in_use; unmarked = ap (marked g (mem_of g words)) (sym b.header) ∙ b.unmarked } in
      record { segment = b.segment; block = b.block; in_use = b.was_in_use; header = h; mark = ap (marked g m) h ∙ (was b.segment b.block u).0.unmarked }

  -- so the two have different bits
  apart : (m : Mem) → Sizes g m → Consistent g m → (x y : ℕ) → TakenIn m x 1 → TakenIn m y 0 → mark_bit x ≡ mark_bit y → ⊥
  apart m z k x y a b q =
      let i = (k.sound.segments a.segment (in_range g m z a.segment a.in_use.used)).classes a.in_use.used in
      let j = (k.sound.segments b.segment (in_range g m z b.segment b.in_use.used)).classes b.in_use.used in
      let e = same_bit g m (header_of g a.segment (class m a.segment) a.block) (header_of g b.segment (class m b.segment) b.block)
      (header_is_class g (class m a.segment) i a.segment a.block a.in_use.within m refl)
      (header_is_class g (class m b.segment) j b.segment b.block b.in_use.within m refl)
      (header_head g (class m a.segment) i a.segment a.block a.in_use.within m refl)
      (header_head g (class m b.segment) j b.segment b.block b.in_use.within m refl)
      (ap mark_bit (sym a.header) ∙ q ∙ ap mark_bit b.header) in
      let same : marked g m x ≡ marked g m y = ap (marked g m) (a.header ∙ e ∙ sym b.header) in
      let s = a.mark in
      let t = b.mark in
      omega arith

  pub distinct_at : (xs ys zs : List Element) (d e : Element) (words : List ℕ) → Inside g words (xs ++ (d ∷ (ys ++ (e ∷ zs)))) → d.event ≡ step_call Traced
      → e.event ≡ step_call Traced → traced_block (mem_of g d.before) ≡ traced_block (mem_of g e.before) → ⊥
  distinct_at xs ys zs d e words i p q same =
      let u : List ℕ = words_after words xs in
      let at_first = inside_walk g xs (d ∷ (ys ++ (e ∷ zs))) words i in
      let first = here u d (ys ++ (e ∷ zs)) at_first p in
      let v : List ℕ = next_words u d in
      let between = inside_next g u d (ys ++ (e ∷ zs)) at_first in
      let w : List ℕ = words_after v ys in
      let at_second = inside_walk g ys (e ∷ zs) v between in
      let second = here w e zs at_second q in
      let was : WasUnmarked g (mem_of g v) (mem_of g w) =
      subst (λ x. WasUnmarked g (mem_of g v) (mem_of g x)) second.lent (onward ys zs e v between (inl first.traces.stays) q).was in
      apart (mem_of g v) (sizes_at g v (ys ++ (e ∷ zs)) between) between.consistent (traced_record (mem_of g u)) (traced_record (mem_of g w))
      (left_marked u (d ∷ (ys ++ (e ∷ zs))) at_first (mem_of g v) first.traces)
      (earlier_unmarked (mem_of g v) w (e ∷ zs) at_second was (mem_of g (next_words w e)) second.traces)
      (subst (λ x. traced_block (mem_of g x) ≡ traced_block (mem_of g w)) first.lent (subst (λ x. traced_block (mem_of g d.before) ≡ traced_block (mem_of g x)) second.lent same))
