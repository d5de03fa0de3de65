-- The loop over the classes of what a mutator holds: what it keeps, one release more, one that is hindered; that none is in consistent memory; and how
-- detach keeps its promise.
use mathlib.Core.Path.{◌≡◌, refl, sym, ◌∙◌, ap, subst}
use mathlib.Core.Bool.{Bool, true, false, true≢false}
use mathlib.Core.Logic.{◌⊎◌, inl, inr}
use mathlib.Core.List.{List}
use Prim.Native.Nat.{ℕ, suc, ◌+◌, ◌-◌, ◌≤◌, ◌<◌}
use native.Mathlib.Nat.{pos_of_ne-zero}
use native.Mathlib.Numerals.{add-one}
use native.Mathlib.Omega.{arith}
use lib.ListN.{length, replicate}
use Rattle.classes.specs.Class.{first_class, class_count}
use Rattle.layout.specs.declared.Geometry.{Geometry}
use Rattle.layout.specs.Geometry.{wrong_size, mutator_count, mutator_words}
use Rattle.layout.specs.Mem.{Mem, mem_of, control_word, Sizes}
use Rattle.layout.proofs.Regions.{sized}
use Rattle.theory.specs.Phases.{in_handshake}
use Rattle.theory.specs.Calls.{c_detach, unless}
use Rattle.std.specs.Prelude.{Ok, Err}
use Rattle.model.specs.declared.Answer.TheVariants.{Done}
use Rattle.model.specs.declared.Refusal.TheVariants.{NotNow, Torn}
use Rattle.model.specs.declared.SegmentState.TheVariants.{Part}
use Rattle.model.specs.PhaseNumbers.{phase_of}
use Rattle.model.specs.Fields.{absent, holding, place}
use Rattle.model.specs.Segments.{set_segment_state, part_stack, count}
use Rattle.model.specs.Mutators.{set_entry, released_one, released, detached}
use Rattle.model.specs.Calls.{act}
use Rattle.model.specs.Consistent.{Consistent}
use Rattle.model.specs.Promise.{Promise}
use Rattle.model_laws.proofs.Lengths.{sizes_of}
use Rattle.model_laws.proofs.Released.{release_inside, release_room, releasable}
use Rattle.model_laws.proofs.Promised.{done, torn_13, declined}
use Rattle.mutators.specs.Inside.{inside_then}
use Rattle.mutators.specs.Entry.{entry_of}
use Rattle.mutators.proofs.Inside.{then_known}
use Rattle.mutators.proofs.Entry.{entry_cleared}
use Rattle.attaching.proofs.Coming.{handshake}
use Rattle.attaching.specs.Going.{ReleaseFails, ReleasesOne, ClassFails, Releases}

-- ---- one class: h is what the entry holds of it, and names no segment

pub names_none : (g : Geometry) (m : Mem) (k c h : ℕ) → h ≡ holding m k c → (h ≡ 0 → ⊥) → g.segments ≤ h - 1 → ReleasesOne g m k c false m
names_none g m k c h e f l = record { done = λ t. absurd (true≢false (sym t)); fails = λ _. record { segment = h - 1; names = names; why = inl l } }
  where
    names : holding m k c ≡ suc (h - 1)
    names = sym e ∙ (let p = pos_of_ne-zero f in omega arith)

-- ---- the loop: what mutator k held of the first i classes has gone to part, one class more, and one that cannot

pub none_released : (g : Geometry) (m : Mem) (k : ℕ) → released g m k 0 ≡ m
unfolding released
none_released g m k = refl

pub one_more : (g : Geometry) (m : Mem) (k i : ℕ) → released g m k (i + 1) ≡ released_one g (released g m k i) k (first_class + i)
unfolding released
one_more g m k i = rw (add-one i)

pub one_fails : (g : Geometry) (m : Mem) (k i : ℕ) (m' m'' : Mem) → m' ≡ released g m k i → i < class_count → ReleasesOne g m' k (first_class + i) false m'' → Releases g m k false m''
one_fails g m k i m' m'' e l q = record {
  done = λ t. absurd (true≢false (sym t));
  fails = λ _. record { index = i; within = l; why = subst (λ z. ReleaseFails g z k (first_class + i)) e (q.fails refl) };
}

pub all_released : (g : Geometry) (m : Mem) (k : ℕ) (m' : Mem) → m' ≡ released g m k class_count → Releases g m k true m'
all_released g m k m' e = record { done = λ _. e; fails = λ t. absurd (true≢false t) }

-- what the loop cites
pub ruleset released_one_by_one = (none_released, one_more, one_fails, all_released)

-- ---- nothing hinders the release in consistent memory

release_succeeds : (g : Geometry) (m : Mem) → Sizes g m → Consistent g m → (k : ℕ) → k < mutator_count → ClassFails g m k → ⊥
release_succeeds g m s c k l f = go f.why.why
  where
    go : (g.segments ≤ f.why.segment)
        ⊎ (g.segments ≤ count g
        (set_segment_state g (released g m k f.index) f.why.segment (Part (first_class + f.index) (place (released g m k f.index) f.why.segment)))
        (part_stack (first_class + f.index))) → ⊥
    go (inl h) = let z = release_inside g m s (releasable g m c) k l f.index f.within f.why.segment f.why.names in omega arith
    go (inr h) = let z = release_room g m s (releasable g m c) k l f.index f.within f.why.segment f.why.names in omega arith

-- ---- detach, past the refusals of a mutator that must be inside

module _ (g : Geometry) (xs : List ℕ) (k : ℕ) (s : 0 ≡ inside_then (mem_of g xs) k 0) where
  pub known : k < mutator_count
  known = then_known (mem_of g xs) k 0 0 s refl

  -- p is the phase's number, h whether it is a handshake
  module _ (e : wrong_size g (length xs) ≡ false) (p : ℕ) (h : Bool) (ep : p ≡ control_word (mem_of g xs) 0) (eh : h ≡ in_handshake (phase_of p)) where
    acts : (b : Bool) → h ≡ b → act g (mem_of g xs) (c_detach k) ≡ unless b 11 (mem_of g xs) (detached g (mem_of g xs) k)
    unfolding act
    acts b q = ap (λ x. unless x 11 (mem_of g xs) (detached g (mem_of g xs) k)) (handshake (mem_of g xs) p h ep eh ∙ q)

    -- "11, not now: .. detach in a roll call"
    pub detach_11 : h ≡ true → Promise (c_detach k) g xs (Err NotNow) xs
    unfolding inside_then
    detach_11 t = declined (c_detach k) g xs NotNow e s (acts true t) refl refl (omega arith)

    module _ (f : h ≡ false) (r : Bool) (m₁ : Mem) (q : Releases g (mem_of g xs) k r m₁) where
      pub detaches : r ≡ true → (ys : List ℕ) → mem_of g ys ≡ set_entry m₁ k (entry_of 0 absent 0) → Promise (c_detach k) g xs (Ok Done) ys
      unfolding inside_then detached
      detaches t ys w =
          done (c_detach k) g xs e s refl refl (sym (ap (λ x. x.0) (acts false f)))
          (w ∙ ap (set_entry m₁ k) entry_cleared ∙ ap (λ x. set_entry x k (replicate mutator_words 0)) (q.done t) ∙ sym (ap (λ x. x.1) (acts false f)))

      -- "13, torn": a held segment that cannot go to part
      pub detach_13 : r ≡ false → (ys : List ℕ) → Promise (c_detach k) g xs (Err Torn) ys
      detach_13 y ys = torn_13 (c_detach k) g xs e (λ c. release_succeeds g (mem_of g xs) (sizes_of g xs (sized g (length xs) e)) c k known (q.fails y))
