-- A task over the first of the lent words, and a line by its form.
use mathlib.Core.Path.{◌≡◌, refl, sym, ◌∙◌, ap, subst}
use mathlib.Core.Bool.{Bool, true, false}
use mathlib.Core.List.{List, ◌++◌}
use Prim.Native.Nat.{ℕ, ◌-◌, ◌≤◌}
use native.Mathlib.Omega.{arith}
use lib.Dec.{eqb}
use lib.ListN.{length, take, drop}
use lib.Seq.{length-take-le, take-append_seam}
use borrow.Author.Tests.{eqb-true}
use Rattle.basics.specs.Pick.{pick}
use Rattle.layout.specs.Geometry.{total, segment_bytes, wrong_size, max_segments}
use Rattle.layout.specs.Mem.{mem_of, flat}
use Rattle.layout.proofs.Regions.{right_size, flat_mem_of}
use Rattle.model.specs.Consistent.{Consistent}
use Rattle.bracket_forms.specs.declared.Form.{Form}
use Rattle.std.specs.Prelude.{Option, Some, None}
use Rattle.bracket_forms.specs.declared.Reply.{Reply}
use Rattle.bracket_forms.specs.Forms.{FormRead}
use Rattle.bracket_steps.specs.declared.Task.{Task}
use Rattle.bracket_steps.specs.declared.Task.TheVariants.{Open, Call, Start, Step}
use Rattle.bracket_steps.specs.Said.{State, heap, room_words, memory_in, with_memory, task_of, done, segments_for, one_or_two, Good, Answers}
use Rattle.bracket_steps.specs.Ran.{TaskReady, Ran, Carries}
use Rattle.bracket_forms.specs.declared.Reply.TheVariants as reply

-- one or two
pub few : (n : ℕ) → one_or_two n ≡ true → (1 ≤ n) × (n ≤ 2)
few n e = go (eqb n 1) refl e
  where
    go : (b : Bool) → eqb n 1 ≡ b → pick b true (eqb n 2) ≡ true → (1 ≤ n) × (n ≤ 2)
    go true h q = let k = eqb-true n 1 h in omega arith
    go false h q = let k = eqb-true n 2 q in omega arith

pub small : (n : ℕ) → one_or_two n ≡ true → n ≤ max_segments
small n e = let k = few n e in omega arith

-- such a heap has room among the lent words
pub fits : (n : ℕ) → one_or_two n ≡ true → total (heap n) ≤ room_words
unfolding segment_bytes
fits n e = let k = few n e in omega arith

-- the memory of the task's heap: an opening's is of any content, any other is the one that is open
ready : (t : Task) (s : State) (n : ℕ) → n ≡ segments_for t s.segments → one_or_two n ≡ true → Good s → TaskReady t (heap n) (memory_in (heap n) s.words)
ready (Open k) s n e f h = tt
ready (Call q) s n e f h = subst (λ z. Consistent (heap z) (memory_in (heap z) s.words)) (sym e) (h (ap one_or_two (sym e) ∙ f))
ready Start s n e f h = subst (λ z. Consistent (heap z) (memory_in (heap z) s.words)) (sym e) (h (ap one_or_two (sym e) ∙ f))
ready Step s n e f h = subst (λ z. Consistent (heap z) (memory_in (heap z) s.words)) (sym e) (h (ap one_or_two (sym e) ∙ f))

module _ (t : Task) (s : State) (n : ℕ) (is : n ≡ segments_for t s.segments) where
  -- no heap
  pub refused : one_or_two n ≡ false → Carries t s (reply.No 1) s
  refused e = record { exact = λ h. (rw (← is, e), rw (← is, e)); keeps = λ h. h }

  module _ (f : one_or_two n ≡ true) (room : length s.words ≡ room_words) (r : Reply) (ys : List ℕ) where
    first : length (take (total (heap n)) s.words) ≡ total (heap n)
    first = let k = fits n f in length-take-le (total (heap n)) s.words (omega arith)

    carries_whole : length ys ≡ length (take (total (heap n)) s.words) → Ran t (heap n) (take (total (heap n)) s.words) r ys
        → Carries t s r (record { segments = n; words = ys ++ drop (total (heap n)) s.words })
    unfolding with_memory
    carries_whole l p =
        let k = few n f in
        let w : wrong_size (heap n) (length (take (total (heap n)) s.words)) ≡ false =
        right_size (heap n) _ (record { some = k.0; few = omega arith; whole = refl; small = omega arith; large = omega arith; is = first }) in
        let long : length ys ≡ total (heap n) = l ∙ first in
        record {
          exact = λ h.
              let x = p.exact w (ready t s n is f h) in
              let y : ys ≡ flat (done t (heap n) (memory_in (heap n) s.words)).1 = sym (flat_mem_of (heap n) ys long) ∙ ap flat x.1 in
              (rw (← is, f) x.0, rw (← is, f, ← y));
          keeps = λ h q.
              let x = p.keeps w (ready t s n is f h) l in
              subst (λ z. Consistent (heap n) (mem_of (heap n) z)) (sym (rw long at (take-append_seam ys (drop (total (heap n)) s.words)))) x;
        }

    pub carries : (end : ℕ) → end ≡ total (heap n) → length ys ≡ length (take (end - 0) s.words) → Ran t (heap n) (take (end - 0) s.words) r ys
        → Carries t s r (record { segments = n; words = ys ++ drop (end - 0) s.words })
    carries end e l p =
        let z : end - 0 ≡ total (heap n) = omega arith in
        subst (λ (x : ℕ). Carries t s r (record { segments = n; words = ys ++ drop x s.words })) (sym z)
        (carries_whole (rw z at l) (subst (λ (x : ℕ). Ran t (heap n) (take x s.words) r ys) z p))

-- a line that is a form, and one that is none
module _ (s : State) (line : List ℕ) {x : Option Form} (q : FormRead line x) where
  pub of_form : {f : Form} {t : Task} {r : Reply} {after : State} → x ≡ Some f → t ≡ task_of f → Carries t s r after → Answers s line r after
  of_form {f = f} {r = r} {after = after} e i p =
      let k = subst (λ z. Carries z s r after) i p in
      record { reading = Some f; read = subst (FormRead line) e q; exact = k.exact; keeps = k.keeps }

  pub of_none : x ≡ None → Answers s line reply.Bad s
  of_none e = record { reading = None; read = subst (FormRead line) e q; exact = λ h. (refl, refl); keeps = λ h. h }
