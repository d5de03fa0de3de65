-- Calls refused 1 stand in a list.
use mathlib.Core.Path.{◌≡◌, refl, sym, ◌∙◌, ap, subst}
use mathlib.Core.Logic.{◌⊎◌, inl, inr}
use mathlib.Core.Bool.{Bool, true, false, not, true≢false}
use mathlib.Core.List.{List, [], ◌∷◌}
use mathlib.Core.Option.{some-injective}
use Prim.Native.Nat.{ℕ, ◌*◌, ◌≤◌, ◌<◌}
use native.Mathlib.Omega.{arith}
use lib.Dec.{ltb}
use lib.ListN.{length, drop}
use Rattle.std.specs.Prelude.{Err}
use Rattle.basics.specs.Pick.{pick}
use Rattle.basics.proofs.Order.{le_or_lt}
use Rattle.layout.specs.declared.Geometry.{Geometry}
use Rattle.layout.specs.Geometry.{max_segments, wrong_size, segment_bytes, total}
use Rattle.layout.specs.Mem.{Mem}
use Rattle.layout.proofs.Regions.{sized}
use Rattle.theory.specs.Calls.{c_check, a_no}
use Rattle.theory.proofs.Invariant.{none_some}
use Rattle.model.specs.Answers.{answer_of, step_answer_of, phase_answer_of, refusal_in, among, may_give, start_may_give, step_may_give, look_may_give}
use Rattle.model.specs.Promise.{PromiseOf}
use Rattle.model.specs.Looks.{Look, saw_phase, saw_states, saw_sheet, examined_by, look_sized}
use Rattle.model.specs.Lists.{Event, look_call, Element, Meets, wrong_sized, Chain}
use Rattle.model.proofs.Numbers.{gives_1}
use Rattle.model_laws.proofs.Shown.{shown_1, record_words, records, as_states}
use Rattle.model_cases.specs.Replies.{geometry, large_geometry}
use Rattle.guarantee_cases.specs.RefusedStand.{RefusedSize, refused_call, refused_start, refused_step, refused_opening, refused_phase, refused_states, refused_sheet, refused_examination, leaving, four, three, RefusedStand}
use Rattle.theory.specs.Calls as theory
use Rattle.model.specs.declared.Step.TheVariants as step_answer
use Rattle.model.specs.declared.Refusal.TheVariants.{Size}

module _ (count : Geometry) (lent : List ℕ) (wrong : wrong_size count (length lent) ≡ true) where
  not_right : {A : Type 0} → wrong_size count (length lent) ≡ false → A
  not_right h = absurd (true≢false (sym wrong ∙ h))

  -- a call that answers by its definition
  kept : {A : Type 0} (value : A → theory.Answer) (Result : Geometry → theory.Answer → Type 0) (ns : List ℕ) (does : Geometry → Mem → theory.Answer × Mem) (r : A)
      → value r ≡ a_no 1 → among 1 ns ≡ true → PromiseOf value Result ns does count lent r lent
  kept value Result ns does r e h = record {
    sizes = λ _. (e, refl);
    exact = λ right _. not_right right;
    kind = λ q. none_some (sym q ∙ ap refusal_in e);
    allowed = λ n q. subst (λ (x : ℕ). among x ns ≡ true) (some-injective 1 n (sym (ap refusal_in e) ∙ q)) h;
    only_size = λ _. wrong;
  }

  meets : (v : Event) → RefusedSize v → Meets (leaving count lent v)
  meets v (refused_call c) = kept answer_of _ (may_give c) _ (Err Size) refl (gives_1 c)
  meets v refused_start = kept answer_of _ start_may_give _ (Err Size) refl refl
  meets v refused_step = kept step_answer_of _ step_may_give _ (step_answer.Refused 1) refl refl
  meets v refused_opening = record { sizes = λ _. (refl, refl); exact = λ h. not_right h }
  meets v refused_phase = (kept phase_answer_of _ look_may_give _ (Err Size) refl refl, refl)
  meets v (refused_states output) = (as_states count lent output _ _ (shown_1 record_words records count lent output wrong), refl)
  meets v (refused_sheet output) = (shown_1 _ _ count lent output wrong, refl)
  meets v (refused_examination scratch) = (
    record {
      sizes = (λ _. (refl, refl), λ _. (refl, refl));
      sound = λ h. none_some (sym (ap refusal_in h));
      complete = λ h _ _. not_right h;
      answers = λ h _. not_right h;
      cleared = λ h _. not_right h;
    },
    refl,
  )

  wrong_look : (l : Look) → wrong_sized (leaving count lent (look_call l)) ≡ true
  wrong_look l = ap (λ b. pick b true (not (look_sized count l))) wrong

  wrong_sized_lem : (v : Event) → RefusedSize v → wrong_sized (leaving count lent v) ≡ true
  wrong_sized_lem v (refused_call c) = wrong
  wrong_sized_lem v refused_start = wrong
  wrong_sized_lem v refused_step = wrong
  wrong_sized_lem v refused_opening = wrong
  wrong_sized_lem v refused_phase = wrong_look (saw_phase (Err Size))
  wrong_sized_lem v (refused_states output) = wrong_look (saw_states output (Err Size) output)
  wrong_sized_lem v (refused_sheet output) = wrong_look (saw_sheet output (Err Size) output)
  wrong_sized_lem v (refused_examination scratch) = wrong_look (examined_by scratch (Err Size) scratch)

  stands : (g : Geometry) (words : List ℕ) (es : List Element) → Chain g words es → (v : Event) → RefusedSize v → Chain g words (leaving count lent v ∷ es)
  stands g words es ch v r =
      let w = wrong_sized_lem v r in
      (meets v r, refl, inl w, subst (λ b. Chain g (pick b words lent) es) (sym w) ch)

-- 257 is no count, and a heap of one segment is none of two
pub no_count : wrong_size (geometry 257) (length {A = ℕ} []) ≡ true
unfolding wrong_size
no_count = refl

too_short : wrong_size (geometry 2) (total (geometry 1)) ≡ true
unfolding wrong_size segment_bytes
too_short = refl

-- 48 KiB are no size
no_size : (n x : ℕ) → wrong_size (record { segments = n; kib = 48 }) x ≡ true
unfolding wrong_size
no_size n x = go (ltb n 1) (ltb max_segments n)
  where
    go : (a b : Bool) → pick a true (pick b true true) ≡ true
    go true b = refl
    go false true = refl
    go false false = refl

-- of a length that is none of the count's
other_length : (g : Geometry) (x : ℕ) → (1 ≤ g.segments → g.segments ≤ max_segments → x ≡ total g → ⊥) → wrong_size g x ≡ true
other_length g x f = go (wrong_size g x) refl
  where
    go : (b : Bool) → wrong_size g x ≡ b → b ≡ true
    go true e = refl
    go false e = let s = sized g x e in absurd (f s.some s.few s.is)

-- k segments of 32 KiB need fewer words than 2 k of 16 KiB, and more than 2 k - 1
apart : (n k : ℕ) → 1 ≤ k → k ≤ max_segments → total (geometry n) ≡ total (large_geometry k) → ⊥
unfolding segment_bytes
apart n k l h e = go (le_or_lt (2 * k) n)
  where
    go : (2 * k ≤ n) ⊎ (n < 2 * k) → ⊥
    go (inl q) = omega arith
    go (inr q) = omega arith

never_both_lem : (n k : ℕ) → (wrong_size (large_geometry k) (total (geometry n)) ≡ true) × (wrong_size (geometry k) (total (large_geometry n)) ≡ true)
unfolding segment_bytes
never_both_lem n k = (
  other_length (large_geometry k) (total (geometry n)) (λ a b e. apart n k a b e),
  other_length (geometry k) (total (large_geometry n)) (λ a b e. apart k n (omega arith) (omega arith) (sym e)),
)

three_stand_lem : (other : Geometry) (lent : List ℕ) → wrong_size other (length lent) ≡ true → (g : Geometry) (words : List ℕ) → Chain g words (three other lent)
three_stand_lem other lent wrong g words =
    let third = stands (record { segments = other.segments; kib = 48 }) lent (no_size other.segments (length lent)) g words [] tt _ refused_step in
    let second = stands other lent wrong g words (drop 2 (three other lent)) third _ (refused_call (c_check 0)) in
    stands other lent wrong g words (drop 1 (three other lent)) second _ refused_opening

pub refused_stand : RefusedStand
refused_stand = record {
  stands = λ g words es ch count lent wrong v r. stands count lent wrong g words es ch v r;
  four_stand = λ g words lent l.
      let short = ap (wrong_size (geometry 2)) l ∙ too_short in
      let fourth = stands (geometry 2) lent short g words [] tt _ refused_step in
      let third = stands (geometry 2) lent short g words (drop 3 (four lent)) fourth _ refused_start in
      let second = stands (geometry 257) [] no_count g words (drop 2 (four lent)) third _ (refused_call (c_check 0)) in
      stands (geometry 257) [] no_count g words (drop 1 (four lent)) second _ refused_opening;
  three_stand = λ g words lent n k l. three_stand_lem (large_geometry k) lent (ap (wrong_size (large_geometry k)) l ∙ (never_both_lem n k).0) g words;
  other_way = λ g words lent n k l. three_stand_lem (geometry k) lent (ap (wrong_size (geometry k)) l ∙ (never_both_lem n k).1) g words;
  never_both = never_both_lem;
}
