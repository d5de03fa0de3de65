-- The loop over a piece of a stream: what holds while no line has ended, a turn, and the two ways out.
use Prim.Native.Nat.{ℕ, suc, ◌+◌, ◌-◌, ◌≤◌, ◌<◌, max}
use mathlib.Core.Path.{◌≡◌, refl, sym, ◌∙◌, ap, subst}
use mathlib.Core.Bool.{Bool, true, false, cond}
use mathlib.Core.List.{List, [], ◌∷◌, ◌++◌, append-nil, append_assoc}
use native.Mathlib.Numerals.{add-one}
use native.Mathlib.Omega.{arith}
use lib.Dec.{ltb, leb}
use lib.ListN.{length, get_or, take, drop, length-drop, drop_of_length-le}
use lib.Seq.{take-suc, get_or-drop, drop-cons}
use borrow.Author.Tests.{leb-true}
use Rattle.bracket_lines.specs.Lines.{is_feed, Telling}
use Rattle.bracket_lines.specs.Split.{Splitter, step_of, keep, after, heard, through, tells, Scanned, go_on, scanned, Scans}
use Rattle.bracket_lines.specs.declared.Found.{Found}
use Rattle.bracket_lines.specs.declared.Found.TheVariants.{More, Line, Overlong}
use Rattle.bracket_lines.specs.declared.Step.{Step}

-- a run of bytes in two parts
pub through_append : (s : Splitter) (xs ys : List ℕ) → through s (xs ++ ys) ≡ through (through s xs) ys
unfolding through
through_append s [] ys = refl
through_append s (x ∷ xs) ys = through_append (after s x) xs ys

pub tells_append : (s : Splitter) (xs ys : List ℕ) → tells s (xs ++ ys) ≡ tells s xs ++ tells (through s xs) ys
unfolding tells through
tells_append s [] ys = refl
tells_append s (x ∷ xs) ys =
    let h = heard (step_of s.count x).found (keep s.count x s.line) in
    ap (λ (r : List Telling). h ++ r) (tells_append (after s x) xs ys) ∙ sym (append_assoc h (tells (after s x) xs) (tells (through (after s x) xs) ys))

-- a part of a list, with the next element
pub part_more : (l : List ℕ) (from at : ℕ) → from ≤ at → at < length l
    → take (at + 1 - from) (drop from l) ≡ take (at - from) (drop from l) ++ (get_or l at 0 ∷ [])
part_more l from at h k =
    let e : at + 1 - from ≡ suc (at - from) = omega arith in
    let f : from + (at - from) ≡ at = omega arith in
    ap (λ (n : ℕ). take n (drop from l)) e
    ∙ take-suc (drop from l) (at - from) 0 (omega (arith, length-drop from l))
    ∙ ap (λ (x : ℕ). take (at - from) (drop from l) ++ (x ∷ [])) (get_or-drop from l (at - from) 0 ∙ ap (λ (n : ℕ). get_or l n 0) f)

-- a line that is told has at most 80 bytes
none_line : {k : ℕ} {A : Type 0} → More ≡ Line k → A
none_line e = let z : ◌≡◌ {A = ℕ} 0 1 = cc in absurd (omega arith)

pub step_bounded : (n b k : ℕ) → (step_of n b).found ≡ Line k → k ≤ 80
unfolding step_of
step_bounded n b k e = go (is_feed b) (leb n 80) refl (ltb n 80) e
  where
    go : (t u : Bool) → leb n 80 ≡ u → (w : Bool)
        → (cond {A = Step} t (record { count = 0; found = cond u (Line n) Overlong }) (cond w (record { count = n + 1; found = More }) (record { count = 81; found = More }))).found ≡ Line k → k ≤ 80
    go true true q w f = let z : n ≡ k = cc in omega (arith, leb-true n 80 q)
    go true false q w f = let z : ◌≡◌ {A = ℕ} 0 1 = cc in absurd (omega arith)
    go false u q true f = none_line f
    go false u q false f = none_line f

module _ (chunk : List ℕ) (from count : ℕ) (line : List ℕ) where
  abbrev before : Splitter
  before = record { count = count; line = line }

  abbrev part : ℕ → List ℕ
  part at = take (at - from) (drop from chunk)

  pub record Scanning (at n : ℕ) (now : List ℕ) : Type 0 where
    pub onward : from ≤ at
    pub inside : at ≤ max from (length chunk)
    pub state : through before (part at) ≡ record { count = n; line = now }
    pub none : tells before (part at) ≡ []
    pub rest : scanned from before (drop from chunk) ≡ scanned at (record { count = n; line = now }) (drop at chunk)

  pub scanning_none : Scanning from count line
  unfolding through tells
  scanning_none =
      let e : part from ≡ [] = ap (λ (n : ℕ). take n (drop from chunk)) zero_left in
      record {
        onward = omega arith;
        inside = omega arith;
        state = ap (through before) e;
        none = ap (tells before) e;
        rest = refl;
      }
    where
      zero_left : from - from ≡ 0
      zero_left = omega arith

  module _ (at n : ℕ) (now : List ℕ) (v : Scanning at n now) where
    module _ (h : at < length chunk) (s : Step) (next : List ℕ) (e : s ≡ step_of n (get_or chunk at 0)) (f : next ≡ keep n (get_or chunk at 0) now) where
      abbrev byte : ℕ
      byte = get_or chunk at 0

      one_state : through before (part (at + 1)) ≡ record { count = s.count; line = next }
      unfolding through after
      one_state =
          ap (through before) (part_more chunk from at v.onward h)
          ∙ through_append before (part at) (byte ∷ [])
          ∙ ap (λ (x : Splitter). after x byte) v.state
          ∙ (λ i. record { count = (sym e i).count; line = sym f i })

      one_told : tells before (part (at + 1)) ≡ heard s.found next
      unfolding tells
      one_told =
          ap (tells before) (part_more chunk from at v.onward h)
          ∙ tells_append before (part at) (byte ∷ [])
          ∙ ap (λ (x : List Telling). x ++ tells (through before (part at)) (byte ∷ [])) v.none
          ∙ ap (λ (x : Splitter). tells x (byte ∷ [])) v.state
          ∙ append-nil (heard (step_of n byte).found (keep n byte now))
          ∙ (λ i. heard (sym e i).found (sym f i))

      -- the run at this byte
      one_run : scanned from before (drop from chunk)
          ≡ go_on s.found (record { answer = record { next = at + 1; count = s.count; found = s.found }; line = next })
          (scanned (at + 1) (record { count = s.count; line = next }) (drop (at + 1) chunk))
      unfolding scanned after
      one_run =
          v.rest
          ∙ ap (scanned at (record { count = n; line = now })) (drop-cons chunk at 0 h ∙ ap (λ (k : ℕ). byte ∷ drop k chunk) (sym (add-one at)))
          ∙ (λ i. go_on (sym e i).found
          (record { answer = record { next = at + 1; count = (sym e i).count; found = (sym e i).found }; line = sym f i })
          (scanned (at + 1) (record { count = (sym e i).count; line = sym f i }) (drop (at + 1) chunk)))

      stops : (x : Found) → (x ≡ More → ⊥) → (p q : Scanned) → go_on x p q ≡ p
      stops More r p q = absurd (r refl)
      stops (Line k) r p q = refl
      stops Overlong r p q = refl

      pub scanning_more : s.found ≡ More → Scanning (at + 1) s.count next
      scanning_more q =
          record {
            onward = omega (arith, v.onward);
            inside = omega (arith, v.inside);
            state = one_state;
            none = one_told ∙ ap (λ (x : Found). heard x next) q;
            rest =
                one_run
                ∙ ap
                (λ (x : Found). go_on x (record { answer = record { next = at + 1; count = s.count; found = s.found }; line = next })
                (scanned (at + 1) (record { count = s.count; line = next }) (drop (at + 1) chunk))) q;
          }

      pub scanning_told : (x : Found) → s.found ≡ x → (x ≡ More → ⊥)
          → Scans chunk from count line (record { next = at + 1; count = s.count; found = x }) next
      scanning_told x q r =
          record {
            exact = one_run
                ∙ stops s.found (λ z. r (sym q ∙ z)) _ _
                ∙ ap (λ (y : Found). record { answer = record { next = at + 1; count = s.count; found = y }; line = next }) q;
            bounded = λ k z. step_bounded n byte k (sym (ap (λ (y : Step). y.found) e) ∙ q ∙ z);
            onward = omega (arith, v.onward);
            moves = λ k. omega (arith, v.onward);
            inside = λ k. omega arith;
            state = one_state;
            all = one_told ∙ ap (λ (y : Found). heard y next) q;
            done = λ z. absurd (r z);
          }

    pub scanning_all : (end : ℕ) → end ≡ max from (length chunk) → length chunk ≤ at
        → Scans chunk from count line (record { next = end; count = n; found = More }) now
    unfolding scanned
    scanning_all end q h =
        let same : at ≡ end = omega (arith, v.inside, v.onward) in
        subst (λ (x : ℕ). Scans chunk from count line (record { next = x; count = n; found = More }) now) same
        (record {
          exact = v.rest ∙ ap (scanned at (record { count = n; line = now })) (drop_of_length-le chunk h);
          bounded = λ k z. none_line z;
          onward = v.onward;
          moves = λ k. omega arith;
          inside = λ k. omega (arith, v.inside);
          state = v.state;
          all = v.none;
          done = λ z. h;
        })
