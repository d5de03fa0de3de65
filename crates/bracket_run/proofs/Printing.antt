-- A reply behind the bytes that a buffer has, and where a line that is told lies.
use mathlib.Core.Path.{◌≡◌, refl, sym, ◌∙◌, ap}
use mathlib.Core.Bool.{Bool, true, false, cond}
use mathlib.Core.List.{List, [], ◌∷◌, ◌++◌, append_assoc}
use Prim.Native.Nat.{ℕ, ◌+◌, ◌-◌, ◌≤◌, ◌<◌}
use native.Mathlib.Numerals.{add-one}
use native.Mathlib.Omega.{arith}
use lib.Dec.{leb, eqb}
use lib.ListN.{length, take, drop, set, length-append, length-drop}
use lib.Seq.{length-take-le, take-append_seam, take-suc-set}
use borrow.Author.Tests.{leb-true}
use borrow.Rule.Slice.PartMut.{mid_of, put_mid, same_len_mid}
use Rattle.bracket_text.specs.Text.{Written}
use Rattle.bracket_forms.specs.Kinds.{reply_parts}
use Rattle.bracket_forms.specs.Replies.{reply_text}
use Rattle.bracket_forms.specs.declared.Reply.{Reply}
use Rattle.bracket_forms.proofs.Writer.{reply_stands_for}
use Rattle.bracket_lines.specs.Split.{finished}
use Rattle.bracket_lines.specs.declared.Found.TheVariants.{More, Line, Overlong}
use Rattle.bracket_run.specs.Printed.{Prints, most_reply}

-- "No reply's text is longer than 32 bytes"
pub reply_short : (r : Reply) → length (reply_text r) ≤ 32
reply_short r = let s = reply_stands_for r (reply_parts r) refl in rw (← s.is) s.short

module _ (text : List ℕ) {before : List ℕ} {n : ℕ} {buf : List ℕ} (w : Written text before n buf) (short : length text ≤ 32) (out : List ℕ) (used : ℕ) (room : used + most_reply ≤ length out) where
  -- the text is the front of its buffer
  front : take n buf ≡ text
  front = ap (take n) w.front ∙ ap (λ (x : ℕ). take x (text ++ drop (length text) before)) w.says ∙ take-append_seam text (drop (length text) before)

  lent : length (mid_of used (used + n - used) out) ≡ n
  lent =
      let k = w.says in
      let e : used + n - used ≡ n = omega arith in
      length-take-le (used + n - used) (drop used out) (omega (arith, length-drop used out)) ∙ e

  -- copied whole
  module _ (ys : List ℕ) (c : ys ≡ take n buf) where
    copied : ys ≡ text
    copied = c ∙ front

    pub inside : used + n < length (put_mid used (used + n - used) out ys)
    inside =
        let k = w.says in
        let e = same_len_mid used (used + n - used) out ys (ap length copied ∙ sym k ∙ sym lent) in
        omega arith

    pub printed : Prints text out used (used + n + 1) (set (put_mid used (used + n - used) out ys) (used + n) 10)
    printed =
        let k = w.says in
        let l : length (take used out ++ text) ≡ used + n = length-append (take used out) text ∙ (let z = length-take-le used out (omega arith) in omega arith) in
        let rest = drop (used + n - used) (drop used out) in
        let whole : put_mid used (used + n - used) out ys ≡ (take used out ++ text) ++ rest = ap (λ (x : List ℕ). take used out ++ (x ++ rest)) copied ∙ sym (append_assoc (take used out) text rest) in
        let head : take (used + n) (put_mid used (used + n - used) out ys) ≡ take used out ++ text = ap (take (used + n)) whole ∙ (rw l at (take-append_seam (take used out ++ text) rest)) in
        record {
          is = rw add-one (take-suc-set (put_mid used (used + n - used) out ys) (used + n) 10 inside ∙ ap (λ (x : List ℕ). x ++ (10 ∷ [])) head ∙ append_assoc (take used out) text (10 ∷ []));
          short = omega arith;
        }

-- the last line has at most 80 bytes
pub last_within : (count : ℕ) (n : ℕ) → finished count ≡ Line n → n ≤ 80
unfolding finished
last_within count n e = go (eqb count 0) (leb count 80) refl e
  where
    go : (a b : Bool) → leb count 80 ≡ b → cond a More (cond b (Line count) Overlong) ≡ Line n → n ≤ 80
    go true b h q = absurd (let z : ◌≡◌ {A = ℕ} 0 1 = cc in omega arith)
    go false true h q = let z : count ≡ n = cc in omega (arith, leb-true count 80 h)
    go false false h q = absurd (let z : ◌≡◌ {A = ℕ} 0 1 = cc in omega arith)
