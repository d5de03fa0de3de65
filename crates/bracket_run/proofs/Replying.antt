-- The replies to the lines of a stream, piece by piece.
use mathlib.Core.Path.{◌≡◌, refl, sym, ◌∙◌, ap, subst}
use mathlib.Core.List.{List, [], ◌∷◌, ◌++◌, append_assoc, append-nil}
use Prim.Native.Nat.{ℕ, ◌+◌, ◌-◌}
use native.Mathlib.Omega.{arith}
use lib.ListN.{take, drop}
use lib.Seq.{take-add}
use Rattle.bracket_forms.specs.declared.Reply.{Reply}
use Rattle.bracket_forms.specs.declared.Reply.TheVariants.{Bad}
use Rattle.bracket_forms.specs.Replies.{reply_text}
use Rattle.bracket_lines.specs.declared.Found.{Found}
use Rattle.bracket_lines.specs.declared.Found.TheVariants.{More, Overlong}
use Rattle.bracket_lines.specs.declared.Scan.{Scan}
use Rattle.bracket_lines.specs.Lines.{Telling, whole, too_long}
use Rattle.bracket_lines.specs.Split.{Splitter, heard, through, tells, Scans}
use Rattle.bracket_lines.proofs.Scanning.{through_append, tells_append}
use Rattle.bracket_steps.specs.Said.{State, Answers}
use Rattle.bracket_run.specs.Printed.{Replied, no_line, one_line, long_line, Prints, Wrote, Passed}

-- replies one after the other
pub replied_append : {s next end : State} {ts us : List Telling} {a b : List ℕ} → Replied s ts a next → Replied next us b end → Replied s (ts ++ us) (a ++ b) end
replied_append no_line q = q
replied_append {end = end} {us = us} {b = b} (one_line {s = s} {l = l} {out = out} {ts = ts} {r = r} f e n p) q =
    subst (λ (x : List ℕ). Replied s (whole l ∷ (ts ++ us)) x end) (sym (append_assoc (reply_text r) (10 ∷ out) b)) (one_line f e n (replied_append p q))
replied_append {end = end} {us = us} {b = b} (long_line {s = s} {out = out} {ts = ts} p) q =
    subst (λ (x : List ℕ). Replied s (too_long ∷ (ts ++ us)) x end) (sym (append_assoc (reply_text Bad) (10 ∷ out) b)) (long_line (replied_append p q))

-- what a part writes
module _ {s : State} {out after : List ℕ} {used r : ℕ} where
  pub wrote_line : {end : State} {l : List ℕ} {x : Reply} → Answers s l x end → Prints (reply_text x) out used r after → Wrote s (whole l ∷ []) out used r after end
  wrote_line {x = x} a p = record {
    text = reply_text x ++ (10 ∷ []);
    behind = p.is;
    short = p.short;
    replied = λ h. one_line a.read (a.exact h).0 (a.exact h).1 no_line;
    keeps = a.keeps;
  }

  pub wrote_long : {f : Found} (l : List ℕ) → f ≡ Overlong → Prints (reply_text Bad) out used r after → Wrote s (heard f l) out used r after s
  wrote_long l e p = subst (λ f. Wrote s (heard f l) out used r after s) (sym e) (record {
    text = reply_text Bad ++ (10 ∷ []);
    behind = p.is;
    short = p.short;
    replied = λ h. long_line no_line;
    keeps = λ h. h;
  })

pub wrote_none : {s : State} {f : Found} (l out : List ℕ) (used : ℕ) → f ≡ More → Wrote s (heard f l) out used used out s
wrote_none {s = s} l out used e = subst (λ f. Wrote s (heard f l) out used used out s) (sym e) (record {
  text = [];
  behind = sym (append-nil (take used out));
  short = omega arith;
  replied = λ h. no_line;
  keeps = λ h. h;
})

-- no byte yet, one more run of bytes, and the whole piece
module _ (s : State) (begun : Splitter) (chunk : List ℕ) where
  pub begins : Passed s begun [] begun [] s
  unfolding through tells
  begins = record { splitter = refl; replied = λ h. no_line; keeps = λ h. h }

  pub passes : (at : ℕ) (mid : Splitter) {end next : State} {out after : List ℕ} {used used' : ℕ} {r : Scan} {left : List ℕ}
      → Passed s begun (take at chunk) mid (take used out) next → Scans chunk at mid.count mid.line r left
      → Wrote next (heard r.found left) out used used' after end
      → Passed s begun (take r.next chunk) (record { count = r.count; line = left }) (take used' after) end
  passes at mid {end = end} {after = after} {used' = used'} {r = r} {left = left} p c w =
      let run = take (r.next - at) (drop at chunk) in
      let n : at + (r.next - at) ≡ r.next = omega (arith, c.onward) in
      let e : take r.next chunk ≡ take at chunk ++ run = ap (λ (x : ℕ). take x chunk) (sym n) ∙ take-add at (r.next - at) chunk in
      let told : tells (through begun (take at chunk)) run ≡ heard r.found left = ap (λ x. tells x run) (sym p.splitter) ∙ c.all in
      record {
        splitter = sym c.state ∙ ap (λ x. through x run) p.splitter ∙ sym (through_append begun (take at chunk) run) ∙ ap (through begun) (sym e);
        replied = λ h.
            subst (λ (x : List ℕ). Replied s (tells begun x) (take used' after) end) (sym e)
            (subst (λ ts. Replied s ts (take used' after) end) (sym (tells_append begun (take at chunk) run ∙ ap (λ ts. tells begun (take at chunk) ++ ts) told))
            (subst (λ (x : List ℕ). Replied s (tells begun (take at chunk) ++ heard r.found left) x end) (sym w.behind)
            (replied_append (p.replied h) (w.replied (p.keeps h)))));
        keeps = λ h. w.keeps (p.keeps h);
      }
