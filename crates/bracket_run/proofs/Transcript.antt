-- What the bracket program writes for an input is its transcript, however the input is cut into pieces; and an input has one transcript. Assumes
-- nothing.
use mathlib.Core.Path.{◌≡◌, refl, sym, ◌∙◌, ap, subst}
use mathlib.Core.Bool.{true≢false}
use mathlib.Core.List.{List, [], ◌∷◌, ◌++◌}
use Prim.Native.Nat.{ℕ}
use lib.ListN.{length, take}
use Rattle.std.specs.Prelude.{Option, Some, None}
use Rattle.bracket_forms.specs.declared.Form.{Form}
use Rattle.bracket_forms.specs.Forms.{FormRead}
use Rattle.bracket_forms.specs.Replies.{reply_text}
use Rattle.bracket_lines.specs.Lines.{Telling}
use Rattle.bracket_lines.specs.Split.{Splitter, finished, heard}
use Rattle.bracket_lines.proofs.Streams.{fed, joined, stream_told}
use Rattle.bracket_steps.specs.Said.{State, said, Good}
use Rattle.bracket_run.specs.Printed.{Replied, no_line, one_line, long_line, Wrote, Passed}
use Rattle.bracket_run.specs.Transcript.{unopened, Transcript}
use Rattle.bracket_run.proofs.Replying.{replied_append}
use Rattle.bracket_forms.specs.declared.Reply.TheVariants as reply

-- ---- the loop's calls over a whole input, and what they write: `answer_piece` for each piece, and `hear` for a last line without its line feed

pub data Program : State → Splitter → List (List ℕ) → List ℕ → State → Type 0 where
  ends : {s end : State} {begun : Splitter} {before after : List ℕ} {r : ℕ} → Wrote s (heard (finished begun.count) begun.line) before 0 r after end
      → Program s begun [] (take r after) end
  reads : {s next end : State} {begun left : Splitter} {piece text out : List ℕ} {pieces : List (List ℕ)} → Passed s begun piece left text next
      → Program next left pieces out end → Program s begun (piece ∷ pieces) (text ++ out) end

replies : {s end : State} {begun : Splitter} {pieces : List (List ℕ)} {out : List ℕ} → Good s → Program s begun pieces out end → Replied s (fed begun pieces) out end
replies {s = s} {end = end} {begun = begun} h (ends w) = subst (λ (x : List ℕ). Replied s (fed begun []) x end) (sym w.behind) (w.replied h)
replies h (reads {next = next} {end = end} {out = out} {pieces = pieces} p rest) =
    replied_append (p.replied h) (subst (λ (x : Splitter). Replied next (fed x pieces) out end) p.splitter (replies (p.keeps h) rest))

pub program_writes : (words line : List ℕ) → length line ≡ 80 → {pieces : List (List ℕ)} {out : List ℕ} {end : State}
    → Program (unopened words) (record { count = 0; line = line }) pieces out end → Transcript words (joined pieces) out
program_writes words line h {pieces = pieces} {out = out} {end = end} p = record {
  end = end;
  replied = subst (λ ts. Replied (unopened words) ts out end) (stream_told line h pieces) (replies (λ e. absurd (true≢false (sym e))) p);
}

-- ---- no choice is left

read_one : {l : List ℕ} {x y : Option Form} → FormRead l x → FormRead l y → x ≡ y
read_one {x = Some f} p q = sym (q.complete f (p.fits f refl) (p.sound f refl))
read_one {x = None} {y = Some g} p q = p.complete g (q.fits g refl) (q.sound g refl)
read_one {x = None} {y = None} p q = refl

replied_one : {s e e' : State} {ts : List Telling} {a b : List ℕ} → Replied s ts a e → Replied s ts b e' → a ≡ b
replied_one no_line no_line = refl
replied_one (one_line {s = s} {out = out} {ts = ts} {r = r} f e n p) (one_line {after = after} {out = out'} {r = r'} f' e' n' p') =
    let x = read_one f f' in
    let q : r ≡ r' = e ∙ ap (λ z. (said z s).0) x ∙ sym e' in
    let m = n ∙ ap (λ z. (said z s).1) x ∙ sym n' in
    let o : out ≡ out' = replied_one p (subst (λ z. Replied z ts out' after) (sym m) p') in
    ap (λ z. reply_text z ++ (10 ∷ out)) q ∙ ap (λ (z : List ℕ). reply_text r' ++ (10 ∷ z)) o
replied_one (long_line p) (long_line p') = ap (λ (z : List ℕ). reply_text reply.Bad ++ (10 ∷ z)) (replied_one p p')

pub one_transcript : (words input : List ℕ) {a b : List ℕ} → Transcript words input a → Transcript words input b → a ≡ b
one_transcript words input s t = replied_one s.replied t.replied
