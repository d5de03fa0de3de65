-- The writers go by a fixed byte string and its numbers: they stand for the text of the form or the reply, which fits the buffer.
use Rattle.std.specs.Prelude.{Option, Some}
use lib.Seq.{take_at}
use Prim.Native.Nat.{ℕ, ◌≤◌}
use mathlib.Core.Path.{◌≡◌, refl, sym, ◌∙◌, ap, subst}
use mathlib.Core.List.{List}
use native.Mathlib.Omega.{arith}
use lib.Dec.{lit≤}
use lib.ListN.{length, take, drop}
use Rattle.bracket_text.specs.Text.{fill, text, Written}
use Rattle.bracket_text.specs.Fixed.{length_from, trimmed}
use Rattle.bracket_text.proofs.Templates.{most, fill_length}
use Rattle.bracket_forms.specs.Forms.{spelt, text_of, numbers_of, Fitting, FormRead}
use Rattle.bracket_forms.specs.Replies.{reply_text}
use Rattle.bracket_forms.specs.Kinds.{wide, padded, form_parts, reply_parts, template_at}
use Rattle.bracket_forms.specs.declared.Form.{Form}
use Rattle.bracket_forms.specs.declared.Parts.{Parts}
use Rattle.bracket_forms.specs.declared.Reply.{Reply}
use Rattle.bracket_forms.specs.declared.Reply.TheVariants.{Ok, OkOne, OkTwo, No, Bad, Waiting, Moved, Traced, Swept, Done, Idle}
use Rattle.bracket_forms.proofs.Table.{template_most}
use Rattle.bracket_forms.proofs.Reader.{kind_of, form_tied}

-- what parts stand for a text of at most limit bytes
pub record StandsFor (text : List ℕ) (limit : ℕ) (p : Parts) : Type 0 where
  pub is : fill (trimmed p.0) p.1 ≡ text
  pub short : length (fill (trimmed p.0) p.1) ≤ limit

pub form_stands_for : (f : Form) (p : Parts) → p ≡ form_parts f → StandsFor (text_of f) 80 p
form_stands_for f p q =
    subst (StandsFor (text_of f) 80) (sym q)
    (record {
      is = is;
      short =
          rw is
          (subst (λ (x : List ℕ). length x ≤ 80) (form_tied f).text (omega (arith, template_most (kind_of f) (form_tied f).below, fill_length (template_at (kind_of f)) (padded (numbers_of f)))));
    })
  where
    is : fill (trimmed (wide (spelt f).template)) (padded (numbers_of f)) ≡ text_of f
    is = ap (λ (t : List ℕ). fill t (padded (numbers_of f))) (form_tied f).whole ∙ (form_tied f).own

-- the same of a reply
record ReplyTie (r : Reply) : Type 0 where
  most : most (trimmed (reply_parts r).0) ≤ 32
  text : fill (trimmed (reply_parts r).0) (reply_parts r).1 ≡ reply_text r

reply_tied : (r : Reply) → ReplyTie r
unfolding trimmed length_from most fill text reply_text
reply_tied Ok = record { most = lit≤ tt; text = refl }
reply_tied (OkOne a) = record { most = lit≤ tt; text = refl }
reply_tied (OkTwo a b) = record { most = lit≤ tt; text = refl }
reply_tied (No a) = record { most = lit≤ tt; text = refl }
reply_tied Bad = record { most = lit≤ tt; text = refl }
reply_tied (Waiting a) = record { most = lit≤ tt; text = refl }
reply_tied Moved = record { most = lit≤ tt; text = refl }
reply_tied Traced = record { most = lit≤ tt; text = refl }
reply_tied (Swept a b) = record { most = lit≤ tt; text = refl }
reply_tied Done = record { most = lit≤ tt; text = refl }
reply_tied Idle = record { most = lit≤ tt; text = refl }

pub reply_stands_for : (r : Reply) (p : Parts) → p ≡ reply_parts r → StandsFor (reply_text r) 32 p
reply_stands_for r p q =
    subst (StandsFor (reply_text r) 32) (sym q)
    (record {
      is = (reply_tied r).text;
      short = omega (arith, (reply_tied r).most, fill_length (trimmed (reply_parts r).0) (reply_parts r).1);
    })

pub stands_for_written : {text : List ℕ} {limit : ℕ} {p : Parts} → StandsFor text limit p → (before after : List ℕ) (n : ℕ)
    → Written (fill (trimmed p.0) p.1) before n after → Written text before n after
stands_for_written s before after n w = subst (λ (x : List ℕ). Written x before n after) s.is w

-- the text of a form of any numbers has at most 80 bytes
pub form_short : (f : Form) → length (text_of f) ≤ 80
form_short f = let s = form_stands_for f (form_parts f) refl in subst (λ (x : List ℕ). length x ≤ 80) s.is s.short

-- what a writer of text has written is that text
pub written_text : (text before : List ℕ) (n : ℕ) (after : List ℕ) → Written text before n after → take n after ≡ text
written_text text before n after w = rw (w.says, w.front) (take_at text (drop (length text) before) (length text) refl)

-- so what the writer of forms writes is read as the form
pub written_back : (f : Form) → Fitting f → (before : List ℕ) (n : ℕ) (after : List ℕ) → Written (text_of f) before n after
    → (r : Option Form) → FormRead (take n after) r → r ≡ Some f
written_back f w before n after h r u = u.complete f w (sym (written_text (text_of f) before n after h))
