-- What the reader and the writers go by: the texts as fixed byte strings, and the forms in the order in which the reader tries
-- them. proofs/Reader.antt and proofs/Writer.antt tie them to the grammars of Forms and Replies.
use Rattle.std.specs.Prelude.{ℕ, cond, List, [], ◌∷◌, ◌++◌, eqb, get_or, take, replicate, Some, None}
use Rattle.std.specs.Prelude.{Option as Maybe}
use Rattle.std.proofs.Math.Option.{Option, none, some}
use Rattle.bracket_text.specs.Scan.{zeros}
use Rattle.bracket_text.specs.Text.{Spelling}
use Rattle.bracket_forms.specs.declared.Form.{Form}
use Rattle.bracket_forms.specs.declared.Form.TheVariants.{Rack, Attach, Spawn, Detach, Make, Load, Store, Copy, Clear, Put, Get, Same, Shape, Check, Leave, Enter, Start, Step}
use Rattle.bracket_forms.specs.Forms.{spelt, numbers_of}
use Rattle.bracket_forms.specs.Replies.{reply_spelt}
use Rattle.bracket_forms.specs.declared.Parts.{Parts}
use Rattle.bracket_forms.specs.declared.Reply.{Reply}

-- a template with spaces up to 20 bytes, and numbers with zeros up to five
abbrev pub wide : List ℕ → List ℕ
wide t = take 20 (t ++ replicate 20 32)

abbrev pub padded : List ℕ → List ℕ
padded ns = take 5 (ns ++ zeros)

-- what a writer goes by
abbrev pub parts_of : Spelling → Parts
parts_of s = record { 0 = wide s.template; 1 = padded s.numbers }

abbrev pub form_parts : Form → Parts
form_parts f = parts_of (spelt f)

abbrev pub reply_parts : Reply → Parts
reply_parts r = parts_of (reply_spelt r)

-- the forms in the order in which the reader tries them, with the numbers of their texts: the third of a load's is its script again
unfoldable pub forms : ℕ → ℕ → ℕ → ℕ → ℕ → List Form
forms a b c d e =
    Rack a
    ∷ Attach a
    ∷ Spawn a b c
    ∷ Detach a
    ∷ Make a b c d
    ∷ Load a b d e
    ∷ Store a b c d
    ∷ Copy a b c
    ∷ Clear a b
    ∷ Put a b c d
    ∷ Get a b c
    ∷ Same a b c
    ∷ Shape a b
    ∷ Check a
    ∷ Leave a
    ∷ Enter a
    ∷ Start
    ∷ Step
    ∷ []

unfoldable pub form_at : ℕ → ℕ → ℕ → ℕ → ℕ → ℕ → Form
form_at k a b c d e = get_or (forms a b c d e) k Step

-- the template of each
unfoldable pub template_at : ℕ → List ℕ
template_at k = (spelt (form_at k 0 0 0 0 0)).template

-- what a form is whose text had this third number, by its own: "A load whose two script numbers differ is (bad)"
abbrev pub reading_of : Form → ℕ → Maybe Form
reading_of f third = cond (eqb (get_or (padded (numbers_of f)) 2 0) third) (Some f) None

-- what a line of a kind is, from the five numbers of its text
abbrev pub reading_at : ℕ → List ℕ → Maybe Form
reading_at k ns = reading_of (form_at k (get_or ns 0 0) (get_or ns 1 0) (get_or ns 2 0) (get_or ns 3 0) (get_or ns 4 0)) (get_or ns 2 0)

-- the answer of `read_kind`, from the numbers that its text gives: None for a line that is no such text, and for one that is,
-- Some (Some f) where it is the text of f, and Some None where it is bad
abbrev pub tried_as : ℕ → Option (List ℕ) → Maybe (Maybe Form)
tried_as k none = None
tried_as k (some ns) = Some (reading_at k ns)
