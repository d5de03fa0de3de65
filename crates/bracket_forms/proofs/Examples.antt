-- Lines of document 01 as texts of forms and of replies, and lines that no form has, as rows of tables.
use Prim.Native.Nat.{ℕ, ◌<◌}
use mathlib.Core.Path.{◌≡◌, refl}
use mathlib.Core.Bool.{Bool, true, false}
use mathlib.Core.List.{List, [], ◌∷◌}
use mathlib.Core.Option.{Option, none, some}
use lib.Dec.{T, lit<}
use lib.ListN.{get_or}
use Rattle.decimals.specs.Ascii.{bytes}
use Rattle.decimals.specs.Decimal.{digits_of, decimal}
use Rattle.bracket_text.specs.Text.{fill, text}
use Rattle.bracket_text.specs.Scan.{zeros, digits_on, number_of, piece, matched}
use Rattle.std.specs.Prelude.{None}
use Rattle.basics.proofs.Table.{Each, every_at}
use Rattle.bracket_text.proofs.Laws.{◌also◌}
use Rattle.bracket_forms.specs.Forms.{text_of, FormRead}
use Rattle.bracket_forms.specs.Kinds.{forms, form_at, template_at}
use Rattle.bracket_forms.specs.Replies.{reply_text}
use Rattle.bracket_forms.specs.declared.Form.{Form}
use Rattle.bracket_forms.specs.declared.Form.TheVariants.{Rack, Attach, Make, Load, Store, Clear, Put, Get, Check, Start, Step}
use Rattle.bracket_forms.specs.declared.Reply.{Reply}
use Rattle.bracket_forms.specs.declared.Reply.TheVariants.{Ok, OkOne, Waiting, Moved, Traced, Swept, Done}
use Rattle.bracket_forms.proofs.Table.{every_text, text_passes}
use Rattle.bracket_forms.proofs.Reader.{found, missed}

-- a form, and its line
abbrev pub lines : List (Form × List ℕ)
lines =
    (Rack 2, bytes "(rack 2)")
    ∷ (Attach 0, bytes "(attach 0)")
    ∷ (Make 0 0 1 600, bytes "(make (0 0) (1 600))")
    ∷ (Store 0 0 0 1, bytes "(store (0 0 0) 1)")
    ∷ (Put 0 1 0 77, bytes "(put (0 1 0) 77)")
    ∷ (Clear 0 1, bytes "(clear (0 1))")
    ∷ (Start, bytes "(start)")
    ∷ (Step, bytes "(step)")
    ∷ (Check 0, bytes "(check 0)")
    ∷ (Load 0 1 0 0, bytes "(load (0 1) (0 0 0))")
    ∷ (Get 0 1 0, bytes "(get (0 1 0))")
    ∷ (Rack 4294967295, bytes "(rack 4294967295)")
    ∷ []

pub lines_hold : Each (λ (i : ℕ) (x : Form × List ℕ). text_of x.0 ≡ x.1) 0 lines
unfolding text_of text fill decimal digits_of
lines_hold = refl also refl also refl also refl also refl also refl also refl also refl also refl also refl also refl also refl also tt

-- a reply, and its line
abbrev pub answers : List (Reply × List ℕ)
answers =
    (Ok, bytes "(ok)")
    ∷ (OkOne 77, bytes "(ok 77)")
    ∷ (Waiting 1, bytes "(waiting 1)")
    ∷ (Moved, bytes "(moved)")
    ∷ (Traced, bytes "(traced)")
    ∷ (Swept 0 1, bytes "(swept 0 1)")
    ∷ (Done, bytes "(done)")
    ∷ []

pub answers_hold : Each (λ (i : ℕ) (x : Reply × List ℕ). reply_text x.0 ≡ x.1) 0 answers
unfolding reply_text text fill decimal digits_of
answers_hold = refl also refl also refl also refl also refl also refl also refl also tt

-- a line that no text of the table matches, as a test
abbrev is_none : Option (List ℕ) → Bool
is_none none = true
is_none (some ns) = false

none_is : (o : Option (List ℕ)) → T (is_none o) → o ≡ none
none_is none h = refl
none_is (some ns) h = absurd h

unmatched : List ℕ → Bool
unmatched l = every_text (λ k t. is_none (matched t 0 zeros l))

unmatched_bad : (l : List ℕ) → T (unmatched l) → FormRead l None
unfolding unmatched
unmatched_bad l t =
    missed l (λ k h. none_is (matched (template_at k) 0 zeros l) (text_passes (λ j u. is_none (matched u 0 zeros l)) t k h))

-- an empty line, spaces too many or too few, a number with a leading zero, with a sign, too large, a word in capitals, a carriage
-- return (13), a tab (9), a NUL (0), a look
abbrev pub bad_lines : List (List ℕ)
bad_lines =
    bytes ""
    ∷ bytes " (rack 2)"
    ∷ bytes "(rack 2) "
    ∷ bytes "(rack  2)"
    ∷ bytes "(rack2)"
    ∷ bytes "(rack 02)"
    ∷ bytes "(rack -2)"
    ∷ bytes "(rack 4294967296)"
    ∷ bytes "(Rack 2)"
    ∷ (40 ∷ 115 ∷ 116 ∷ 101 ∷ 112 ∷ 41 ∷ 13 ∷ [])
    ∷ (40 ∷ 115 ∷ 116 ∷ 101 ∷ 112 ∷ 41 ∷ 9 ∷ [])
    ∷ (40 ∷ 115 ∷ 116 ∷ 101 ∷ 112 ∷ 0 ∷ 41 ∷ [])
    ∷ bytes "(phase)"
    ∷ []

pub all_bad : (i : ℕ) → i < 13 → FormRead (get_or bad_lines i []) None
unfolding unmatched forms matched piece number_of digits_on
all_bad i h = unmatched_bad (get_or bad_lines i []) (every_at (λ j l. unmatched l) [] bad_lines tt i h)

-- "A load whose two script numbers differ is (bad)"
pub load_bad : FormRead (bytes "(load (0 1) (1 0 0))") None
unfolding template_at form_at forms matched piece number_of digits_on
load_bad = found (bytes "(load (0 1) (1 0 0))") 5 (lit< tt) (0 ∷ 1 ∷ 1 ∷ 0 ∷ 0 ∷ []) refl
