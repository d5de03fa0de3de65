-- The grammar of the bracket program's forms: each form's text, as document 01 writes it, and what a reader of lines owes.
use Rattle.std.specs.Prelude.{ℕ, ◌≤◌, ◌≡◌, List, [], ◌∷◌, length, Option, Some}
use Rattle.bracket_text.specs.Text.{Spelling, ◌with◌, text, Words}
use Rattle.bracket_forms.specs.declared.Form.{Form}
use Rattle.bracket_forms.specs.declared.Form.TheVariants.{Rack, Attach, Spawn, Detach, Make, Load, Store, Copy, Clear, Put, Get, Same, Shape, Check, Leave, Enter, Start, Step}

-- each form's text, `#` standing for the numbers that follow it: "A place is (script slot) or (script slot field). make's
-- second pair is links, numbers. detach, leave and enter are written like check." A load names its script twice
abbrev pub spelt : Form → Spelling
spelt (Rack s) = "(rack #)" with s ∷ []
spelt (Attach m) = "(attach #)" with m ∷ []
spelt (Spawn new parent slot) = "(spawn # (# #))" with new ∷ parent ∷ slot ∷ []
spelt (Detach m) = "(detach #)" with m ∷ []
spelt (Make m slot links numbers) = "(make (# #) (# #))" with m ∷ slot ∷ links ∷ numbers ∷ []
spelt (Load m to slot field) = "(load (# #) (# # #))" with m ∷ to ∷ m ∷ slot ∷ field ∷ []
spelt (Store m slot field from) = "(store (# # #) #)" with m ∷ slot ∷ field ∷ from ∷ []
spelt (Copy m to from) = "(copy (# #) #)" with m ∷ to ∷ from ∷ []
spelt (Clear m slot) = "(clear (# #))" with m ∷ slot ∷ []
spelt (Put m slot field value) = "(put (# # #) #)" with m ∷ slot ∷ field ∷ value ∷ []
spelt (Get m slot field) = "(get (# # #))" with m ∷ slot ∷ field ∷ []
spelt (Same m slot other) = "(same (# #) #)" with m ∷ slot ∷ other ∷ []
spelt (Shape m slot) = "(shape (# #))" with m ∷ slot ∷ []
spelt (Check m) = "(check #)" with m ∷ []
spelt (Leave m) = "(leave #)" with m ∷ []
spelt (Enter m) = "(enter #)" with m ∷ []
spelt Start = "(start)" with []
spelt Step = "(step)" with []

unfoldable pub text_of : Form → List ℕ
text_of f = text (spelt f)

abbrev pub numbers_of : Form → List ℕ
numbers_of f = (spelt f).numbers

-- a form of 32-bit numbers
abbrev pub Fitting : Form → Type 0
Fitting f = Words (numbers_of f)

-- what the reader of a line owes: an answer that is a form is the form whose text the line is, "at most 80 bytes"; and a line
-- that is a form's text is answered by that form
pub record FormRead (line : List ℕ) (r : Option Form) : Type 0 where
  pub sound : (f : Form) → r ≡ Some f → text_of f ≡ line
  pub short : (f : Form) → r ≡ Some f → length line ≤ 80
  pub fits : (f : Form) → r ≡ Some f → Fitting f
  pub complete : (f : Form) → Fitting f → text_of f ≡ line → r ≡ Some f
