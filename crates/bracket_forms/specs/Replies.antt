-- The bracket program's replies and their texts, as document 01 writes them.
use Rattle.std.specs.Prelude.{ℕ, List, [], ◌∷◌}
use Rattle.bracket_text.specs.Text.{Spelling, ◌with◌, text}
use Rattle.bracket_forms.specs.declared.Reply.{Reply}
use Rattle.bracket_forms.specs.declared.Reply.TheVariants.{Ok, OkOne, OkTwo, No, Bad, Waiting, Moved, Traced, Swept, Done, Idle}

-- each reply's text, `#` standing for the numbers that follow it: "(ok) with any result, (no NUMBER), (bad) for another line,
-- or step's answer"
abbrev pub reply_spelt : Reply → Spelling
reply_spelt Ok = "(ok)" with []
reply_spelt (OkOne v) = "(ok #)" with v ∷ []
reply_spelt (OkTwo p n) = "(ok # #)" with p ∷ n ∷ []
reply_spelt (No n) = "(no #)" with n ∷ []
reply_spelt Bad = "(bad)" with []
reply_spelt (Waiting n) = "(waiting #)" with n ∷ []
reply_spelt Moved = "(moved)" with []
reply_spelt Traced = "(traced)" with []
reply_spelt (Swept segment freed) = "(swept # #)" with segment ∷ freed ∷ []
reply_spelt Done = "(done)" with []
reply_spelt Idle = "(idle)" with []

unfoldable pub reply_text : Reply → List ℕ
reply_text r = text (reply_spelt r)
