-- The cases hold, by computing the definitions.
use mathlib.Core.Path.{refl}
use Rattle.decimals.specs.Decimal.{digits_of, decimal}
use Rattle.model.specs.Sheet.{aligned, letter_of, bar, free_line, used_line, empty_after, lines_to, sheet_of}
use Rattle.model.specs.Opening.{opened}
use Rattle.model_cases.specs.Replies.{replies, Holds}
use Rattle.model_pinned.specs.Sheet.{states, rows, All, EmptyLines}

pub states_hold : Holds 6 states
unfolding replies
states_hold = refl

pub rows_hold : All rows
unfolding digits_of decimal aligned letter_of bar used_line
rows_hold = (refl, (refl, (refl, (refl, (refl, (refl, (refl, tt)))))))

pub empty_lines : EmptyLines
unfolding digits_of decimal aligned letter_of bar free_line used_line empty_after lines_to sheet_of opened
empty_lines = record { one = refl; sixty = refl; sixty_one = refl; first = refl; long = refl; next = refl }
