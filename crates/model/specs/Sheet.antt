-- The sheet: the heap as text, a line for each segment (document 02, No. 10: "The rack sheet"). Characters are ASCII, a byte each.
use Rattle.std.specs.Prelude.{ℕ, zero, suc, ◌-◌, ◌*◌, ◌/◌, ◌%◌, ◌&&◌, List, [], ◌∷◌, ◌++◌, eqb, ltb, length, replicate}
use Prim.Native.Char.{code}
use Rattle.basics.specs.Pick.{pick}
use Rattle.decimals.specs.Ascii.{bytes}
use Rattle.decimals.specs.Decimal.{decimal}
use Rattle.layout.specs.declared.Geometry.{Geometry}
use Rattle.layout.specs.Geometry.{blocks_in}
use Rattle.layout.specs.Mem.{Mem}
use Rattle.model.specs.Fields.{tag, class}
use Rattle.model.specs.Segments.{in_use}
use Rattle.model.specs.Tag as Tag

-- ---- columns

abbrev pub space : ℕ
space = code " "

-- "right-aligned": the decimal of v behind as many spaces as make w characters
unfoldable pub aligned : ℕ → ℕ → List ℕ
aligned w v = replicate (w - length (decimal v)) space ++ decimal v

-- "-- if free"
abbrev pub no_class : List ℕ
no_class = bytes "--"

-- "Letters: F free, P part, H held, L full, C condemned."
unfoldable pub letter_of : ℕ → ℕ
letter_of t =
    pick (eqb t Tag.free) (code "F") (pick (eqb t Tag.part) (code "P") (pick (eqb t Tag.held) (code "H") (pick (eqb t Tag.full) (code "L") (code "C"))))

-- "a bar of 32": so many # "and the rest as dots"
abbrev pub bar_width : ℕ
bar_width = 32

unfoldable pub bar : ℕ → List ℕ
bar n = replicate n (code "#") ++ replicate (bar_width - n) (code ".")

-- "the whole part of 32 × in use ÷ blocks"
abbrev pub bar_of : ℕ → ℕ → ℕ
bar_of used blocks = bar_width * used / blocks

-- ---- a line

-- "One space stands between columns."
infixr 5 ◌beside◌
abbrev pub ◌beside◌ : List ℕ → List ℕ → List ℕ
x beside y = x ++ (space ∷ y)

-- "It has the segment number (3, right-aligned), class (2, right-aligned, -- if free), one letter, blocks in use and blocks not in use (4 each,
-- right-aligned) and a bar of 32."
abbrev pub columns : ℕ → List ℕ → ℕ → ℕ → ℕ → List ℕ → List ℕ
columns number classes letter used unused bars =
    aligned 3 number beside classes beside (letter ∷ []) beside aligned 4 used beside aligned 4 unused beside bars

-- "A free segment shows 0, 0 and dots."
unfoldable pub free_line : ℕ → List ℕ
free_line number = columns number no_class (letter_of Tag.free) 0 0 (replicate bar_width (code "."))

-- any other: of tag t and class c, with so many of its blocks in use
unfoldable pub used_line : (number t c used blocks : ℕ) → List ℕ
used_line number t c used blocks = columns number (aligned 2 c) (letter_of t) used (blocks - used) (bar (bar_of used blocks))

abbrev pub line_by : (number t c used blocks : ℕ) → List ℕ
line_by number t c used blocks = pick (eqb t Tag.free) (free_line number) (used_line number t c used blocks)

-- the line of segment s; in use is document 01's: "A block is in use when it lies before the place or its bit is 1."
abbrev pub line_of : Geometry → Mem → ℕ → List ℕ
line_of g m s = line_by s (tag m s) (class m s) (in_use g m s) (blocks_in g (class m s))

-- ---- the sheet

abbrev pub line_feed : ℕ
line_feed = 10

-- "An empty line follows every 60th segment, if another comes.": after segment s of n
unfoldable pub empty_after : ℕ → ℕ → List ℕ
empty_after n s = pick (eqb (suc s % 60) 0 && ltb (suc s) n) (line_feed ∷ []) []

-- "Each segment is a line of 51 characters and a line feed, ascending.": the lines of the first k of n segments
unfoldable pub lines_to : ℕ → (ℕ → List ℕ) → ℕ → List ℕ
lines_to n line zero = []
lines_to n line (suc s) = lines_to n line s ++ (line s ++ (line_feed ∷ empty_after n s))

unfoldable pub sheet_of : Geometry → Mem → List ℕ
sheet_of g m = lines_to g.segments (line_of g m) g.segments
