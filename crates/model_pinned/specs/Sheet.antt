-- Document 02, No. 10, "The rack sheet": lines reckoned by hand. A heap with a segment in each state, by calls from an opening on; single lines; and
-- where the empty lines stand.
use Rattle.std.specs.Prelude.{◌≡◌, List, [], ◌∷◌, ◌++◌, ℕ, length, take, drop}
use Prim.Native.String.{String}
use Rattle.decimals.specs.Ascii.{bytes}
use Rattle.layout.specs.declared.Geometry.{Geometry}
use Rattle.layout.specs.Mem.{Mem}
use Rattle.theory.specs.Calls.{c_attach, c_detach, c_check, c_make}
use Rattle.model.specs.declared.Step.TheVariants.{Moved, Traced, Swept, Done}
use Rattle.model.specs.Sheet.{used_line, sheet_of}
use Rattle.model.specs.Opening.{opened}
use Rattle.model_cases.specs.Replies.{Line, ◌⇒◌, opening, start, step, sheet, call, stepped, words, ok}
use Rattle.model.specs.Tag as Tag

-- segments 1 to 5 in mark, and after the second start
abbrev others : List ℕ
others =
    bytes "  1 12 P    1    3 ########........................\n"
    ++ bytes "  2 11 P    3    5 ############....................\n"
    ++ bytes "  3 10 H    1   15 ##..............................\n"
    ++ bytes "  4 14 L    1    0 ################################\n"
    ++ bytes "  5 -- F    0    0 ................................\n"

abbrev condemned : List ℕ
condemned =
    bytes "  1 12 C    1    3 ########........................\n"
    ++ bytes "  2 11 C    3    5 ############....................\n"
    ++ bytes "  3 10 H    1   15 ##..............................\n"
    ++ bytes "  4 14 C    1    0 ################################\n"
    ++ bytes "  5 -- F    0    0 ................................\n"

-- mutator 0 fills a segment of class 12, mutator 1 holds two, of classes 12 and 11; a cycle that condemns the full one goes on to mark; there mutator 1
-- is detached, and mutator 0 makes records of classes 10 and 14. The sweep leaves a segment whose one block in use lies behind its place; a make out of
-- it has one kept and one handed out; and the next start condemns part segments whose places are in the middle
abbrev pub states : List Line
states =
    opening ⇒ ok
    ∷ call (c_attach 0) ⇒ ok
    ∷ call (c_attach 1) ⇒ ok
    ∷ call (c_make 0 0 1 600) ⇒ ok
    ∷ call (c_make 0 0 1 600) ⇒ ok
    ∷ call (c_make 0 0 1 600) ⇒ ok
    ∷ call (c_make 0 0 1 600) ⇒ ok
    ∷ call (c_make 1 0 1 600) ⇒ ok
    ∷ call (c_make 1 1 0 300) ⇒ ok
    ∷ call (c_make 1 1 0 300) ⇒ ok
    ∷ call (c_make 1 1 0 300) ⇒ ok
    ∷ start ⇒ ok
    ∷ call (c_check 0) ⇒ ok
    ∷ call (c_check 1) ⇒ ok
    ∷ step ⇒ stepped Moved
    ∷ call (c_check 0) ⇒ ok
    ∷ call (c_check 1) ⇒ ok
    ∷ step ⇒ stepped Moved
    ∷ call (c_detach 1) ⇒ ok
    ∷ call (c_make 0 1 0 200) ⇒ ok
    ∷ call (c_make 0 2 0 4095) ⇒ ok
    ∷ sheet ⇒ words (bytes "  0 12 C    4    0 ################################\n" ++ others)
    ∷ step ⇒ stepped Traced
    ∷ step ⇒ stepped Traced
    ∷ step ⇒ stepped Traced
    ∷ step ⇒ stepped Moved
    ∷ step ⇒ stepped (Swept 0 3)
    ∷ step ⇒ stepped Done
    ∷ sheet ⇒ words (bytes "  0 12 P    1    3 ########........................\n" ++ others)
    ∷ call (c_make 0 3 1 600) ⇒ ok
    ∷ start ⇒ ok
    ∷ sheet ⇒ words (bytes "  0 12 H    2    2 ################................\n" ++ condemned)
    ∷ []

-- a line: number, tag, class, blocks in use, blocks, and its text
pub record Row : Type 0 where
  pub number : ℕ
  pub tag : ℕ
  pub class : ℕ
  pub used : ℕ
  pub blocks : ℕ
  pub text : String

-- "the whole part": 31.5 is 31, and less than one is none; 4,096 blocks of class 3 at 32 KiB fill their columns
abbrev pub rows : List Row
rows =
    record { number = 12; tag = Tag.full; class = 12; used = 4; blocks = 4; text = " 12 12 L    4    0 ################################" }
    ∷ record { number = 7; tag = Tag.held; class = 8; used = 63; blocks = 64; text = "  7  8 H   63    1 ###############################." }
    ∷ record { number = 99; tag = Tag.part; class = 3; used = 1; blocks = 2048; text = " 99  3 P    1 2047 ................................" }
    ∷ record { number = 100; tag = Tag.condemned; class = 5; used = 17; blocks = 512; text = "100  5 C   17  495 #..............................." }
    ∷ record { number = 255; tag = Tag.condemned; class = 3; used = 4096; blocks = 4096; text = "255  3 C 4096    0 ################################" }
    ∷ record { number = 255; tag = Tag.part; class = 3; used = 127; blocks = 4096; text = "255  3 P  127 3969 ................................" }
    ∷ record { number = 9; tag = Tag.condemned; class = 14; used = 0; blocks = 2; text = "  9 14 C    0    2 ................................" }
    ∷ []

abbrev pub All : List Row → Type 0
All [] = Unit
All (r ∷ rs) = (used_line r.number r.tag r.class r.used r.blocks ≡ bytes r.text) × All rs

-- an opened heap of so many segments, of 16 KiB
abbrev nothing : Mem
nothing = record { control = []; mutators = []; heap = []; segments = []; stacks = []; bitmaps = []; marks = []; trace = [] }

abbrev pub open_sheet : ℕ → List ℕ
open_sheet n = let g : Geometry = record { segments = n; kib = 16 } in sheet_of g (opened g nothing)

-- "An empty line follows every 60th segment, if another comes."
pub record EmptyLines : Type 0 where
  pub one : open_sheet 1 ≡ bytes "  0 -- F    0    0 ................................\n"
  pub sixty : drop 3068 (open_sheet 60) ≡ bytes " 59 -- F    0    0 ................................\n"
  pub sixty_one : drop 3068 (open_sheet 61) ≡ bytes " 59 -- F    0    0 ................................\n\n 60 -- F    0    0 ................................\n"
  pub first : take 104 (open_sheet 61) ≡ bytes "  0 -- F    0    0 ................................\n  1 -- F    0    0 ................................\n"
  pub long : length (open_sheet 61) ≡ 3173
  pub next : drop 6189 (open_sheet 121) ≡ bytes "119 -- F    0    0 ................................\n\n120 -- F    0    0 ................................\n"
