-- What one byte does to a splitter, and a run of bytes. proofs/Streams.antt ties it to the lines of a stream.
use Rattle.std.specs.Prelude.{ℕ, ◌+◌, ◌-◌, ◌≤◌, ◌<◌, ◌≡◌, cond, List, [], ◌∷◌, ◌++◌, ltb, leb, eqb, length, take, drop, set}
use Rattle.bracket_lines.specs.Lines.{is_feed, Telling, whole, too_long}
use Rattle.bracket_lines.specs.declared.Found.{Found}
use Rattle.bracket_lines.specs.declared.Found.TheVariants.{More, Line, Overlong}
use Rattle.bracket_lines.specs.declared.Step.{Step}
use Rattle.bracket_lines.specs.declared.Scan.{Scan}

-- the end of a line of n bytes
abbrev pub line_end : ℕ → Found
line_end n = cond (leb n 80) (Line n) Overlong

-- the end of a stream: nothing is told where no byte follows the last line feed
unfoldable pub finished : ℕ → Found
finished n = cond (eqb n 0) More (line_end n)

-- one byte after n bytes of a line: at most 81 are counted
unfoldable pub step_of : ℕ → ℕ → Step
step_of n b =
    cond (is_feed b) (record { count = 0; found = line_end n })
    (cond (ltb n 80) (record { count = n + 1; found = More }) (record { count = 81; found = More }))

-- the first 80 bytes of a line are kept
unfoldable pub keep : ℕ → ℕ → List ℕ → List ℕ
keep n b l = cond (is_feed b) l (cond (ltb n 80) (set l n b) l)

-- a splitter: how many bytes of the line came, at most 81, and the bytes kept
pub record Splitter : Type 0 where
  pub count : ℕ
  pub line : List ℕ

unfoldable pub after : Splitter → ℕ → Splitter
after s b = record { count = (step_of s.count b).count; line = keep s.count b s.line }

-- what is told by an answer, with the bytes kept
abbrev pub heard : Found → List ℕ → List Telling
heard More l = []
heard (Line n) l = whole (take n l) ∷ []
heard Overlong l = too_long ∷ []

-- a run of bytes: the splitter after it, and all that is told on the way
unfoldable pub through : Splitter → List ℕ → Splitter
through s [] = s
through s (b ∷ bs) = through (after s b) bs

unfoldable pub tells : Splitter → List ℕ → List Telling
tells s [] = []
tells s (b ∷ bs) = heard (step_of s.count b).found (keep s.count b s.line) ++ tells (after s b) bs

-- a run of bytes until a line ends: the place after it, the count, what is told, and the bytes kept
pub record Scanned : Type 0 where
  pub answer : Scan
  pub line : List ℕ

-- after a byte: at the end of a line the run stops, else it goes on
abbrev pub go_on : Found → Scanned → Scanned → Scanned
go_on More stop rest = rest
go_on (Line n) stop rest = stop
go_on Overlong stop rest = stop

unfoldable pub scanned : ℕ → Splitter → List ℕ → Scanned
scanned at s [] = record { answer = record { next = at; count = s.count; found = More }; line = s.line }
scanned at s (b ∷ bs) =
    go_on (step_of s.count b).found
    (record { answer = record { next = at + 1; count = (step_of s.count b).count; found = (step_of s.count b).found }; line = keep s.count b s.line })
    (scanned (at + 1) (after s b) bs)

-- the answer of `next_line`: it is that run from `from` on. What follows from it: the run tells all that its bytes tell, and a line that is
-- told has at most 80 bytes
pub record Scans (chunk : List ℕ) (from count : ℕ) (line : List ℕ) (r : Scan) (left : List ℕ) : Type 0 where
  pub exact : scanned from (record { count = count; line = line }) (drop from chunk) ≡ record { answer = r; line = left }
  pub bounded : (n : ℕ) → r.found ≡ Line n → n ≤ 80
  pub onward : from ≤ r.next
  pub moves : from < length chunk → from < r.next
  pub inside : from ≤ length chunk → r.next ≤ length chunk
  pub state : through (record { count = count; line = line }) (take (r.next - from) (drop from chunk)) ≡ record { count = r.count; line = left }
  pub all : tells (record { count = count; line = line }) (take (r.next - from) (drop from chunk)) ≡ heard r.found left
  pub done : r.found ≡ More → length chunk ≤ r.next
