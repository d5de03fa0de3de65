-- A stream that is fed in any pieces tells exactly its lines: each line of at most 80 bytes whole, and of each longer one that
-- it was too long, once.
use Prim.Native.Nat.{ℕ, ◌+◌, ◌-◌, ◌≤◌, ◌<◌, min}
use mathlib.Core.Path.{◌≡◌, refl, sym, ◌∙◌, ap}
use mathlib.Core.Bool.{Bool, true, false, cond}
use mathlib.Core.List.{List, [], ◌∷◌, ◌++◌, map, append-nil, append_assoc}
use native.Mathlib.Numerals.{add-one}
use native.Mathlib.Omega.{arith}
use lib.Dec.{ltb, leb}
use lib.ListN.{length, take, drop, set, length-append, length-set, take-append-drop, drop_of_length-le}
use lib.Seq.{take-suc-set, drop-drop}
use borrow.Author.Tests.{le-leb, lt-leb, eq-eqb, ne_eqb, ltb-true, ltb-false, leb-true, leb-false}
use Rattle.bracket_lines.specs.Lines.{is_feed, begun, lines_of, Telling, told, told_of}
use Rattle.bracket_lines.specs.Split.{Splitter, line_end, finished, step_of, keep, after, heard, through, tells, Scans}
use Rattle.bracket_lines.specs.declared.Found.{Found}
use Rattle.bracket_lines.specs.declared.Found.TheVariants.{More}
use Rattle.bracket_lines.specs.declared.Scan.{Scan}
use Rattle.bracket_lines.proofs.Scanning.{through_append, tells_append}

-- a splitter that has been fed the bytes p of a line
record Holds (s : Splitter) (p : List ℕ) : Type 0 where
  room : length s.line ≡ 80
  count : s.count ≡ min 81 (length p)
  kept : length p ≤ 80 → take s.count s.line ≡ p

-- the lines of a stream, with the bytes p in front of the first
abbrev onto : List ℕ → List (List ℕ) → List (List ℕ)
onto [] [] = []
onto (x ∷ p) [] = (x ∷ p) ∷ []
onto p (l ∷ ls) = (p ++ l) ∷ ls

onto_none : (ls : List (List ℕ)) → onto [] ls ≡ ls
onto_none [] = refl
onto_none (l ∷ ls) = refl

onto_begun : (p : List ℕ) (b : ℕ) (ls : List (List ℕ)) → onto p (begun b ls) ≡ onto (p ++ (b ∷ [])) ls
onto_begun [] b [] = refl
onto_begun (x ∷ p) b [] = refl
onto_begun p b (l ∷ ls) = ap (λ (x : List ℕ). x ∷ ls) (sym (append_assoc p (b ∷ []) l))

-- the end of a line
line_told : (s : Splitter) (p : List ℕ) → Holds s p → heard (line_end s.count) s.line ≡ told p ∷ []
unfolding told
line_told s p h = go (leb (length p) 80) refl
  where
    go : (t : Bool) → leb (length p) 80 ≡ t → heard (line_end s.count) s.line ≡ told p ∷ []
    go true q =
        let k : length p ≤ 80 = leb-true _ _ q in
        let n : s.count ≤ 80 = omega (arith, h.count) in
        rw (q, le-leb s.count 80 n, h.kept k)
    go false q =
        let k : 80 < length p = leb-false _ _ q in
        let n : 80 < s.count = omega (arith, h.count) in
        rw (q, lt-leb s.count 80 n)

-- the end of a stream
end_told : (s : Splitter) (p : List ℕ) → Holds s p → heard (finished s.count) s.line ≡ map told (onto p [])
unfolding finished
end_told s [] h = let e : s.count ≡ 0 = omega (arith, h.count) in rw (eq-eqb s.count 0 e)
end_told s (x ∷ p) h =
    let n : s.count ≡ 0 → ⊥ = λ e. omega (arith, h.count) in
    rw (ne_eqb s.count 0 n) (line_told s (x ∷ p) h)

-- a line feed
module _ (s : Splitter) (b : ℕ) (q : is_feed b ≡ true) where
  feed_found : (step_of s.count b).found ≡ line_end s.count
  unfolding step_of
  feed_found = rw q

  feed_kept : keep s.count b s.line ≡ s.line
  unfolding keep
  feed_kept = rw q

  feed_count : (step_of s.count b).count ≡ 0
  unfolding step_of
  feed_count = rw q

  feed_holds : length s.line ≡ 80 → Holds (after s b) []
  unfolding after
  feed_holds h =
      record {
        room = ap length feed_kept ∙ h;
        count = feed_count;
        kept = λ k. rw feed_count;
      }

-- any other byte
module _ (s : Splitter) (b : ℕ) (q : is_feed b ≡ false) where
  other_found : (step_of s.count b).found ≡ More
  unfolding step_of
  other_found = go (ltb s.count 80) refl
    where
      go : (t : Bool) → ltb s.count 80 ≡ t → (step_of s.count b).found ≡ More
      go true e = rw (q, e)
      go false e = rw (q, e)

  other_holds : (p : List ℕ) → Holds s p → Holds (after s b) (p ++ (b ∷ []))
  unfolding after step_of keep
  other_holds p h = go (ltb s.count 80) refl
    where
      long : length (p ++ (b ∷ [])) ≡ length p + 1
      long = length-append p (b ∷ [])

      go : (t : Bool) → ltb s.count 80 ≡ t → Holds (after s b) (p ++ (b ∷ []))
      go true e =
          let n : s.count < 80 = ltb-true _ _ e in
          let k : take s.count s.line ≡ p = h.kept (omega (arith, h.count)) in
          record {
            room = rw (q, e) (length-set s.line s.count b ∙ h.room);
            count = rw (q, e) (omega (arith, h.count, long));
            kept = λ z. rw (q, e)
                (ap (λ (m : ℕ). take m (set s.line s.count b)) (add-one s.count)
                ∙ take-suc-set s.line s.count b (omega (arith, h.room))
                ∙ ap (λ (x : List ℕ). x ++ (b ∷ [])) k);
          }
      go false e =
          let n : 80 ≤ s.count = ltb-false _ _ e in
          record {
            room = rw (q, e) h.room;
            count = rw (q, e) (omega (arith, h.count, long));
            kept = λ z. absurd (omega (arith, h.count, long));
          }

-- what is told of the rest of a stream
abbrev rest_told : Splitter → List ℕ → List Telling
rest_told s bs = tells s bs ++ heard (finished (through s bs).count) (through s bs).line

all_told : (s : Splitter) (p bs : List ℕ) → Holds s p → rest_told s bs ≡ map told (onto p (lines_of bs))
unfolding tells through lines_of
all_told s p [] h = end_told s p h
all_told s p (b ∷ bs) h = go (is_feed b) refl (λ p'. all_told (after s b) p' bs)
  where
    Rest : Type 0
    Rest = (p' : List ℕ) → Holds (after s b) p' → rest_told (after s b) bs ≡ map told (onto p' (lines_of bs))

    front : List Telling
    front = heard (step_of s.count b).found (keep s.count b s.line)

    go : (t : Bool) → is_feed b ≡ t → Rest
        → (front ++ tells (after s b) bs) ++ heard (finished (through (after s b) bs).count) (through (after s b) bs).line
        ≡ map told (onto p (cond t ([] ∷ lines_of bs) (begun b (lines_of bs))))
    go true q rec =
        let f : front ≡ told p ∷ [] =
        ap (λ (x : Found). heard x (keep s.count b s.line)) (feed_found s b q)
        ∙ ap (heard (line_end s.count)) (feed_kept s b q)
        ∙ line_told s p h in
        append_assoc front (tells (after s b) bs) (heard (finished (through (after s b) bs).count) (through (after s b) bs).line)
        ∙ ap (λ (x : List Telling). x ++ rest_told (after s b) bs) f
        ∙ ap (λ (x : List Telling). told p ∷ x) (rec [] (feed_holds s b q h.room) ∙ ap (map told) (onto_none (lines_of bs)))
        ∙ ap (λ (x : List ℕ). told x ∷ map told (lines_of bs)) (sym (append-nil p))
    go false q rec =
        let f : front ≡ [] = ap (λ (x : Found). heard x (keep s.count b s.line)) (other_found s b q) in
        ap (λ (x : List Telling). (x ++ tells (after s b) bs) ++ heard (finished (through (after s b) bs).count) (through (after s b) bs).line) f
        ∙ rec (p ++ (b ∷ [])) (other_holds s b q p h)
        ∙ ap (map told) (sym (onto_begun p b (lines_of bs)))

-- a stream fed in pieces, and its end
abbrev pub fed : Splitter → List (List ℕ) → List Telling
fed s [] = heard (finished s.count) s.line
fed s (c ∷ cs) = tells s c ++ fed (through s c) cs

abbrev pub joined : List (List ℕ) → List ℕ
joined [] = []
joined (c ∷ cs) = c ++ joined cs

-- the pieces do not matter
pub fed_joined : (s : Splitter) (cs : List (List ℕ)) → fed s cs ≡ rest_told s (joined cs)
unfolding tells through
fed_joined s [] = refl
fed_joined s (c ∷ cs) = join (fed_joined (through s c) cs)
  where
    last : Splitter → List Telling
    last x = heard (finished x.count) x.line

    join : fed (through s c) cs ≡ rest_told (through s c) (joined cs)
        → tells s c ++ fed (through s c) cs ≡ rest_told s (c ++ joined cs)
    join i =
        ap (λ (x : List Telling). tells s c ++ x) i
        ∙ sym (append_assoc (tells s c) (tells (through s c) (joined cs)) (last (through (through s c) (joined cs))))
        ∙ ap (λ (x : List Telling). x ++ last (through (through s c) (joined cs))) (sym (tells_append s c (joined cs)))
        ∙ ap (λ (x : Splitter). tells s (c ++ joined cs) ++ last x) (sym (through_append s c (joined cs)))

-- the lines of the stream, whatever the buffer held
pub stream_told : (line : List ℕ) → length line ≡ 80 → (cs : List (List ℕ))
    → fed (record { count = 0; line = line }) cs ≡ told_of (joined cs)
stream_told line h cs =
    fed_joined (record { count = 0; line = line }) cs
    ∙ all_told (record { count = 0; line = line }) [] (joined cs) (record { room = h; count = refl; kept = λ k. refl })
    ∙ ap (map told) (onto_none (lines_of (joined cs)))

-- calls of `next_line`, one after the other, over a piece that is held from a place on: what they tell, and the splitter after them
pub data Runs (chunk : List ℕ) : ℕ → Splitter → List Telling → Splitter → Type 0 where
  stop : {from : ℕ} {s : Splitter} → length chunk ≤ from → Runs chunk from s [] s
  call : {from : ℕ} {s end : Splitter} {ts : List Telling} {r : Scan} {left : List ℕ} → Scans chunk from s.count s.line r left
      → Runs chunk r.next (record { count = r.count; line = left }) ts end → Runs chunk from s (heard r.found left ++ ts) end

-- they tell all that the piece tells, and lead to the splitter after it
pub runs_tell : (chunk : List ℕ) {from : ℕ} {s end : Splitter} {ts : List Telling} → Runs chunk from s ts end → from ≤ length chunk
    → (ts ≡ tells s (drop from chunk)) × (end ≡ through s (drop from chunk))
unfolding tells through
runs_tell chunk {from = from} {s = s} (stop h) k =
    let e : drop from chunk ≡ [] = drop_of_length-le chunk h in
    (ap (tells s) (sym e), ap (through s) (sym e))
runs_tell chunk {from = from} {s = s} (call {ts = ts} {r = r} {left = left} c rest) k =
    let p = take (r.next - from) (drop from chunk) in
    let q = drop r.next chunk in
    let m : from + (r.next - from) ≡ r.next = omega (arith, c.onward) in
    let e : drop from chunk ≡ p ++ q =
    sym (take-append-drop (r.next - from) (drop from chunk))
    ∙ ap (λ (x : List ℕ). p ++ x) (drop-drop (r.next - from) from chunk ∙ ap (λ (n : ℕ). drop n chunk) m) in
    let i = runs_tell chunk rest (c.inside k) in (
      ap (λ (x : List Telling). heard r.found left ++ x) i.0
          ∙ ap (λ (x : List Telling). x ++ tells (record { count = r.count; line = left }) q) (sym c.all)
          ∙ ap (λ (x : Splitter). tells s p ++ tells x q) (sym c.state)
          ∙ sym (tells_append s p q)
          ∙ ap (tells s) (sym e),
      i.1 ∙ ap (λ (x : Splitter). through x q) (sym c.state) ∙ sym (through_append s p q) ∙ ap (through s) (sym e),
    )

-- the calls of a program over a whole stream: `next_line` over each piece from its start, and `finish` at the end
pub data Program : List (List ℕ) → Splitter → List Telling → Type 0 where
  ends : {s : Splitter} → Program [] s (heard (finished s.count) s.line)
  reads : {chunk : List ℕ} {cs : List (List ℕ)} {s end : Splitter} {ts us : List Telling} → Runs chunk 0 s ts end → Program cs end us
      → Program (chunk ∷ cs) s (ts ++ us)

program_fed : {cs : List (List ℕ)} {s : Splitter} {ts : List Telling} → Program cs s ts → ts ≡ fed s cs
program_fed ends = refl
program_fed (reads {chunk = chunk} {cs = cs} {s = s} {end = end} {ts = ts} {us = us} r rest) =
    let e = runs_tell chunk r (omega arith) in
    ap (λ (x : List Telling). ts ++ x) (program_fed rest)
    ∙ ap (λ (x : List Telling). x ++ fed end cs) e.0
    ∙ ap (λ (x : Splitter). tells s chunk ++ fed x cs) e.1

-- whatever the pieces are, they tell exactly the stream's lines: none lost, none split
pub program_told : (line : List ℕ) → length line ≡ 80 → {cs : List (List ℕ)} {ts : List Telling} → Program cs (record { count = 0; line = line }) ts
    → ts ≡ told_of (joined cs)
program_told line h {cs} p = program_fed p ∙ stream_told line h cs
