-- A loop that prints line after line into an output: its invariant, kept by a turn and used at the end.
use Prim.Native.Nat.{ℕ, ◌+◌, ◌-◌, ◌*◌, ◌/◌, ◌≤◌, ◌<◌}
use mathlib.Core.Path.{◌≡◌, refl, sym, ◌∙◌, ap}
use mathlib.Core.List.{List, [], ◌∷◌, ◌++◌, append-nil}
use native.Mathlib.Omega.{arith}
use lib.ListN.{length, set, length-append, length-set, drop_of_length-le}
use Rattle.decimals.specs.Placed.{placed}
use Rattle.decimals.proofs.Placed.{placed_nil, placed_one, placed_front}
use Rattle.model.specs.Sheet.{line_feed, empty_after, lines_to}
use Rattle.sheet_line.proofs.Writers.{behind_one, behind_two}
use Rattle.sheet.proofs.Lines.{next_line, lines_fit, all_long}

-- the end of a line: a line feed, or two
module _ (l : List ℕ) (at n s : ℕ) where
  pub ends_line : empty_after n s ≡ [] → at < length l
      → (at + 1 ≡ at + length (line_feed ∷ empty_after n s)) × (set l at line_feed ≡ placed l at (line_feed ∷ empty_after n s))
  ends_line e h = (omega (arith, ap length e), placed_one l at line_feed h ∙ ap (λ z. placed l at (line_feed ∷ z)) (sym e))

  pub ends_group : empty_after n s ≡ line_feed ∷ [] → at + 1 < length l
      → (at + 2 ≡ at + length (line_feed ∷ empty_after n s)) × (set (set l at line_feed) (at + 1) line_feed ≡ placed l at (line_feed ∷ empty_after n s))
  ends_group e h = (
    omega (arith, ap length e),
    behind_one l at 1 (line_feed ∷ []) line_feed (set l at line_feed) (at + 1) refl h (length-set l at line_feed) (placed_one l at line_feed (omega arith)) refl
        ∙ ap (λ z. placed l at (line_feed ∷ z)) (sym e),
  )

-- the lines of the first s of n segments stand at the front of the output
pub record Printed (n : ℕ) (line : ℕ → List ℕ) (before out : List ℕ) (at s : ℕ) : Type 0 where
  pub few : s ≤ n
  pub place : at ≡ length (lines_to n line s)
  pub is : out ≡ placed before 0 (lines_to n line s)
  pub same : length out ≡ length before

module _ (n : ℕ) (line : ℕ → List ℕ) (before : List ℕ) where
  pub printed_none : Printed n line before before 0 0
  unfolding lines_to
  printed_none = record { few = omega arith; place = refl; is = sym (placed_nil before 0); same = refl }

  module _ (long : (s : ℕ) → s < n → length (line s) ≡ 51) (fits : length before ≡ 52 * n + (n - 1) / 60) where
    module _ (out : List ℕ) (at s : ℕ) (p : Printed n line before out at s) (l : s < n) where
      -- the output has room for the next line and its end
      pub line_room : at + 52 + length (empty_after n s) ≤ length out
      line_room = omega (arith, p.place, p.same, lines_fit n line long s l)

      pub printed_more : (mid : List ℕ) (end : ℕ) (next : List ℕ) (to : ℕ) → end ≡ at + 51 → mid ≡ placed out at (line s) → to ≡ end + length (line_feed ∷ empty_after n s)
          → next ≡ placed mid end (line_feed ∷ empty_after n s) → length next ≡ length out → Printed n line before next to (s + 1)
      printed_more mid end next to a b c d e = record {
        few = omega arith;
        place =
            omega (
              arith,
              p.place,
              long s l,
              ap length (next_line n line s) ∙ length-append (lines_to n line s) (line s ++ (line_feed ∷ empty_after n s)),
              length-append (line s) (line_feed ∷ empty_after n s),
            );
        is =
            behind_two before 0 (length (lines_to n line s)) 51 _ _ _ out at mid end next refl (long s l) (omega (arith, lines_fit n line long s l)) p.is (omega (arith, p.place)) b a d
            ∙ ap (placed before 0) (sym (next_line n line s));
        same = e ∙ p.same;
      }

    pub printed_all : (out : List ℕ) (at s : ℕ) → Printed n line before out at s → n ≤ s → 1 ≤ n → out ≡ lines_to n line n
    printed_all out at s p l some =
        let all : s ≡ n = omega (arith, p.few) in
        let text = lines_to n line n in
        let past : length before ≤ length text = omega (arith, all_long n line long some) in
        p.is ∙ ap (λ k. placed before 0 (lines_to n line k)) all ∙ placed_front before text
        ∙ ap (λ z. text ++ z) (drop_of_length-le before past) ∙ append-nil text
