-- Lines of 51 characters, one after the other: how many bytes the first of them take, that the output has room for the next, and where each begins.
use Prim.Native.Nat.{ℕ, zero, suc, ◌+◌, ◌-◌, ◌*◌, ◌/◌, ◌%◌, ◌≤◌, ◌<◌}
use mathlib.Core.Path.{◌≡◌, refl, sym, ◌∙◌, ap, ap₂, subst}
use mathlib.Core.Logic.{◌⊎◌, inl, inr}
use mathlib.Core.Bool.{Bool, true, false, ◌&&◌}
use mathlib.Core.List.{List, [], ◌∷◌, ◌++◌, append_assoc}
use native.Mathlib.Numerals.{add-one}
use native.Mathlib.Omega.{arith}
use lib.Dec.{eqb}
use lib.ListN.{length, take, drop, length-append}
use lib.Seq.{take_at, drop_at}
use borrow.Author.Tests.{eq-eqb, ne_eqb, lt-ltb, le-ltb}
use Rattle.basics.specs.Pick.{pick}
use Rattle.basics.proofs.Order.{le_or_lt, same_or_not}
use Rattle.model.specs.Sheet.{line_feed, empty_after, lines_to}

-- an empty line after every 60th segment, where another comes, and else none
pub one_empty : (n s : ℕ) → (s + 1) % 60 ≡ 0 → s + 1 < n → empty_after n s ≡ line_feed ∷ []
unfolding empty_after
one_empty n s e l = rw (eq-eqb (suc s % 60) 0 (omega arith), lt-ltb (suc s) n (omega arith))

pub none_between : (n s : ℕ) → ((s + 1) % 60 ≡ 0 → ⊥) → empty_after n s ≡ []
unfolding empty_after
none_between n s f = rw (ne_eqb (suc s % 60) 0 (λ e. f (omega arith)))

pub none_last : (n s : ℕ) → n ≤ s + 1 → empty_after n s ≡ []
unfolding empty_after
none_last n s l = rw (le-ltb (suc s) n (omega arith)) (go (eqb (suc s % 60) 0))
  where
    go : (t : Bool) → pick (t && false) (line_feed ∷ []) [] ≡ []
    go true = refl
    go false = refl

empty_long : (n s : ℕ) → suc s < n → s / 60 + length (empty_after n s) ≡ suc s / 60
empty_long n s l = go (same_or_not ((s + 1) % 60) 0)
  where
    go : ((s + 1) % 60 ≡ 0) ⊎ ((s + 1) % 60 ≡ 0 → ⊥) → s / 60 + length (empty_after n s) ≡ suc s / 60
    go (inl e) = let f = ap length (one_empty n s e (omega arith)) in omega arith
    go (inr e) = let f = ap length (none_between n s e) in omega arith

empty_last : (n s : ℕ) → n ≤ suc s → length (empty_after n s) ≡ 0
empty_last n s l = ap length (none_last n s (omega arith))

module _ (n : ℕ) (line : ℕ → List ℕ) where
  -- a line with what stands behind it
  abbrev pub ended : ℕ → List ℕ
  ended s = line s ++ (line_feed ∷ empty_after n s)

  pub next_line : (s : ℕ) → lines_to n line (s + 1) ≡ lines_to n line s ++ ended s
  unfolding lines_to
  next_line s = rw add-one

  module _ (long : (s : ℕ) → s < n → length (line s) ≡ 51) where
    ended_long : (s : ℕ) → s < n → length (ended s) ≡ 52 + length (empty_after n s)
    ended_long s l = length-append (line s) (line_feed ∷ empty_after n s) ∙ ap (λ k. k + suc (length (empty_after n s))) (long s l) ∙ omega arith

    -- where the line of segment s begins
    pub lines_long : (s : ℕ) → s < n → length (lines_to n line s) ≡ 52 * s + s / 60
    unfolding lines_to
    lines_long zero l = omega arith
    lines_long (suc s) l =
        let i = lines_long s (omega arith) in
        let e = ended_long s (omega arith) in
        let f = empty_long n s l in
        length-append (lines_to n line s) (ended s) ∙ omega arith

    -- with its end it is within the sheet
    pub lines_fit : (s : ℕ) → s < n → length (lines_to n line s) + 52 + length (empty_after n s) ≤ 52 * n + (n - 1) / 60
    lines_fit s l = go (le_or_lt n (suc s))
      where
        go : (n ≤ suc s) ⊎ (suc s < n) → length (lines_to n line s) + 52 + length (empty_after n s) ≤ 52 * n + (n - 1) / 60
        go (inl h) = omega (arith, lines_long s l, empty_last n s h)
        go (inr h) = omega (arith, lines_long s l, empty_long n s h)

    -- all of them
    pub all_long : 1 ≤ n → length (lines_to n line n) ≡ 52 * n + (n - 1) / 60
    all_long l =
        let s = n - 1 in
        let e : s + 1 ≡ n = omega arith in
        subst (λ k. length (lines_to n line k) ≡ 52 * n + (n - 1) / 60) e
        (ap length (next_line s) ∙ length-append (lines_to n line s) (ended s) ∙ omega (arith, lines_long s (omega arith), ended_long s (omega arith), empty_last n s (omega arith)))

    -- a line stands where it begins
    split : (s k : ℕ) → s < k → k ≤ n → (rest : List ℕ) × (lines_to n line k ≡ lines_to n line s ++ (line s ++ rest))
    unfolding lines_to
    split s zero l h = absurd (omega arith)
    split s (suc k) l h = go (same_or_not s k) (λ q. split s k q (omega arith))
      where
        go : (s ≡ k) ⊎ (s ≡ k → ⊥) → (s < k → (rest : List ℕ) × (lines_to n line k ≡ lines_to n line s ++ (line s ++ rest)))
            → (rest : List ℕ) × (lines_to n line k ++ ended k ≡ lines_to n line s ++ (line s ++ rest))
        go (inl e) i = (line_feed ∷ empty_after n k, ap (λ z. lines_to n line z ++ (line z ++ (line_feed ∷ empty_after n k))) (sym e))
        go (inr e) i =
            let x = i (omega arith) in (
              x.0 ++ ended k,
              ap (λ z. z ++ ended k) x.1 ∙ append_assoc (lines_to n line s) (line s ++ x.0) (ended k)
                  ∙ ap (λ z. lines_to n line s ++ z) (append_assoc (line s) x.0 (ended k)),
            )

    pub line_at : (s : ℕ) → s < n → take 51 (drop (52 * s + s / 60) (lines_to n line n)) ≡ line s
    line_at s l =
        let x = split s n l (omega arith) in
        ap (λ z. take 51 (drop (52 * s + s / 60) z)) x.1
        ∙ ap (take 51) (drop_at (lines_to n line s) (line s ++ x.0) (52 * s + s / 60) (lines_long s l))
        ∙ take_at (line s) x.0 51 (long s l)

-- two sheets of the same lines
pub lines_same : (n : ℕ) (a b : ℕ → List ℕ) → ((s : ℕ) → s < n → a s ≡ b s) → (k : ℕ) → k ≤ n → lines_to n a k ≡ lines_to n b k
unfolding lines_to
lines_same n a b e zero l = refl
lines_same n a b e (suc s) l = ap₂ (λ x y. x ++ (y ++ (line_feed ∷ empty_after n s))) (lines_same n a b e s (omega arith)) (e s (omega arith))
