-- The laws of a list cut into parts: what is read, set, lent and joined.
use Prim.Native.Nat.{ℕ, zero, suc, ◌+◌, ◌≤◌, ◌<◌}
use mathlib.Core.Path.{◌≡◌, refl, sym, ◌∙◌}
use mathlib.Core.List.{List, [], ◌∷◌}
use native.Mathlib.Nat.{zero-add, add_assoc, add-suc}
use native.Mathlib.Omega.{arith}
use lib.ListN.{length, get_or, take, drop, set, length-drop, take-append-drop}
use lib.Seq.{sets, get_or-take, get_or-drop, take-set-le, take-set-lt, drop-set-lt, drop-set-add, get_or-set_same, set-get_or, set-set, take-take, drop-drop, take_at, drop_at, length-take-le}
use Rattle.layout.specs.Parts.{parts, joined, start, lengths}

-- a part ends where the next begins, and within them all
first : (ks : List ℕ) → start ks 0 ≡ 0
first [] = refl
first (x ∷ ks) = refl

pub next : (ks : List ℕ) (k : ℕ) → start ks (suc k) ≡ start ks k + get_or ks k 0
next [] k = refl
next (x ∷ ks) zero = let e = first ks in omega arith
next (x ∷ ks) (suc k) = let e = next ks k in omega arith

pub ends : (ks : List ℕ) (k : ℕ) → start ks k + get_or ks k 0 ≤ start ks (length ks)
ends [] k = omega arith
ends (x ∷ ks) zero = omega arith
ends (x ∷ ks) (suc k) = let l = ends ks k in omega arith

-- part k
abbrev pub at : List ℕ → List ℕ → ℕ → List ℕ
at ks l k = get_or (parts ks l) k []

pub read : (ks l : List ℕ) (k i : ℕ) → i < get_or ks k 0 → get_or (at ks l k) i 0 ≡ get_or l (start ks k + i) 0
read [] l k i h = absurd (omega arith)
read (x ∷ ks) l zero i h = rw zero-add (get_or-take x l i 0 h)
read (x ∷ ks) l (suc k) i h = read ks (drop x l) k i h ∙ get_or-drop x l (start ks k + i) 0 ∙ rw add_assoc

pub write : (ks l : List ℕ) (k i v : ℕ) → i < get_or ks k 0 → parts ks (set l (start ks k + i) v) ≡ set (parts ks l) k (set (at ks l k) i v)
write [] l k i v h = absurd (omega arith)
write (x ∷ ks) l zero i v h = rw (zero-add, take-set-lt x l i v h, drop-set-lt x l i v h)
write (x ∷ ks) l (suc k) i v h =
    rw (add_assoc, take-set-le x l (x + (start ks k + i)) v (omega arith), drop-set-add x l (start ks k + i) v, write ks (drop x l) k i v h)

long : (ks l : List ℕ) (k i : ℕ) → i < get_or ks k 0 → k < length (parts ks l)
long [] l k i h = absurd (omega arith)
long (x ∷ ks) l zero i h = omega arith
long (x ∷ ks) l (suc k) i h = let r = long ks (drop x l) k i h in omega arith

-- a run of words
pub writes : (ks l : List ℕ) (k i : ℕ) (vs : List ℕ) → i + length vs ≤ get_or ks k 0 → parts ks (sets l (start ks k + i) vs) ≡ set (parts ks l) k (sets (at ks l k) i vs)
writes ks l k i [] h = sym (set-get_or (parts ks l) k [])
writes ks l k i (v ∷ vs) h =
    let j : i < get_or ks k 0 = omega arith in
    rw (
      ← add-suc (start ks k) i,
      writes ks (set l (start ks k + i) v) k (suc i) vs (omega arith),
      write ks l k i v j,
      set-set (parts ks l) k,
      get_or-set_same (parts ks l) k (set (at ks l k) i v) [] (long ks l k i j),
    )

-- a part of a part
inside : (i n x : ℕ) (l : List ℕ) → i + n ≤ x → take n (drop i (take x l)) ≡ take n (drop i l)
inside zero n x l h = take-take n x l (omega arith)
inside (suc i) n zero l h = absurd (omega arith)
inside (suc i) n (suc x) [] h = refl
inside (suc i) n (suc x) (a ∷ l) h = inside i n x l (omega arith)

pub lent : (ks l : List ℕ) (k i n : ℕ) → i + n ≤ get_or ks k 0 → k < length ks → take n (drop (start ks k + i) l) ≡ take n (drop i (at ks l k))
lent [] l k i n h b = absurd (omega arith)
lent (x ∷ ks) l zero i n h b = rw zero-add (sym (inside i n x l h))
lent (x ∷ ks) l (suc k) i n h b = rw (add_assoc, ← drop-drop (start ks k + i) x l) (lent ks (drop x l) k i n h (omega arith))

-- together again
pub whole : (ks l : List ℕ) → length l ≤ start ks (length ks) → joined (parts ks l) ≡ l
whole [] [] h = refl
whole [] (a ∷ l) h = absurd (omega arith)
whole (x ∷ ks) l h = rw (whole ks (drop x l) (omega (arith, length-drop x l))) (take-append-drop x l)

pub apart : (xs : List (List ℕ)) → parts (lengths xs) (joined xs) ≡ xs
apart [] = refl
apart (x ∷ xs) = rw (take_at x (joined xs) (length x) refl, drop_at x (joined xs) (length x) refl, apart xs)

pub long_at : (ks l : List ℕ) (k : ℕ) → start ks k + get_or ks k 0 ≤ length l → length (at ks l k) ≡ get_or ks k 0
long_at [] l k h = refl
long_at (x ∷ ks) l zero h = length-take-le x l (omega arith)
long_at (x ∷ ks) l (suc k) h = long_at ks (drop x l) k (omega (arith, length-drop x l))
