-- The scratch in two parts: the part behind, lent and given back, and the words kept in front.
use mathlib.Core.Path.{◌≡◌, refl, sym, ap, ap₂, ◌∙◌, subst}
use mathlib.Core.List.{List, [], ◌∷◌, ◌++◌, append-nil}
use Prim.Native.Nat.{ℕ, ◌+◌, ◌-◌, ◌*◌, ◌/◌, ◌≤◌, ◌<◌}
use native.Mathlib.Numerals.{add-one}
use native.Mathlib.Omega.{arith}
use lib.ListN.{length, get_or, take, drop, set, length-drop, length-set, drop_of_length-le}
use lib.Seq.{take_all, take-suc, take-suc-set, drop-set-lt, get_or-drop, get_or-take, length-take-le, take_at, drop_at}
use borrow.Rule.Slice.PartMut.{mid_of, put_mid}
use Rattle.words.specs.Bits.{bit_at}
use Rattle.words.proofs.Lists.{bits_same}
use Rattle.layout.specs.declared.Geometry.{Geometry}
use Rattle.layout.specs.Geometry.{len, most_blocks}
use Rattle.layout.proofs.Sizes.{marks_are}
use Rattle.examine_search.specs.Scratch.{search_words, Lent}
use Rattle.examine_colours.specs.Coloured.{Room}
use Rattle.layout.specs.Region as Region

module _ (n : ℕ) (s : List ℕ) (h : n ≤ length s) where
  pub part_all : mid_of n (length s - n) s ≡ drop n s
  part_all = take_all (length s - n) (drop n s) (omega (arith, length-drop n s))

  pub put_all : (ys : List ℕ) → put_mid n (length s - n) s ys ≡ take n s ++ ys
  put_all ys = ap (λ (z : List ℕ). take n s ++ (ys ++ z)) (drop_of_length-le (drop n s) {i = length s - n} (omega (arith, length-drop n s))) ∙ ap (λ (z : List ℕ). take n s ++ z) (append-nil ys)

  pub front : (ys : List ℕ) → take n (put_mid n (length s - n) s ys) ≡ take n s
  front ys = ap (λ (z : List ℕ). take n z) (put_all ys) ∙ take_at (take n s) ys n (length-take-le n s h)

  pub back : (ys : List ℕ) → drop n (put_mid n (length s - n) s ys) ≡ ys
  back ys = ap (λ (z : List ℕ). drop n z) (put_all ys) ∙ drop_at (take n s) ys n (length-take-le n s h)

-- ---- words copied from behind to the front

pub record Copied (n : ℕ) (s₀ s : List ℕ) (i : ℕ) : Type 0 where
  pub within : i ≤ n
  pub size : length s ≡ length s₀
  pub done : take i s ≡ take i (drop n s₀)
  pub behind : drop n s ≡ drop n s₀

module _ (n : ℕ) (s₀ : List ℕ) (fits : n + n ≤ length s₀) where
  pub copied_none : Copied n s₀ s₀ 0
  copied_none = record { within = omega arith; size = refl; done = refl; behind = refl }

  -- one word more
  pub copied_more : (s : List ℕ) (i : ℕ) → i < n → Copied n s₀ s i → Copied n s₀ (set s i (get_or s (n + i) 0)) (i + 1)
  copied_more s i l c =
      let v = get_or s (n + i) 0 in
      let e : v ≡ get_or (drop n s₀) i 0 = sym (get_or-drop n s i 0) ∙ ap (λ (z : List ℕ). get_or z i 0) c.behind in
      record {
        within = omega arith;
        size = length-set s i v ∙ c.size;
        done =
            ap (λ (k : ℕ). take k (set s i v)) (add-one i) ∙ take-suc-set s i v (omega (arith, c.size))
            ∙ ap₂ (λ (z : List ℕ) (x : ℕ). z ++ (x ∷ [])) c.done e
            ∙ sym (take-suc (drop n s₀) i 0 (omega (arith, length-drop n s₀)))
            ∙ ap (λ (k : ℕ). take k (drop n s₀)) (sym (add-one i));
        behind = drop-set-lt n s i v l ∙ c.behind;
      }

  pub copied_all : (s : List ℕ) (i : ℕ) → n ≤ i → Copied n s₀ s i → take n s ≡ take n (drop n s₀)
  copied_all s i l c = let e : i ≡ n = omega (arith, c.within) in subst (λ (k : ℕ). take k s ≡ take k (drop n s₀)) e c.done

-- the bits of the words kept
pub front_bit : (n : ℕ) (s : List ℕ) (k : ℕ) → k < n * 32 → bit_at s k ≡ bit_at (take n s) k
front_bit n s k l = bits_same s (take n s) k (sym (get_or-take n s (k / 32) 0 (omega arith)))

-- ---- a scratch of two fields of bits and a stack

pub field_is : (g : Geometry) (t : ℕ) → t ≡ len g Region.trace → t / 32 ≡ len g Region.marks
field_is g t e = let w = marks_are g g.segments in omega arith

module _ (g : Geometry) (memory : List ℕ) (n : ℕ) (s : List ℕ) (r : Room g memory n s) where
  pub within : n ≤ length s
  within = let a = r.field in let b = r.room in omega arith

  pub twice : n + n ≤ length s
  twice = let a = r.field in let b = r.room in omega arith

  pub behind_size : length (drop n s) ≡ search_words g
  behind_size = let a = r.field in let b = r.room in let c = length-drop n s in omega arith

  pub part_is : mid_of n (length s - n) s ≡ drop n s
  part_is = part_all n s within

  pub part_size : length (mid_of n (length s - n) s) ≡ search_words g
  part_size = ap length part_is ∙ behind_size

  pub lent : Lent g memory (mid_of n (length s - n) s)
  lent = record { sized = r.sized; room = part_size }

  pub behind_room : len g Region.marks ≤ length (drop n s)
  behind_room = let a = behind_size in omega arith

  pub front_room : len g Region.marks ≤ length (take n s)
  front_room = let a = r.field in let b = length-take-le n s within in omega arith

  pub resize : (t : List ℕ) → length t ≡ length s → Room g memory n t
  resize t e = record { sized = r.sized; field = r.field; room = e ∙ r.room }

  -- a bit of a block lies in the first field
  pub bit_front : (t : List ℕ) (k : ℕ) → k < g.segments * most_blocks g → bit_at t k ≡ bit_at (take n t) k
  bit_front t k l = front_bit n t k (let a = r.field in let w = marks_are g g.segments in omega arith)
