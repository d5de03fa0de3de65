-- The levels above, written anew: what stands where, and that they make a bitmap tree.
use mathlib.Core.Path.{◌≡◌, refl, sym, ap, ◌∙◌}
use mathlib.Core.List.{List, ◌++◌}
use Prim.Native.Nat.{ℕ, zero, suc, ◌+◌, ◌-◌, ◌*◌, ◌/◌, ◌≤◌, ◌<◌}
use native.Mathlib.Nat.{not-suc-le-zero}
use native.Mathlib.Numerals.{sub-one}
use native.Mathlib.Omega.{arith}
use lib.ListN.{length, get_or, take, drop, get_or-append, length-append, length-drop}
use lib.Seq.{length-take-le, get_or-take, drop_at, drop-drop, drop-append-add}
use Rattle.basics.proofs.Parts.{tail_part, put_tail}
use Rattle.words.specs.Levels.{words_for, tree_words, Height}
use Rattle.words.specs.Bits.{bit_at}
use Rattle.words.specs.Tree.{Level, Tree}
use Rattle.bitmap_write.specs.Rebuild.{packed, full_bit, summed, rebuilt}
use Rattle.words.proofs.Lists.{bits_same}
use Rattle.words.proofs.Trees.{words_in}
use Rattle.bitmap_write.proofs.Packed.{full_in, full_only, full_past, full_lt, packed_bit}
use Rattle.bitmap_write.proofs.Summed.{length-upper, length-summed, drop-summed, take-summed}

pub rebuilt_none : (a n : ℕ) (ws : List ℕ) → a ≡ 0 → rebuilt a n ws ≡ ws
unfolding rebuilt
rebuilt_none zero n ws e = refl
rebuilt_none (suc a) n ws e = absurd (omega arith)

pub rebuilt_more : (a n : ℕ) (ws : List ℕ) → 0 < a → take (words_for n) ws ++ rebuilt (a - 1) (words_for n) (drop (words_for n) (summed ws (words_for n))) ≡ rebuilt a n ws
unfolding rebuilt
rebuilt_more zero n ws h = absurd (not-suc-le-zero h)
rebuilt_more (suc a) n ws h = ap (λ (k : ℕ). take (words_for n) ws ++ rebuilt k (words_for n) (drop (words_for n) (summed ws (words_for n)))) (sub-one (suc a))

-- what the code leaves, from the words it counted and what its two calls left
pub rebuild_put : (a n words : ℕ) (ws xs ys : List ℕ) → 0 < a → words ≡ words_for n → words_for n + words_for (words_for n) ≤ length ws → xs ≡ summed ws words
    → ys ≡ rebuilt (a - 1) words (take (length xs - words) (drop words xs)) → take words xs ++ (ys ++ drop (length xs - words) (drop words xs)) ≡ rebuilt a n ws
rebuild_put a n words ws xs ys h w room e f =
    put_tail words xs ys
    ∙ ap (λ (l : List ℕ). take words xs ++ l) (f ∙ ap (λ (l : List ℕ). rebuilt (a - 1) words l) (tail_part words xs))
    ∙ ap (λ (l : List ℕ). take words l ++ rebuilt (a - 1) words (drop words l)) e
    ∙ ap (λ (m : ℕ). take m (summed ws m) ++ rebuilt (a - 1) m (drop m (summed ws m))) w
    ∙ ap (λ (l : List ℕ). l ++ rebuilt (a - 1) (words_for n) (drop (words_for n) (summed ws (words_for n)))) (take-summed ws (words_for n) room)
    ∙ rebuilt_more a n ws h

-- level 0 is as it was
pub level_kept : (a n : ℕ) (ws : List ℕ) → tree_words a n ≤ length ws → (i : ℕ) → i < words_for n → get_or (rebuilt a n ws) i 0 ≡ get_or ws i 0
unfolding rebuilt
level_kept zero n ws room i h = refl
level_kept (suc a) n ws room i h =
    let e : length (take (words_for n) ws) ≡ words_for n = length-take-le (words_for n) ws (omega arith) in
    get_or-append (take (words_for n) ws) (rebuilt a (words_for n) (drop (words_for n) (summed ws (words_for n)))) 0 i (omega arith)
    ∙ get_or-take (words_for n) ws i 0 h

-- what stands behind the first m words once the level above them is written
module _ (m : ℕ) (ws : List ℕ) (room : m + words_for m ≤ length ws) where
  abbrev pub behind : List ℕ
  behind = drop m (summed ws m)

  pub length-behind : length behind ≡ length ws - m
  length-behind = length-drop m (summed ws m) ∙ ap (λ (x : ℕ). x - m) (length-summed ws m room)

  pub bit_behind : (k : ℕ) → k < words_for m * 32 → bit_at behind k ≡ full_bit ws m k
  bit_behind k h =
      bits_same behind (packed (full_bit ws m) (words_for m) 0) k
      (ap (λ (l : List ℕ). get_or l (k / 32) 0) (drop-summed ws m room)
      ∙ get_or-append (packed (full_bit ws m) (words_for m) 0) (drop (m + words_for m) ws) 0 (k / 32) (omega (arith, length-upper ws m room)))
      ∙ packed_bit (full_bit ws m) (full_lt ws m) (words_for m) k h

  pub level_behind : Level m behind
  level_behind = record {
    room = omega (arith, length-behind);
    past = λ k l h. bit_behind k h ∙ full_past ws m k l;
  }

pub length-rebuilt : (a n : ℕ) (ws : List ℕ) → tree_words a n ≤ length ws → length (rebuilt a n ws) ≡ length ws
unfolding rebuilt
length-rebuilt zero n ws room = refl
length-rebuilt (suc a) n ws room =
    let inside : words_for n + words_for (words_for n) ≤ length ws = omega (arith, words_in a (words_for n)) in
    let l = length-behind (words_for n) ws inside in
    length-append (take (words_for n) ws) (rebuilt a (words_for n) (drop (words_for n) (summed ws (words_for n))))
    ∙ omega (arith, length-take-le (words_for n) ws (omega arith), length-rebuilt a (words_for n) (drop (words_for n) (summed ws (words_for n))) (omega arith))

-- the levels written anew make a bitmap tree
pub rebuilt_tree : (a n : ℕ) (ws : List ℕ) → Height a n → Level n ws → tree_words a n ≤ length ws → Tree a n (rebuilt a n ws)
unfolding Tree rebuilt
rebuilt_tree zero n ws levels_end lv room = (lv, levels_end)
rebuilt_tree (suc a) n ws levels_end lv room =
    let inside : words_for n + words_for (words_for n) ≤ length ws = omega (arith, words_in a (words_for n)) in
    let fits : tree_words a (words_for n) ≤ length (drop (words_for n) (summed ws (words_for n))) = omega (arith, length-behind (words_for n) ws inside) in
    let rest = rebuilt_tree a (words_for n) (drop (words_for n) (summed ws (words_for n))) levels_end (level_behind (words_for n) ws inside) fits in
    let split : drop (words_for n) (rebuilt (suc a) n ws) ≡ rebuilt a (words_for n) (drop (words_for n) (summed ws (words_for n))) =
    drop_at (take (words_for n) ws) (rebuilt a (words_for n) (drop (words_for n) (summed ws (words_for n)))) (words_for n) (length-take-le (words_for n) ws (omega arith)) in
    let above : (j : ℕ) → j < words_for n → bit_at (drop (words_for n) (rebuilt (suc a) n ws)) j ≡ full_bit ws (words_for n) j =
    λ j h. ap (λ (l : List ℕ). bit_at l j) split
    ∙ bits_same (rebuilt a (words_for n) (drop (words_for n) (summed ws (words_for n)))) (drop (words_for n) (summed ws (words_for n))) j
    (level_kept a (words_for n) (drop (words_for n) (summed ws (words_for n))) fits (j / 32) (omega arith))
    ∙ bit_behind (words_for n) ws inside j (omega arith) in (
      record {
        room = omega (arith, lv.room, length-rebuilt (suc a) n ws room);
        past = λ k l h. bits_same (rebuilt (suc a) n ws) ws k (level_kept (suc a) n ws room (k / 32) (omega arith)) ∙ lv.past k l h;
      },
      record {
        full = λ j h e. above j h ∙ full_in ws (words_for n) j h (sym (level_kept (suc a) n ws room j h) ∙ e);
        only = λ j h e. level_kept (suc a) n ws room j h ∙ full_only ws (words_for n) j h (sym (above j h) ∙ e);
      },
      rw split rest,
    )

-- what stands behind the tree's words is as it was
pub rest_kept : (a n : ℕ) (ws : List ℕ) → tree_words a n ≤ length ws → drop (tree_words a n) (rebuilt a n ws) ≡ drop (tree_words a n) ws
unfolding rebuilt
rest_kept zero n ws room = refl
rest_kept (suc a) n ws room =
    let inside : words_for n + words_for (words_for n) ≤ length ws = omega (arith, words_in a (words_for n)) in
    let fits : tree_words a (words_for n) ≤ length (drop (words_for n) (summed ws (words_for n))) = omega (arith, length-behind (words_for n) ws inside) in
    let t : length (take (words_for n) ws) ≡ words_for n = length-take-le (words_for n) ws (omega arith) in
    let u : length (packed (full_bit ws (words_for n)) (words_for (words_for n)) 0) ≡ words_for (words_for n) = length-upper ws (words_for n) inside in
    let sum : words_for n + words_for (words_for n) + (tree_words a (words_for n) - words_for (words_for n)) ≡ tree_words (suc a) n = omega (arith, words_in a (words_for n)) in
    sym (drop-drop (tree_words a (words_for n)) (words_for n) (rebuilt (suc a) n ws))
    ∙ ap (λ (l : List ℕ). drop (tree_words a (words_for n)) l) (drop_at (take (words_for n) ws) _ (words_for n) t)
    ∙ rest_kept a (words_for n) (drop (words_for n) (summed ws (words_for n))) fits
    ∙ ap (λ (l : List ℕ). drop (tree_words a (words_for n)) l) (drop-summed ws (words_for n) inside)
    ∙ ap (λ (k : ℕ). drop k (packed (full_bit ws (words_for n)) (words_for (words_for n)) 0 ++ drop (words_for n + words_for (words_for n)) ws))
    {x = tree_words a (words_for n)} {y = length (packed (full_bit ws (words_for n)) (words_for (words_for n)) 0) + (tree_words a (words_for n) - words_for (words_for n))}
    (omega (arith, words_in a (words_for n)))
    ∙ drop-append-add (packed (full_bit ws (words_for n)) (words_for (words_for n)) 0) (drop (words_for n + words_for (words_for n)) ws) (tree_words a (words_for n) - words_for (words_for n))
    ∙ drop-drop (tree_words a (words_for n) - words_for (words_for n)) (words_for n + words_for (words_for n)) ws
    ∙ ap (λ (k : ℕ). drop k ws) sum
