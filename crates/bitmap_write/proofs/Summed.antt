-- The level above a level's words, as it is written behind them word by word.
use mathlib.Core.Path.{◌≡◌, refl, sym, ap, ◌∙◌}
use mathlib.Core.List.{List, ◌++◌, append_assoc}
use Prim.Native.Nat.{ℕ, ◌+◌, ◌*◌, ◌≤◌, ◌<◌}
use native.Mathlib.Numerals.{add-one}
use native.Mathlib.Omega.{arith}
use lib.ListN.{length, get_or, set, take, drop, get_or-append}
use lib.Seq.{paste, paste-suc, length-paste, length_paste_head, length-take-le, get_or-take, take-length, take_at, drop_at}
use Rattle.words.specs.Levels.{words_for}
use Rattle.bitmap_write.specs.Rebuild.{word_from, packed, full_bit, summed}
use Rattle.bitmap_write.proofs.Packed.{length-packed, packed_at, full_same, word_same}

module _ (s : List ℕ) (m : ℕ) (room : m + words_for m ≤ length s) where
  -- the level above
  abbrev pub upper : List ℕ
  upper = packed (full_bit s m) (words_for m) 0

  pub length-upper : length upper ≡ words_for m
  length-upper = length-packed (full_bit s m) (words_for m) 0

  -- a word below m is as it was
  pub paste_below : (j i : ℕ) → j ≤ words_for m → i < m → get_or (paste s m upper j) i 0 ≡ get_or s i 0
  paste_below j i l h =
      let e : length (take m s) ≡ m = length-take-le m s (omega arith) in
      let f : length (take m s ++ take j upper) ≡ m + j = length_paste_head s m upper j (omega arith) (omega (arith, length-upper)) in
      get_or-append (take m s ++ take j upper) (drop (m + j) s) 0 i (omega arith)
      ∙ get_or-append (take m s) (take j upper) 0 i (omega arith)
      ∙ get_or-take m s i 0 h

  pub paste_length : (j : ℕ) → j ≤ words_for m → length (paste s m upper j) ≡ length s
  paste_length j l = length-paste s m upper j (omega arith) (omega (arith, length-upper))

  -- one word more
  pub sum_step : (t : List ℕ) (j w : ℕ) → t ≡ paste s m upper j → j < words_for m → w ≡ word_from (full_bit t m) 32 (j * 32)
      → set t (m + j) w ≡ paste s m upper (j + 1)
  sum_step t j w e h q =
      let f : w ≡ get_or upper j 0 =
      q ∙ word_same (full_bit t m) (full_bit s m)
      (λ k. full_same t s m k (λ i l. ap (λ (x : List ℕ). get_or x i 0) e ∙ paste_below j i (omega arith) l)) 32 (j * 32)
      ∙ ap (λ (x : ℕ). word_from (full_bit s m) 32 x) (omega arith)
      ∙ sym (packed_at (full_bit s m) (words_for m) 0 j h) in
      rw (e, f, add-one j) (paste-suc s m upper j 0 (omega arith) (omega (arith, length-upper)))

  pub sum_done : paste s m upper (words_for m) ≡ summed s m
  unfolding summed
  sum_done = refl

  pub length-summed : length (summed s m) ≡ length s
  length-summed = rw (← sum_done) (paste_length (words_for m) (omega arith))

  -- what stands behind the first m words: the level above, and the rest as it was
  pub drop-summed : drop m (summed s m) ≡ upper ++ drop (m + words_for m) s
  drop-summed =
      let e : take (words_for m) upper ≡ upper = ap (λ (k : ℕ). take k upper) (sym length-upper) ∙ take-length upper in
      rw (← sum_done, e, append_assoc (take m s) upper (drop (m + words_for m) s)) (drop_at (take m s) (upper ++ drop (m + words_for m) s) m (length-take-le m s (omega arith)))

  pub take-summed : take m (summed s m) ≡ take m s
  take-summed =
      let e : take (words_for m) upper ≡ upper = ap (λ (k : ℕ). take k upper) (sym length-upper) ∙ take-length upper in
      rw (← sum_done, e, append_assoc (take m s) upper (drop (m + words_for m) s)) (take_at (take m s) (upper ++ drop (m + words_for m) s) m (length-take-le m s (omega arith)))
