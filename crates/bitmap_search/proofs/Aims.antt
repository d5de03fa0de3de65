-- The pointer that the search hands back points to its block at every level, over words of any content: above each bit stands the
-- bit of its word.
use Rattle.bitmap_search.specs.Search.{torn}
use Rattle.std.specs.Prelude.{Ok, Err, Some, None}
use mathlib.Core.Path.{◌≡◌, refl, sym, ap, ◌∙◌, subst}
use mathlib.Core.Bool.{Bool, true, false}
use mathlib.Core.List.{List}
use Prim.Native.Nat.{ℕ, zero, suc, ◌+◌, ◌*◌, ◌/◌, ◌%◌, ◌≤◌, ◌<◌}
use native.Mathlib.Omega.{arith}
use lib.Dec.{ltb}
use lib.ListN.{get_or, drop}
use borrow.Author.Tests.{ltb-true}
use Rattle.basics.specs.Pick.{pick}
use Rattle.words.specs.Bits.{clear_from}
use Rattle.words.specs.Levels.{words_for}
use Rattle.bitmap_search.specs.declared.BitPos.{BitPos}
use Rattle.bitmap_search.specs.declared.BitPtr.{BitPtr}
use Rattle.bitmap_search.specs.Search.{Next}
use Rattle.bitmap_search.specs.Pointer.{pos_at, with_pos, index_of, pos_of, ptr_to, aimed}
use Rattle.bitmap_search.proofs.Pointers.{pos_with}
use Rattle.bitmap_search.proofs.Forward.{lowered_is}
use Rattle.bitmap_search.specs.Search.{in_word, ahead, climbed, lowered_from, forwarded}

-- a position by its number
pos_index : (j b : ℕ) → b < 32 → ◌≡◌ {A = BitPos} (record { word = j; bit = b }) (pos_of (j * 32 + b))
pos_index j b h =
    let d : j ≡ (j * 32 + b) / 32 = omega arith in
    let m : b ≡ (j * 32 + b) % 32 = omega arith in
    λ i. record { word = d i; bit = m i }

-- where a move led: nowhere, or to a bit of level l with the bits above it, the levels below as p has them
abbrev Aims : BitPtr → ℕ → Next → Type 0
Aims p l (Ok (Some q)) = q ≡ aimed p l (index_of (pos_at q l))
Aims p l (Ok None) = Unit
Aims p l (Err _) = Unit

module _ (p : BitPtr) (l : ℕ) (ws : List ℕ) where
  -- in word j, with the pointer q that has the bits above that word
  at_word : (q : BitPtr) (j i : ℕ) (other : Next) → ((b : ℕ) → b < 32 → with_pos q l (record { word = j; bit = b }) ≡ aimed p l (j * 32 + b))
      → Aims p l other → Aims p l (in_word ws q l j i other)
  at_word q j i other f o = go (clear_from (get_or ws j 0) i) (ltb (clear_from (get_or ws j 0) i) 32) refl
    where
      go : (b : ℕ) (t : Bool) → ltb b 32 ≡ t → Aims p l (pick t (Ok (Some (with_pos q l (record { word = j; bit = b })))) other)
      go b true e = f b (ltb-true b 32 e) ∙ ap (λ (x : BitPos). aimed p l (index_of x)) (sym (pos_with q l (record { word = j; bit = b })))
      go b false e = o

  forth : (n : ℕ) (other : Next) → ((b : ℕ) → b < 32 → with_pos p l (record { word = (pos_at p l).word; bit = b }) ≡ aimed p l ((pos_at p l).word * 32 + b))
      → Aims p l other → Aims p l (ahead ws n p l other)
  forth n other f o = go (ltb (pos_at p l).word (words_for n))
    where
      go : (t : Bool) → Aims p l (pick t (in_word ws p l (pos_at p l).word (pos_at p l).bit other) (Ok None))
      go true = at_word p (pos_at p l).word (pos_at p l).bit other f o
      go false = tt

  down : (m : ℕ) (r : Next)
      → ((q : BitPtr) → r ≡ Ok (Some q) → (b : ℕ) → b < 32 → with_pos q l (record { word = index_of (pos_at q (l + 1)); bit = b }) ≡ aimed p l (index_of (pos_at q (l + 1)) * 32 + b))
      → Aims p l (lowered_from ws m l r)
  down m (Ok (Some q)) f = rw (lowered_is ws m q l) (go (ltb (index_of (pos_at q (l + 1))) m))
    where
      go : (t : Bool) → Aims p l (pick t (in_word ws q l (index_of (pos_at q (l + 1))) 0 torn) torn)
      go true = at_word q (index_of (pos_at q (l + 1))) 0 torn (f q refl) tt
      go false = tt
  down m (Ok None) f = tt
  down m (Err _) f = tt

-- bit b of word k, one level below bit k
module _ (k b : ℕ) (h : b < 32) where
  up : (k * 32 + b) / 32 ≡ k
  up = omega arith

  under_high : (low : BitPos)
      → ◌≡◌ {A = BitPtr} (record { low = low; mid = record { word = k; bit = b }; high = pos_of k })
      (record { low = low; mid = pos_of (k * 32 + b); high = pos_of ((k * 32 + b) / 32) })
  under_high low = let m = pos_index k b h in let u = ap pos_of (sym up) in λ i. record { low = low; mid = m i; high = u i }

  under_mid : ◌≡◌ {A = BitPtr} (record { low = record { word = k; bit = b }; mid = pos_of k; high = pos_of (k / 32) }) (ptr_to (k * 32 + b))
  under_mid =
      let l = pos_index k b h in
      let m = ap pos_of (sym up) in
      let u = ap (λ (x : ℕ). pos_of (x / 32)) (sym up) in
      λ i. record { low = l i; mid = m i; high = u i }

-- the pointer that was found at the level above
found : (p q : BitPtr) (l : ℕ) (r : Next) → r ≡ Ok (Some q) → Aims p l r → q ≡ aimed p l (index_of (pos_at q l))
found p q l r e a = subst (Aims p l) e a

-- the three levels, from the highest
aims2 : (ws : List ℕ) (n : ℕ) (p : BitPtr) → Aims p 2 (forwarded 0 ws n p 2)
unfolding forwarded
aims2 ws n p = forth p 2 ws n (Ok None) (λ b h. ap (λ (x : BitPos). record { low = p.low; mid = p.mid; high = x }) (pos_index p.high.word b h)) tt

aims1 : (a : ℕ) → a ≤ 1 → (ws : List ℕ) (n : ℕ) (p : BitPtr) → p.high ≡ pos_of p.mid.word → Aims p 1 (forwarded a ws n p 1)
unfolding forwarded climbed
aims1 zero l ws n p e = forth p 1 ws n (Ok None) (λ b h. rw e (under_high p.mid.word b h p.low)) tt
aims1 (suc zero) l ws n p e =
    let r = forwarded 0 (drop (words_for n) ws) (words_for n) (climbed p 1) 2 in
    forth p 1 ws n (lowered_from ws (words_for n) 1 r) (λ b h. rw e (under_high p.mid.word b h p.low))
    (down p 1 ws (words_for n) r (λ q f b h.
    let s = found (climbed p 1) q 2 r f (aims2 (drop (words_for n) ws) (words_for n) (climbed p 1)) in
    ap (λ (x : BitPtr). record { low = x.low; mid = record { word = index_of q.high; bit = b }; high = x.high }) s ∙ under_high (index_of q.high) b h p.low))
aims1 (suc (suc a)) l ws n p e = absurd (omega arith)

-- the search hands back the pointer to the block that it found
pub aims_block : (a : ℕ) → a ≤ 2 → (ws : List ℕ) (n place : ℕ) (q : BitPtr) → forwarded a ws n (ptr_to place) 0 ≡ Ok (Some q) → q ≡ ptr_to (index_of (pos_at q 0))
unfolding forwarded climbed
aims_block a l ws n place q e = found (ptr_to place) q 0 (forwarded a ws n (ptr_to place) 0) e (aims0 a l)
  where
    here : (b : ℕ) → b < 32 → with_pos (ptr_to place) 0 (record { word = place / 32; bit = b }) ≡ ptr_to (place / 32 * 32 + b)
    here b h = under_mid (place / 32) b h

    aims0 : (a : ℕ) → a ≤ 2 → Aims (ptr_to place) 0 (forwarded a ws n (ptr_to place) 0)
    aims0 zero l = forth (ptr_to place) 0 ws n (Ok None) here tt
    aims0 (suc a) l =
        let p = climbed (ptr_to place) 0 in
        let r = forwarded a (drop (words_for n) ws) (words_for n) (climbed (ptr_to place) 0) 1 in
        forth (ptr_to place) 0 ws n (lowered_from ws (words_for n) 0 r) here
        (down (ptr_to place) 0 ws (words_for n) r (λ q f b h.
        let s = found (climbed (ptr_to place) 0) q 1 r f (aims1 a (omega arith) (drop (words_for n) ws) (words_for n) (climbed (ptr_to place) 0) refl) in
        ap (λ (x : BitPtr). record { low = record { word = index_of q.mid; bit = b }; mid = x.mid; high = x.high }) s ∙ under_mid (index_of q.mid) b h))
