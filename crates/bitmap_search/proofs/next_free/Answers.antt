-- `bitmap_search::next_free` meets its contract.
use Rattle.bitmap_search.specs.Search.{torn, next_of}
use Rattle.std.specs.Prelude.{Ok, Some, None}
use mathlib.Core.Path.{◌≡◌, refl, sym, ap, ◌∙◌}
use native.Mathlib.Omega.{arith}
use mathlib.Core.List.{List}
use Prim.Native.Nat.{ℕ, ◌<◌, ◌^◌}
use lib.ListN.{get_or}
use borrow.Author.Tests.{lt-ltb, le-ltb}
use Rattle.bitmap_search.specs.declared.BitPtr.{BitPtr}
use Rattle.bitmap_search.specs.Search.{Next}
use Rattle.bitmap_search.specs.Scan.{Found}
use Rattle.bitmap_search.specs.Pointer.{index_of, ptr_to}
use Rattle.bitmap_search.specs.Search.{forwarded, block_at, SearchPromise}
use Rattle.bitmap_search.proofs.Moves.{handed_bound, answered, promised}
use Rattle.bitmap_search.proofs.next_free.Goals as goal

pub forward-requires : goal.forward-requires
forward-requires c =
    let e = ap (λ (p : BitPtr). p.low.bit) c.to.ensures in
    record {
      n_in_bounds = (c.requires, omega arith);
      level_bound = omega arith;
    }

pub index-k-requires : goal.index-k-requires
index-k-requires c =
    let a = c.args in
    let h = handed_bound a.above a.s.now a.n c.to.result c.in-At.q 0 (sym (ap next_of c.in-At.is) ∙ c.forward.ensures) in
    let e = ap index_of c.at.ensures in
    omega (arith, h)

-- an answer that the pointer's way leads to keeps the promise
module _ (above : ℕ) (ws : List ℕ) (n place : ℕ) (fits : (i : ℕ) → get_or ws i 0 < 2 ^ 32) (p : BitPtr) (to : p ≡ ptr_to place)
    (y : Next) (found : y ≡ forwarded above ws n p 0) where
  promise : (x : Next) (r : Found) → y ≡ x → r ≡ block_at n x → SearchPromise above ws n place r
  promise x r e f = promised above ws n place r fits (f ∙ answered above ws n place p y x to found e)

pub returns-then-k-n : goal.returns-then-k-n
returns-then-k-n c =
    let a = c.args in
    let e = c.index-k.ensures ∙ ap index_of c.at.ensures in
    promise a.above a.s.now a.n a.place (λ i. omega (arith, c.type_inv.s i)) c.to.result c.to.ensures (next_of c.forward.result) c.forward.ensures
    (Ok (Some c.in-At.q)) (Ok (Some c.index-k.result)) (ap next_of c.in-At.is) (rw (← e, lt-ltb _ _ c.if-k-n.true))

pub returns-else-k-n : goal.returns-else-k-n
returns-else-k-n c =
    let a = c.args in
    let e = c.index-k.ensures ∙ ap index_of c.at.ensures in
    promise a.above a.s.now a.n a.place (λ i. omega (arith, c.type_inv.s i)) c.to.result c.to.ensures (next_of c.forward.result) c.forward.ensures
    (Ok (Some c.in-At.q)) torn (ap next_of c.in-At.is) (rw (← e, le-ltb _ _ c.if-k-n.false))

pub returns-in-Nothing : goal.returns-in-Nothing
returns-in-Nothing c =
    let a = c.args in
    promise a.above a.s.now a.n a.place (λ i. omega (arith, c.type_inv.s i)) c.to.result c.to.ensures (next_of c.forward.result) c.forward.ensures
    (Ok None) (Ok None) (ap next_of c.in-Nothing.is) refl

pub returns-in-Torn : goal.returns-in-Torn
returns-in-Torn c =
    let a = c.args in
    promise a.above a.s.now a.n a.place (λ i. omega (arith, c.type_inv.s i)) c.to.result c.to.ensures (next_of c.forward.result) c.forward.ensures
    torn torn (ap next_of c.in-Torn.is) refl
