-- The guarantee and the theorems beside it, applied to document 01's whole case in one segment of 32 KiB. What the memory is at the start is
-- computed; the room, the block that was not reached, the one sweep, the free block, the totals and the bound are what the theorems say.
use mathlib.Core.Path.{◌≡◌, refl, sym, ◌∙◌, ap}
use mathlib.Core.Logic.{inr}
use mathlib.Core.Option.{some-injective}
use mathlib.Core.List.{List}
use Prim.Native.Nat.{ℕ}
use native.Mathlib.Omega.{arith}
use native.Mathlib.Decide.{ℕ_discrete}
use lib.ListN.{length, take, drop}
use Rattle.std.specs.Prelude.{Ok, Err}
use Rattle.layout.specs.declared.Geometry.{Geometry}
use Rattle.layout.specs.Geometry.{large_kib, total, blocks_in}
use Rattle.layout.specs.Mem.{Mem, mem_of}
use Rattle.layout.proofs.Regions.{right_size}
use Rattle.theory.specs.Calls.{c_check, c_make, require, if_record}
use Rattle.theory.specs.Update.{upd}
use Rattle.theory.specs.Unbounded.{empty, uexec, uanswers}
use Rattle.theory.proofs.Invariant.{none_some}
use Rattle.model.specs.declared.Answer.TheVariants.{Done}
use Rattle.model.specs.declared.Refusal.TheVariants.{NoRoom}
use Rattle.model.specs.Fields.{tag, class}
use Rattle.model.specs.Lists.{Element, call_element, Ghost, ghost_start, by_opening, ghost_after}
use Rattle.model.proofs.Collecting.{collects_is, full_collected}
use Rattle.guarantee.specs.Demand3.{struck_out, SweptIn}
use Rattle.guarantee.specs.Totals.{sum_over}
use Rattle.guarantee.specs.Keeping.{Applied, EndedIn}
use Rattle.guarantee.proofs.Beginning.{opened_point}
use Rattle.guarantee.proofs.Cycle.{cycle_of}
use Rattle.guarantee.proofs.Guarantee.{guarantee}
use Rattle.guarantee.proofs.SweptOnce.{swept_once}
use Rattle.guarantee.proofs.Keeping.{opening_establishes, no_room_exactly}
use Rattle.model_cases.specs.Replies.{replies, inputs, outputs, large_geometry, sevens}
use Rattle.guarantee_cases.specs.Columns.{left_column, right_column}
use Rattle.guarantee_cases.specs.Consequences.{Answered}
use Rattle.guarantee_cases.specs.Large.{large, OfLarge}
use Rattle.guarantee_cases.proofs.Instance.{swept_at, ended_at, check_heap}
use Rattle.guarantee_cases.proofs.GarbageFound.{Found, found}
use Rattle.guarantee_cases.proofs.Along.{applied_to, along}
use Rattle.guarantee_cases.proofs.Totals.{of_totals}
use Rattle.guarantee_cases.proofs.CycleBound.{memories_of, nth, Known, known, elements, Case, alone, both, of_cycle}
use Rattle.model.specs.Tag as Tag

abbrev g : Geometry
g = large_geometry 1

large_holds : replies g (sevens g) (inputs large) ≡ outputs large
unfolding replies
large_holds = refl

column : uanswers empty (left_column large) ≡ right_column large
unfolding require if_record upd ℕ_discrete
column = refl

pub large_answered : Answered large
large_answered g words es b ch e = guarantee.answers g words ghost_start es b ch ∙ ap (uanswers empty) e ∙ column

-- what is computed: the segment at the start, and its blocks
record AtStart (h : Geometry) (m : Mem) : Type 0 where
  one : h.segments ≡ 1
  size : h.kib ≡ large_kib
  long : total h ≡ 13621
  eight : blocks_in h 12 ≡ 8
  full : tag m 0 ≡ Tag.full
  classed : class m 0 ≡ 12

-- ---- the case: the eighth make (8) and the ninth (9), the start (14), the sweep (28), done (29)

module _ (h : Geometry) (k : Known h large) (w : AtStart h (mem_of h (k.0.at 14))) where
  abbrev at : ℕ → List ℕ
  at = k.0.at

  abbrev calls : List Element
  calls = elements h large k

  abbrev eighth : Element
  eighth = call_element (c_make 0 7 1 600) h (at 8) (Ok Done) (at 9)

  abbrev ninth : Element
  ninth = call_element (c_make 0 8 1 600) h (at 9) (Err NoRoom) (at 10)

  eighth_applied : Applied h (at 8) eighth
  eighth_applied = applied_to h (at 0) ghost_start calls (by_opening k.0.opened) k.0.chain (take 8 calls) (drop 9 calls) eighth refl (λ e. none_some e)

  ninth_applied : Applied h (at 9) ninth
  ninth_applied =
      applied_to h (at 0) ghost_start calls (by_opening k.0.opened) k.0.chain (take 9 calls) (drop 10 calls) ninth refl
      (λ e. let y : ◌≡◌ {A = ℕ} 10 1 = some-injective 10 1 e in omega arith)

  abbrev swept_in : SweptIn h calls
  swept_in = swept_at h at calls 14 13 0 1 refl refl

  abbrev ended : EndedIn h calls
  ended = ended_at h at calls 14 14 refl refl

  abbrev then : Ghost
  then = ghost_after struck_out ghost_start (take 14 calls)

  still : ghost_after struck_out then (take 13 (drop 15 calls)) ≡ then
  still = λ i. record { heap = (check_heap (uexec then.heap (c_check 0)).1 0 ∙ check_heap then.heap 0) i; put = then.put }

  -- the sweep freed one block: it was garbage
  garbage : Found h (mem_of h (at 14)) then 0
  garbage =
      found h (at 0) ghost_start calls swept_in (cycle_of h (at 0) ghost_start calls swept_in (by_opening k.0.opened) k.0.chain) still 0 refl w.full

  abbrev case : Case
  case = alone h large k 14 15

  of_large : both case (memories_of h large) ≡ (8, 1) → OfLarge
  of_large computed =
      let b = by_opening k.0.opened in
      let o = opened_point h k.0.content (at 0) k.0.opened in
      let t = sym (collects_is (mem_of h (at 14)) 0) ∙ full_collected (mem_of h (at 14)) 0 w.full in
      record {
        geometry = h;
        content = k.0.content;
        words = at 0;
        calls = calls;
        opened = k.0.opened;
        begins = b;
        chain = k.0.chain;
        size = (w.one, w.size, o.long.is ∙ w.long);
        opens = opening_establishes h k.0.content (at 0) k.0.opened;
        along = along h (at 0) ghost_start calls b k.0.chain;
        remaining = refl;
        answers = large_answered h (at 0) calls b k.0.chain refl;
        eight = w.eight;
        early = take 8 calls;
        late = drop 10 calls;
        before_eighth = at 8;
        before_ninth = at 9;
        after_ninth = at 10;
        makes = refl;
        room = λ q. none_some (no_room_exactly.whenever h (at 8) (at 9) 0 7 1 600 (Ok Done) eighth_applied q);
        no_room = no_room_exactly.only h (at 9) (at 10) 0 8 1 600 (Err NoRoom) ninth_applied refl;
        cycle = swept_in;
        swept = (refl, refl);
        full = (w.full, w.classed);
        block = garbage.block;
        unreached = garbage.unreached;
        used = garbage.used;
        freed = guarantee.frees h (at 0) ghost_start calls b k.0.chain swept_in 0 garbage.block t garbage.unreached refl;
        ended = ended;
        once = swept_once h (at 0) calls (right_size h (length (at 0)) o.long) o.consistent k.0.chain ended 0 t;
        totals = of_totals h large k.0 calls k.0.chain 8 1 7 refl refl refl refl refl;
        bound = of_cycle case refl refl refl refl refl refl refl computed;
        same = (refl, refl);
      }

-- ---- over one segment of sevens

large_known : Known g large
large_known = known g large (omega arith) (omega arith) (inr refl) large_holds

at_start_lem : (m : Mem) → m ≡ nth (sevens g) (memories_of g large) 14 → AtStart g m
unfolding replies
at_start_lem m e = record { one = refl; size = refl; long = refl; eight = refl; full = ap (λ x. tag x 0) e; classed = ap (λ x. class x 0) e }

-- B and C, by computing
both_are : both (alone g large large_known 14 15) (memories_of g large) ≡ (8, 1)
unfolding replies sum_over
both_are = refl

pub large_consequences : OfLarge
large_consequences = of_large g large_known (at_start_lem _ (large_known.1 14)) both_are
