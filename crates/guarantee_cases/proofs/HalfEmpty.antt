-- The guarantee and the theorems beside it, applied to request No. 5's own case. What the memory is at its points is computed; that the block was not
-- reached, that there is no room, the one sweep and the free block are what the theorems say.
use mathlib.Core.Path.{◌≡◌, refl, sym, ◌∙◌, ap, subst}
use mathlib.Core.Bool.{true}
use mathlib.Core.Logic.{inl, inr}
use mathlib.Core.Option.{some-injective}
use mathlib.Core.List.{List, tail}
use Prim.Native.Nat.{ℕ, ◌<◌}
use native.Mathlib.Omega.{arith}
use native.Mathlib.Decide.{ℕ_discrete}
use lib.ListN.{length, take, drop}
use Rattle.std.specs.Prelude.{Some, Err}
use Rattle.layout.specs.declared.Geometry.{Geometry}
use Rattle.layout.specs.Geometry.{blocks_in}
use Rattle.layout.specs.Mem.{Mem, mem_of}
use Rattle.layout.proofs.Regions.{right_size}
use Rattle.theory.specs.Calls.{c_check, c_make, require, if_record}
use Rattle.theory.specs.Update.{upd}
use Rattle.theory.specs.Unbounded.{empty, uexec, uanswers}
use Rattle.model.specs.Fields.{tag, class, place}
use Rattle.model.specs.Consistent.{is_free}
use Rattle.model.specs.Opening.{opened}
use Rattle.model.specs.Lists.{Element, call_element, Ghost, ghost_start, by_opening, ghost_after}
use Rattle.model.specs.Run.{Command}
use Rattle.model.proofs.Collecting.{collects_is, part_collected}
use Rattle.model.proofs.InUse.{used_before}
use Rattle.guarantee.specs.Demand3.{struck_out, Unreached, SweptIn}
use Rattle.guarantee.specs.Keeping.{Applied, EndedIn, OutOfRoom}
use Rattle.guarantee.proofs.Beginning.{opened_point}
use Rattle.guarantee.proofs.Cycle.{cycle_of}
use Rattle.guarantee.proofs.Guarantee.{guarantee}
use Rattle.guarantee.proofs.SweptOnce.{swept_once}
use Rattle.guarantee.proofs.Keeping.{no_room_exactly}
use Rattle.model_cases.specs.Replies.{Reply, replies, inputs, outputs, geometry, sevens}
use Rattle.model_cycles.specs.PartCycles.{long_after_short}
use Rattle.model_cycles.proofs.PartCycles.{long_after_short-holds}
use Rattle.guarantee_cases.specs.Columns.{left_column, right_column}
use Rattle.guarantee_cases.specs.HalfEmpty.{OfHalfEmpty}
use Rattle.guarantee_cases.proofs.CaseRun.{commands_in, elements_of, CaseRun, memory_at, case_known}
use Rattle.guarantee_cases.proofs.Instance.{swept_at, ended_at, check_heap, sizes_sevens}
use Rattle.guarantee_cases.proofs.GarbageFound.{unreached_at}
use Rattle.guarantee_cases.proofs.Along.{applied_to, along}
use Rattle.model.specs.Tag as Tag
use Rattle.model.specs.declared.Refusal.TheVariants.{NoRoom}

abbrev asked : List Command
asked = commands_in (inputs long_after_short)

abbrev replied : List Reply
replied = tail (outputs long_after_short)

column : uanswers empty (left_column long_after_short) ≡ right_column long_after_short
unfolding require if_record upd ℕ_discrete
column = refl

-- what is computed: the memory before and after the start, after the sweep, and after the long record's make
record Points (g : Geometry) (before after swept last : Mem) : Type 0 where
  one : g.segments ≡ 1
  blocks : blocks_in g 9 ≡ 32
  part : tag before 0 ≡ Tag.part
  classed : class before 0 ≡ 9
  places : (place before 0 ≡ 3) × (place after 0 ≡ 3)
  condemned : tag after 0 ≡ Tag.condemned
  free : is_free swept 0 ≡ true
  taken : (tag last 0 ≡ Tag.full) × (class last 0 ≡ 14)

-- ---- the case: a long record refused (7), the start (8), a short one refused (10), the sweep (16), done (18), the long record (19)

module _ (g : Geometry) (p : CaseRun g asked replied) (w : Points g (mem_of g (p.at 8)) (mem_of g (p.at 9)) (mem_of g (p.at 17)) (mem_of g (p.at 20)))
    (looked : mem_of g (p.at 10) ≡ mem_of g (p.at 9)) where
  abbrev at : ℕ → List ℕ
  at = p.at

  abbrev elements : List Element
  elements = elements_of g at asked replied

  abbrev long : Element
  long = call_element (c_make 1 0 0 4095) g (at 7) (Err NoRoom) (at 8)

  long_applied : Applied g (at 7) long
  long_applied =
      applied_to g (at 0) ghost_start elements (by_opening p.opened) p.chain (take 7 elements) (drop 8 elements) long refl
      (λ e. let y : ◌≡◌ {A = ℕ} 10 1 = some-injective 10 1 e in omega arith)

  abbrev short : Element
  short = call_element (c_make 1 0 1 63) g (at 10) (Err NoRoom) (at 11)

  short_applied : Applied g (at 10) short
  short_applied =
      applied_to g (at 0) ghost_start elements (by_opening p.opened) p.chain (take 10 elements) (drop 11 elements) short refl
      (λ e. let y : ◌≡◌ {A = ℕ} 10 1 = some-injective 10 1 e in omega arith)

  abbrev swept_in : SweptIn g elements
  swept_in = swept_at g at elements 8 7 0 3 refl refl

  abbrev ended : EndedIn g elements
  ended = ended_at g at elements 8 9 refl refl

  abbrev then : Ghost
  then = ghost_after struck_out ghost_start (take 8 elements)

  -- two checks, and what is struck out
  still : ghost_after struck_out then (take 7 (drop 9 elements)) ≡ then
  still = λ i. record { heap = (check_heap (uexec then.heap (c_check 1)).1 1 ∙ check_heap then.heap 1) i; put = then.put }

  unreached : (b : ℕ) → b < 3 → Unreached g (mem_of g (at 8)) then 0 b
  unreached b l =
      unreached_at g (at 0) ghost_start elements swept_in (cycle_of g (at 0) ghost_start elements swept_in (by_opening p.opened) p.chain) still
      b (let e = w.blocks in let c = ap (blocks_in g) w.classed in omega arith) (inr w.free)

  -- the part segment is of the short one's class
  had_room_lem : OutOfRoom g (mem_of g (at 8)) 1 0 1 63 → ⊥
  had_room_lem o =
      let e : Some o.class ≡ Some 9 = sym o.sized ∙ refl in
      let c : o.class ≡ 9 = cc in
      o.no_room.no_part 0 (let e = w.one in omega arith) w.part (w.classed ∙ sym c)

  of_half_empty : OfHalfEmpty
  of_half_empty =
      let o = opened_point g p.content (at 0) p.opened in
      let t = sym (collects_is (mem_of g (at 8)) 0) ∙ part_collected (mem_of g (at 8)) 0 w.part in
      let none : OutOfRoom g (mem_of g (at 10)) 1 0 1 63 = no_room_exactly.only g (at 10) (at 11) 1 0 1 63 (Err NoRoom) short_applied refl in
      record {
        geometry = g;
        content = p.content;
        words = at 0;
        calls = elements;
        opened = p.opened;
        chain = p.chain;
        along = along g (at 0) ghost_start elements (by_opening p.opened) p.chain;
        remaining = refl;
        answers = guarantee.answers g (at 0) ghost_start elements (by_opening p.opened) p.chain ∙ column;
        cycle = swept_in;
        one = w.one;
        part = (w.part, w.classed);
        early = take 7 elements;
        long_before = at 7;
        refused = refl;
        no_room = no_room_exactly.only g (at 7) (at 8) 1 0 0 4095 (Err NoRoom) long_applied refl;
        unreached = unreached;
        used = λ b l. used_before g (mem_of g (at 8)) 0 b (let e = w.places.0 in omega arith);
        condemned = w.condemned;
        keeps_place = w.places;
        had_room = had_room_lem;
        has_none = subst (λ x. OutOfRoom g x 1 0 1 63) looked none;
        ended = ended;
        once = swept_once g (at 0) elements (right_size g (length (at 0)) o.long) o.consistent p.chain ended 0 t;
        freed = λ b l. guarantee.frees g (at 0) ghost_start elements (by_opening p.opened) p.chain swept_in 0 b t (unreached b l) refl;
        three = refl;
        free = w.free;
        between = take 2 (drop 17 elements);
        late = drop 20 elements;
        take_before = at 19;
        take_after = at 20;
        takes = refl;
        taken = w.taken;
      }

-- ---- over one segment of sevens

abbrev memory : ℕ → Mem
memory = memory_at (geometry 1) (opened (geometry 1) (sevens (geometry 1))) asked

known : (p : CaseRun (geometry 1) asked replied) × ((n : ℕ) → mem_of (geometry 1) (p.at n) ≡ memory n)
known = case_known (geometry 1) (omega arith) (omega arith) (inl refl) (sevens (geometry 1)) (sizes_sevens (geometry 1)) asked replied long_after_short-holds

points : (a b c d : Mem) → a ≡ memory 8 → b ≡ memory 9 → c ≡ memory 17 → d ≡ memory 20 → Points (geometry 1) a b c d
unfolding replies
points a b c d ea eb ec ed = record {
  one = refl;
  blocks = refl;
  part = ap (λ x. tag x 0) ea;
  classed = ap (λ x. class x 0) ea;
  places = (ap (λ x. place x 0) ea, ap (λ x. place x 0) eb);
  condemned = ap (λ x. tag x 0) eb;
  free = ap (λ x. is_free x 0) ec;
  taken = (ap (λ x. tag x 0) ed, ap (λ x. class x 0) ed);
}

-- a look changes nothing
looked : mem_of (geometry 1) (known.0.at 10) ≡ mem_of (geometry 1) (known.0.at 9)
looked = known.1 10 ∙ sym (known.1 9)

pub half_empty_consequences : OfHalfEmpty
half_empty_consequences = of_half_empty (geometry 1) known.0 (points _ _ _ _ (known.1 8) (known.1 9) (known.1 17) (known.1 20)) looked
