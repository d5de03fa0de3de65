-- `examine_search::turn` meets its contract.
use Prim.Native.Nat.{◌-◌, ◌+◌}
use lib.ListN.{length}
use Rattle.layout.specs.Mem.{mem_of}
use Rattle.layout.proofs.Sizes.{heap_most}
use Rattle.examine_search.proofs.Steps.{base_is, turn_room, turn_record, turn_edges, turn_valid, turn_came}
use native.Mathlib.Omega.{arith}
use Rattle.examine_search.proofs.turn.Goals as goal

pub overflow_sub-i : goal.overflow_sub-i
overflow_sub-i c = omega (arith, c.trace_words.ensures, c.requires.0.room)

pub overflow_add-i : goal.overflow_add-i
overflow_add-i c =
    let a = c.args in
    omega (
      arith,
      base_is a.g _ _ c.requires.0.room c.trace_words.ensures,
      c.requires.0.room,
      turn_room a.g (mem_of a.g a.mem.now) a.scratch.now a.top c.requires.1 c.requires.2 _
          (base_is a.g _ _ c.requires.0.room c.trace_words.ensures),
      c.well_formed,
    )

pub offset_bounds-scratch-i : goal.offset_bounds-scratch-i
offset_bounds-scratch-i c =
    let a = c.args in
    omega (
      arith,
      base_is a.g _ _ c.requires.0.room c.trace_words.ensures,
      c.requires.0.room,
      turn_room a.g (mem_of a.g a.mem.now) a.scratch.now a.top c.requires.1 c.requires.2 _
          (base_is a.g _ _ c.requires.0.room c.trace_words.ensures),
      c.well_formed,
    )

pub bounds-scratch-i : goal.bounds-scratch-i
bounds-scratch-i c =
    let a = c.args in
    omega (
      arith,
      base_is a.g _ _ c.requires.0.room c.trace_words.ensures,
      c.requires.0.room,
      turn_room a.g (mem_of a.g a.mem.now) a.scratch.now a.top c.requires.1 c.requires.2 _
          (base_is a.g _ _ c.requires.0.room c.trace_words.ensures),
    )

pub overflow_cast-at : goal.overflow_cast-at
overflow_cast-at c = omega (arith, c.slice_known-2-1.given (length c.args.scratch.now - c.trace_words.result + (c.args.top - 1)))

pub pointers-count-requires : goal.pointers-count-requires
pointers-count-requires c =
    let a = c.args in (
      c.requires.0.sized,
      turn_record a.g (mem_of a.g a.mem.now) a.scratch.now a.top c.requires.1 c.requires.2 _
          (base_is a.g _ _ c.requires.0.room c.trace_words.ensures),
    )

pub overflow_add-at : goal.overflow_add-at
overflow_add-at c =
    let a = c.args in
    omega (
      arith,
      turn_edges a.g (mem_of a.g a.mem.now) a.scratch.now a.top c.requires.1 c.requires.2 _
          (base_is a.g _ _ c.requires.0.room c.trace_words.ensures) a.edges,
      heap_most a.g c.requires.0.sized.few,
    )

pub follow_run-requires : goal.follow_run-requires
follow_run-requires c =
    let a = c.args in
    let m = mem_of a.g a.mem.now in
    let b = base_is a.g _ _ c.requires.0.room c.trace_words.ensures in (
      c.requires.0,
      turn_valid a.g m a.scratch.now a.top c.requires.1 c.requires.2 _ b,
      omega (arith, turn_edges a.g m a.scratch.now a.top c.requires.1 c.requires.2 _ b a.edges, c.pointers-count.ensures),
    )

pub returns : goal.returns
returns c =
    let a = c.args in
    let m = mem_of a.g a.mem.now in
    let b = base_is a.g _ _ c.requires.0.room c.trace_words.ensures in
    turn_came a.g m a.scratch.now a.top c.requires.1 c.requires.2 _ b a.edges _ c.pointers-count.ensures
    c.follow_run.result c.follow_run.new.scratch
    c.follow_run.ensures
