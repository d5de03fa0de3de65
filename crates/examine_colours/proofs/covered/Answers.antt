-- `examine_colours::covered` meets its contract.
use Rattle.layout.specs.Mem.{mem_of}
use Rattle.examine_colours.proofs.Meaning.{second_room, second_known, second_fails, second_roots, second_all}
use Rattle.examine_colours.proofs.covered.Goals as goal

pub returns-then-not-entries_behind : goal.returns-then-not-entries_behind
returns-then-not-entries_behind c =
    let a = c.args in
    let g = a.g in
    second_fails g a.mem.now a.n a.scratch.now c.requires.0 (mem_of g a.mem.now) c.requires.1
    c.entries_behind.new.scratch c.entries_behind.auto.scratch _
    c.entries_behind.ensures c.if-not-entries_behind.true

pub returns-then-not-roots_in : goal.returns-then-not-roots_in
returns-then-not-roots_in c =
    let a = c.args in
    let g = a.g in
    second_roots g a.mem.now a.n a.scratch.now c.requires.0 (mem_of g a.mem.now) c.requires.1
    c.entries_behind.new.scratch c.entries_behind.auto.scratch _
    c.entries_behind.ensures c.if-not-entries_behind.false _ c.roots_in.ensures
    c.if-not-roots_in.true

pub pointers_in-requires : goal.pointers_in-requires
pointers_in-requires c =
    let a = c.args in
    let g = a.g in
    let m = mem_of g a.mem.now in (
      second_room g a.mem.now a.n a.scratch.now c.requires.0 m c.requires.1
          c.entries_behind.new.scratch c.entries_behind.auto.scratch _
          c.entries_behind.ensures,
      second_known g a.mem.now a.n a.scratch.now c.requires.0 m c.requires.1
          c.entries_behind.new.scratch c.entries_behind.auto.scratch _
          c.entries_behind.ensures,
    )

pub returns : goal.returns
returns c =
    let a = c.args in
    let g = a.g in
    second_all g a.mem.now a.n a.scratch.now c.requires.0 (mem_of g a.mem.now) c.requires.1
    c.entries_behind.new.scratch c.entries_behind.auto.scratch _
    c.entries_behind.ensures c.if-not-entries_behind.false _ c.roots_in.ensures
    c.if-not-roots_in.false _ c.pointers_in.ensures
