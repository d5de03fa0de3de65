-- `examine_record::is_used` meets its contract.
use Rattle.layout.specs.Mem.{mem_of}
use Rattle.layout.proofs.Sizes.{most_small}
use Rattle.examine_record.proofs.Testing.{used_before, used_by, lent, lent_room}
use native.Mathlib.Omega.{arith}
use Rattle.examine_record.proofs.is_used.Goals as goal

pub returns-then-b-place : goal.returns-then-b-place
returns-then-b-place c = used_before c.args.g (mem_of c.args.g c.args.mem.now) c.args.s c.args.b _ c.place.ensures c.if-b-place.true

pub offset_bounds-mem-a : goal.offset_bounds-mem-a
offset_bounds-mem-a c =
    let t = lent c.args.g c.args.mem.now c.requires.0 c.args.s c.requires.1 c.bitmap_from-a.result
    c.bitmap_from-end.result c.bitmap_from-a.ensures c.bitmap_from-end.ensures in
    omega (arith, t.ends, t.within, c.well_formed.0.1)

pub slice_bounds-bit_at-end : goal.slice_bounds-bit_at-end
slice_bounds-bit_at-end c =
    (lent c.args.g c.args.mem.now c.requires.0 c.args.s c.requires.1 c.bitmap_from-a.result
    c.bitmap_from-end.result c.bitmap_from-a.ensures c.bitmap_from-end.ensures).within

pub overflow_cast-b : goal.overflow_cast-b
overflow_cast-b c =
    omega (arith, most_small c.args.g, c.requires.2)

pub bit_at-requires : goal.bit_at-requires
bit_at-requires c =
    let a = c.args in
    lent_room a.g a.mem.now c.requires.0 a.s c.requires.1 c.bitmap_from-a.result
    c.bitmap_from-end.result c.bitmap_from-a.ensures c.bitmap_from-end.ensures a.b
    c.requires.2

pub returns : goal.returns
returns c =
    let a = c.args in
    used_by a.g (mem_of a.g a.mem.now) a.s a.b _ c.place.ensures c.if-b-place.false _
    (rw
    (lent a.g a.mem.now c.requires.0 a.s c.requires.1 c.bitmap_from-a.result
    c.bitmap_from-end.result c.bitmap_from-a.ensures c.bitmap_from-end.ensures).is
    at c.bit_at.ensures)
