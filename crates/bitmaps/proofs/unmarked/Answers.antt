-- `bitmaps::unmarked` meets its contract: each arm asks as many words as a segment of its size has of marks.
use native.Mathlib.Omega.{arith}
use Rattle.bitmaps.proofs.Lent.{marks_large, marks_small, marks_inside, unmarked_words}
use Rattle.bitmaps.proofs.unmarked.Goals as goal

pub overflow_add-b : goal.overflow_add-b
overflow_add-b c =
    let a = c.args in
    let e = marks_inside a.g a.mem.now c.requires.0 a.s c.requires.1 _ 128 c.marks_from-a.ensures (marks_large a.g c.if-g-eq-LARGE_KIB.true) in
    omega (arith, c.well_formed.0.1)

pub offset_bounds-mem-a : goal.offset_bounds-mem-a
offset_bounds-mem-a c =
    let a = c.args in
    let e = marks_inside a.g a.mem.now c.requires.0 a.s c.requires.1 _ 128 c.marks_from-a.ensures (marks_large a.g c.if-g-eq-LARGE_KIB.true) in
    omega (arith, c.well_formed.0.1)

pub slice_bounds-none_set-end : goal.slice_bounds-none_set-end
slice_bounds-none_set-end c =
    let a = c.args in
    let e = marks_inside a.g a.mem.now c.requires.0 a.s c.requires.1 _ 128 c.marks_from-a.ensures (marks_large a.g c.if-g-eq-LARGE_KIB.true) in
    omega arith

pub overflow_add-b-else-g-eq-LARGE_KIB : goal.overflow_add-b-else-g-eq-LARGE_KIB
overflow_add-b-else-g-eq-LARGE_KIB c =
    let a = c.args in
    let e = marks_inside a.g a.mem.now c.requires.0 a.s c.requires.1 _ 64 c.marks_from-a.ensures (marks_small a.g c.if-g-eq-LARGE_KIB.false) in
    omega (arith, c.well_formed.0.1)

pub offset_bounds-mem-a-else-g-eq-LARGE_KIB : goal.offset_bounds-mem-a-else-g-eq-LARGE_KIB
offset_bounds-mem-a-else-g-eq-LARGE_KIB c =
    let a = c.args in
    let e = marks_inside a.g a.mem.now c.requires.0 a.s c.requires.1 _ 64 c.marks_from-a.ensures (marks_small a.g c.if-g-eq-LARGE_KIB.false) in
    omega (arith, c.well_formed.0.1)

pub slice_bounds-none_set-end-else-g-eq-LARGE_KIB : goal.slice_bounds-none_set-end-else-g-eq-LARGE_KIB
slice_bounds-none_set-end-else-g-eq-LARGE_KIB c =
    let a = c.args in
    let e = marks_inside a.g a.mem.now c.requires.0 a.s c.requires.1 _ 64 c.marks_from-a.ensures (marks_small a.g c.if-g-eq-LARGE_KIB.false) in
    omega arith

pub returns-then-g-eq-LARGE_KIB : goal.returns-then-g-eq-LARGE_KIB
returns-then-g-eq-LARGE_KIB c =
    let a = c.args in
    λ e. unmarked_words a.g a.mem.now c.requires.0 a.s c.requires.1 _ 128 c.marks_from-a.ensures (marks_large a.g c.if-g-eq-LARGE_KIB.true) (c.none_set.ensures e)

pub returns-else-g-eq-LARGE_KIB : goal.returns-else-g-eq-LARGE_KIB
returns-else-g-eq-LARGE_KIB c =
    let a = c.args in
    λ e. unmarked_words a.g a.mem.now c.requires.0 a.s c.requires.1 _ 64 c.marks_from-a.ensures (marks_small a.g c.if-g-eq-LARGE_KIB.false) (c.none_set-else-g-eq-LARGE_KIB.ensures e)
