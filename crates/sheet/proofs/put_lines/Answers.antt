-- `sheet::put_lines` meets its contract. The loop's invariant: the lines passed stand at the front of the output.
use native.Mathlib.Omega.{arith}
use borrow.Author.Rules.{rules}
use Rattle.layout.specs.Mem.{mem_of}
use Rattle.sheet.proofs.Records.{all_counted_long}
use Rattle.sheet.proofs.Printing.{printed_none, line_room, printed_more, printed_all}
use Rattle.sheet.proofs.put_lines.Goals as goal

pub loop-s-init : goal.loop-s-init
loop-s-init c = printed_none _ _ _

pub put_line-end-requires : goal.put_line-end-requires
put_line-end-requires c =
    let a = c.args in
    let long = all_counted_long a.g (mem_of a.g a.mem.now) c.requires.0.few c.requires.1 in
    let room = line_room _ _ _ long c.requires.2 _ _ _ c.loop-s.invariant c.loop-s-test.true in
    (c.requires.0, c.loop-s-test.true, c.requires.1 c.loop-s.s c.loop-s-test.true, omega arith)

pub put_end-at-requires : goal.put_end-at-requires
put_end-at-requires c =
    let a = c.args in
    let long = all_counted_long a.g (mem_of a.g a.mem.now) c.requires.0.few c.requires.1 in
    let room = line_room _ _ _ long c.requires.2 _ _ _ c.loop-s.invariant c.loop-s-test.true in
    (c.loop-s-test.true, c.requires.0.few, omega (arith, c.put_line-end.ensures.0))

pub loop-s-preserved : goal.loop-s-preserved
loop-s-preserved c =
    let a = c.args in
    let long = all_counted_long a.g (mem_of a.g a.mem.now) c.requires.0.few c.requires.1 in
    let line = c.put_line-end.ensures in
    let end = c.put_end-at.ensures in
    printed_more _ _ _ long c.requires.2 _ _ _ c.loop-s.invariant c.loop-s-test.true _ _ _ _ line.0 line.1 end.0 end.1 (search rules)

pub shape_of-out : goal.shape_of-out
shape_of-out c = c.loop-s.invariant.same

pub returns : goal.returns
returns c =
    let a = c.args in
    let long = all_counted_long a.g (mem_of a.g a.mem.now) c.requires.0.few c.requires.1 in
    printed_all _ _ _ long c.requires.2 _ _ _ c.loop-s.invariant c.loop-s-test.false c.requires.0.some
