-- `bracket_lines::next_line` meets its contract. The loop's invariant: the bytes so far have told nothing, and led to the
-- present count and buffer.
use mathlib.Core.Path.{refl}
use native.Mathlib.Omega.{arith}
use Rattle.bracket_lines.proofs.Scanning.{scanning_none, scanning_more, scanning_told, scanning_all}
use Rattle.bracket_lines.proofs.next_line.Goals as goal

pub loop-at-init : goal.loop-at-init
loop-at-init c = scanning_none _ _ _ _

pub loop-at-preserved : goal.loop-at-preserved
loop-at-preserved c =
    let a = c.args in
    let k = c.loop-at in
    let s = c.take_byte-s in
    scanning_more a.chunk.now a.from a.count a.line.now k.at k.n k.line k.invariant (omega arith) s.result
    s.new.line s.ensures.0 s.ensures.1 c.in-More.is

pub returns-in_default : goal.returns-in_default
returns-in_default c =
    let a = c.args in
    let k = c.loop-at in
    let s = c.take_byte-s in
    scanning_told a.chunk.now a.from a.count a.line.now k.at k.n k.line k.invariant (omega arith) s.result
    s.new.line s.ensures.0 s.ensures.1 s.result.found refl c.in_default.not-More

pub returns : goal.returns
returns c =
    let a = c.args in
    let k = c.loop-at in
    scanning_all a.chunk.now a.from a.count a.line.now k.at k.n k.line k.invariant c.max.result c.max.ensures c.loop-at-test.false
