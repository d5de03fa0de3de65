-- `examine_cycle::fine` meets its contract.
use native.Mathlib.Omega.{arith}
use Rattle.basics.proofs.Deciding.{holds}
use Rattle.layout.specs.Mem.{mem_of}
use Rattle.examine_record.proofs.Testing.{tested_small}
use Rattle.examine_cycle.proofs.Judging.{fine_torn, fine_by}
use Rattle.examine_cycle.proofs.fine.Goals as goal

pub returns-then-w-eq0 : goal.returns-then-w-eq0
returns-then-w-eq0 c = holds (λ x q. absurd (omega (arith, c.if-w-eq0.true)))

pub fine_bit-requires : goal.fine_bit-requires
fine_bit-requires c = let t = c.in-Some.ensures in (c.requires.0, c.requires.1, tested_small _ _ _ _ t.0 t.1)

pub returns-in_default : goal.returns-in_default
returns-in_default c = let a = c.args in fine_torn a.g (mem_of a.g a.mem.now) _ a.w c.if-w-eq0.false c.in_default.ensures

pub returns : goal.returns
returns c =
    let a = c.args in
    let t = c.in-Some.ensures in
    fine_by a.g (mem_of a.g a.mem.now) a.cover.now a.w c.if-w-eq0.false t.0 _ t.1 _ c.fine_bit.ensures
