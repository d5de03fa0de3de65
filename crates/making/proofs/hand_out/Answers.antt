-- `making::hand_out` meets its contract.
use native.Mathlib.Nat.{mod-eq_of_lt}
use Rattle.layout.specs.Mem.{mem_of}
use Rattle.making.proofs.HandingOut.{handed_out_lem}
use Rattle.making.proofs.hand_out.Goals as goal

pub returns : goal.returns
returns c =
    let x = c.args in
    let same = mod-eq_of_lt c.in_ok-b.ensures.0 in
    handed_out_lem x.g (mem_of x.g x.mem.now) x.mutator x.to x.class x.s x.shape (mem_of x.g c.advance.new.mem) _ c.in_ok-b.ensures _ (rw same at c.fill.ensures)
