-- `making::begin_of` meets its contract.
use Rattle.std.proofs.lemmas.Result.{err_from_is_err_and}
use Rattle.layout.specs.Mem.{mem_of}
use Rattle.making.proofs.Placing.{of_class_lem}
use Rattle.making.proofs.HandingOut.{make_none}
use Rattle.making.proofs.Beginning.{begun_taken}
use Rattle.making.proofs.begin_of.Goals as goal

pub returns-in_err-s : goal.returns-in_err-s
returns-in_err-s c =
    let p = err_from_is_err_and c.from_residual.result c.from_residual.ensures.1 in
    let x = c.args in
    rw (p.1, p.2) (make_none x.g (mem_of x.g x.mem.now) x.mutator x.to x.class x.shape _ _ c.in_err-s.ensures)

pub returns : goal.returns
returns c =
    let i = of_class_lem c.args.shape _ c.requires.of_class in
    let x = c.args in
    begun_taken x.g x.mutator x.to x.class x.shape x.mem.now c.take.new.mem c.requires.sized.0 c.requires.sized.1 i _ c.in_ok-s.ensures c.hand_near.result
    c.hand_near.new.mem c.hand_near.ensures
