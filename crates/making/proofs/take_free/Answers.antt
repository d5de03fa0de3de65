-- `making::take_free` meets its contract.
use Rattle.std.proofs.lemmas.Result.{err_from_is_err_and}
use Rattle.layout.specs.Mem.{mem_of}
use Rattle.making.proofs.Taking.{free_torn}
use Rattle.making.proofs.take_free.Goals as goal

pub returns-in_err-s : goal.returns-in_err-s
returns-in_err-s c =
    let p = err_from_is_err_and c.from_residual.result c.from_residual.ensures.1 in
    let x = c.args in
    rw (p.1, p.2) (free_torn x.g (mem_of x.g x.mem.now) x.mutator x.class _ c.free_stack-t.ensures _ c.in_err-s.ensures)
