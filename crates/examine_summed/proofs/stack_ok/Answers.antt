-- `examine_summed::stack_ok` meets its contract.
use mathlib.Core.Path.{refl}
use Rattle.layout.specs.Geometry.{max_segments}
use Rattle.layout.specs.Mem.{mem_of}
use Rattle.examine_summed.proofs.Ordered.{zeros, count_few, count_wrong, count_right}
use Rattle.examine_summed.proofs.stack_ok.Goals as goal

pub count-n-requires : goal.count-n-requires
count-n-requires c = c.requires

pub belonging-k-requires : goal.belonging-k-requires
belonging-k-requires c = c.requires

pub returns-then-n-k : goal.returns-then-n-k
returns-then-n-k c =
    let a = c.args in
    count_wrong a.g (mem_of a.g a.mem.now) a.t _ _ c.count-n.ensures c.belonging-k.ensures c.if-n-k.true

pub slice_bounds-enter_all-end : goal.slice_bounds-enter_all-end
slice_bounds-enter_all-end c = refl

pub enter_all-requires : goal.enter_all-requires
enter_all-requires c =
    let a = c.args in record {
      sized = (
        c.requires.0,
        c.requires.1,
        c.count-n.ensures,
        count_few a.g (mem_of a.g a.mem.now) a.t _ _ c.count-n.ensures c.belonging-k.ensures c.if-n-k.false,
      );
      seen_len = (refl, zeros max_segments);
    }

pub returns : goal.returns
returns c =
    let a = c.args in
    count_right a.g (mem_of a.g a.mem.now) a.t _ _ c.count-n.ensures c.belonging-k.ensures c.if-n-k.false _ _ c.enter_all.ensures
