-- `bitmap_search::BitPtr::remaining` meets its contract.
use Rattle.std.specs.Prelude.{Ok, Some, None}
use mathlib.Core.Path.{sym, ap, ◌∙◌}
use native.Mathlib.Omega.{arith}
use Rattle.words.proofs.Trees.{words_in}
use Rattle.bitmap_search.specs.declared.BitPtr.{BitPtr}
use Rattle.bitmap_search.specs.Search.{torn, next_of}
use Rattle.bitmap_search.proofs.Twice.{past_end, at_block, more_own, last_whole, from_after}
use Rattle.bitmap_search.specs.declared.Two.TheVariants as two
use Rattle.bitmap_search.proofs.BitPtr.remaining.Goals as goal

pub returns-then-n-b : goal.returns-then-n-b
returns-then-n-b c =
    let x = c.args in
    past_end x.above x.s.now x.n c.index-b.result x.self c.index-b.ensures c.if-n-b.true

pub bounds-s-b : goal.bounds-s-b
bounds-s-b c =
    let x = c.args in
    omega (arith, words_in x.above x.n)

pub returns-then-clear_after : goal.returns-then-clear_after
returns-then-clear_after c =
    let x = c.args in
    let b = c.index-b.result in
    at_block x.above x.s.now x.n b x.self c.index-b.ensures c.if-n-b.false (two.More b)
    (more_own x.above x.s.now x.n b c.if-n-b.false (sym c.if-clear_after.true ∙ c.clear_after.ensures))

pub returns-then-n-eq0 : goal.returns-then-n-eq0
returns-then-n-eq0 c =
    let x = c.args in
    let b = c.index-b.result in
    at_block x.above x.s.now x.n b x.self c.index-b.ensures c.if-n-b.false (two.Last b)
    (last_whole x.above x.s.now x.n b c.if-next-n.true c.if-n-eq0.true)

pub forward-requires : goal.forward-requires
forward-requires c =
    let e = ap (λ (p : BitPtr). p.low.bit) c.to.ensures in
    record {
      n_in_bounds = (c.requires.0, omega arith);
      level_bound = omega arith;
    }

pub returns-in-At : goal.returns-in-At
returns-in-At c =
    let x = c.args in
    let b = c.index-b.result in
    at_block x.above x.s.now x.n b x.self c.index-b.ensures c.if-n-b.false (two.More b)
    (from_after x.above x.s.now x.n b c.to.result (next_of c.forward.result) (Ok (Some c.in-At.field-0)) c.to.ensures c.forward.ensures (ap next_of c.in-At.is))

pub returns-in-Nothing : goal.returns-in-Nothing
returns-in-Nothing c =
    let x = c.args in
    let b = c.index-b.result in
    at_block x.above x.s.now x.n b x.self c.index-b.ensures c.if-n-b.false (two.Last b)
    (from_after x.above x.s.now x.n b c.to.result (next_of c.forward.result) (Ok None) c.to.ensures c.forward.ensures (ap next_of c.in-Nothing.is))

pub returns-in-Torn : goal.returns-in-Torn
returns-in-Torn c =
    let x = c.args in
    let b = c.index-b.result in
    at_block x.above x.s.now x.n b x.self c.index-b.ensures c.if-n-b.false two.Torn
    (from_after x.above x.s.now x.n b c.to.result (next_of c.forward.result) torn c.to.ensures c.forward.ensures (ap next_of c.in-Torn.is))
