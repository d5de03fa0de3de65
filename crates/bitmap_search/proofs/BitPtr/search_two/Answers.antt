-- `bitmap_search::BitPtr::search_two` meets its contract.
use Rattle.std.specs.Prelude.{Ok, Some, None}
use mathlib.Core.Path.{sym, ap, ◌∙◌}
use native.Mathlib.Omega.{arith}
use Rattle.bitmap_search.specs.Search.{torn, next_of}
use Rattle.bitmap_search.proofs.Moves.{handed_bound}
use Rattle.bitmap_search.proofs.Twice.{from_place}
use Rattle.bitmap_search.proofs.BitPtr.search_two.Goals as goal

pub remaining-requires : goal.remaining-requires
remaining-requires c =
    let h = handed_bound c.args.above c.args.s.now c.args.n c.args.self c.in-At.q 0
    (sym (ap next_of c.in-At.is) ∙ c.forward_first.ensures) in
    (c.requires.0, omega arith)

pub returns-in-At : goal.returns-in-At
returns-in-At c =
    let a = c.args in
    c.remaining.ensures ∙ from_place a.above a.s.now a.n a.self (next_of c.forward_first.result) (Ok (Some c.in-At.q)) c.forward_first.ensures (ap next_of c.in-At.is)

pub returns-in-Nothing : goal.returns-in-Nothing
returns-in-Nothing c =
    let a = c.args in
    from_place a.above a.s.now a.n a.self (next_of c.forward_first.result) (Ok None) c.forward_first.ensures (ap next_of c.in-Nothing.is)

pub returns-in-Torn : goal.returns-in-Torn
returns-in-Torn c =
    let a = c.args in
    from_place a.above a.s.now a.n a.self (next_of c.forward_first.result) torn c.forward_first.ensures (ap next_of c.in-Torn.is)
