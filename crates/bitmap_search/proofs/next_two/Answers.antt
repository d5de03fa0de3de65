-- `bitmap_search::next_two` meets its contract.
use mathlib.Core.Path.{ap, ◌∙◌}
use native.Mathlib.Omega.{arith}
use Rattle.bitmap_search.specs.declared.BitPtr.{BitPtr}
use Rattle.bitmap_search.proofs.Twice.{promised_two, searched_two}
use Rattle.bitmap_search.proofs.next_two.Goals as goal

pub search_two-requires : goal.search_two-requires
search_two-requires c =
    let e = ap (λ (p : BitPtr). p.low.bit) c.to.ensures in
    (c.requires, omega arith)

pub returns : goal.returns
returns c =
    let x = c.args in
    promised_two x.above x.s.now x.n x.place c.search_two.result (λ i. omega (arith, c.type_inv.s i))
    (c.search_two.ensures ∙ searched_two x.above x.s.now x.n x.place c.to.result c.to.ensures)
