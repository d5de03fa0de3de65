-- `field_calls::shape` meets its contract.
use mathlib.Core.Path.{refl, sym, ◌∙◌}
use native.Mathlib.Omega.{arith}
use Rattle.std.proofs.lemmas.Result.{err_from_is_err_and}
use Rattle.layout.proofs.Regions.{sized}
use Rattle.theory.specs.Calls.{c_shape}
use Rattle.model_laws.proofs.Promised.{fits}
use Rattle.mutators.proofs.Inside.{in_range_at}
use Rattle.model_laws.proofs.Reaching.{header_13}
use Rattle.records.proofs.Reaching.{names, held_7}
use Rattle.field_calls.proofs.Answering.{shape_refused, shape_reaches, shape_done}
use Rattle.field_calls.proofs.shape.Goals as goal

pub require_root-requires : goal.require_root-requires
require_root-requires c = sized _ _ (fits c.in_ok-require_size.ensures)

pub returns-in_err-require_root : goal.returns-in_err-require_root
returns-in_err-require_root c =
    let p = err_from_is_err_and c.from_residual-in_err-require_root.result c.from_residual-in_err-require_root.ensures.1 in
    rw (p.1, p.2) (shape_refused _ _ _ _ _ (fits c.in_ok-require_size.ensures) c.in_err-require_root.ensures _ refl)

pub root-requires : goal.root-requires
root-requires c =
    let p = in_range_at _ _ _ c.args.root _ c.in_ok-require_root.ensures refl in
    (sized _ _ (fits c.in_ok-require_size.ensures), p.0, p.1)

pub returns-in_default : goal.returns-in_default
returns-in_default c =
    held_7 (c_shape _ _) _ _ _ _ _
    (shape_reaches _ _ _ _ _ (fits c.in_ok-require_size.ensures) c.in_ok-require_root.ensures refl)
    _
    c.root.ensures
    (sym c.in_default.is ∙ c.held_of-slot.ensures)

pub heap_words-end-requires : goal.heap_words-end-requires
heap_words-end-requires c =
    let z = sized _ _ (fits c.in_ok-require_size.ensures) in
    (z.few, (z.whole, z.small, z.large))

pub returns-then-end-at : goal.returns-then-end-at
returns-then-end-at c =
    header_13 (c_shape _ _) _ _ _ _ _
    (shape_reaches _ _ _ _ _ (fits c.in_ok-require_size.ensures) c.in_ok-require_root.ensures refl)
    _
    (names _ _ _ _ _ _ c.root.ensures (sym c.in-Record.is ∙ c.held_of-slot.ensures))
    (omega (arith, c.heap_words-end.ensures, c.if-end-at.true))

pub shape-requires : goal.shape-requires
shape-requires c =
    (sized _ _ (fits c.in_ok-require_size.ensures), omega (arith, c.heap_words-end.ensures, c.if-end-at.false))

pub returns : goal.returns
returns c =
    shape_done _ _ _ _ _ _
    (shape_reaches _ _ _ _ _ (fits c.in_ok-require_size.ensures) c.in_ok-require_root.ensures refl)
    (names _ _ _ _ _ _ c.root.ensures (sym c.in-Record.is ∙ c.held_of-slot.ensures))
    c.shape.ensures.shape c.shape.ensures.small
