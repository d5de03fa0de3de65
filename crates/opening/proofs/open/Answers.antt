-- `opening::open` meets its contract.
use native.Mathlib.Omega.{arith}
use Rattle.layout.proofs.Regions.{sized, resized}
use Rattle.model_laws.proofs.Promised.{fits}
use Rattle.opening.proofs.Stacks.{opened_by, open_ok}
use Rattle.opening.proofs.open.Goals as goal

pub clear_control-requires : goal.clear_control-requires
clear_control-requires c = sized _ _ (fits c.in_ok-require_size.ensures)

pub clear_mutators-requires : goal.clear_mutators-requires
clear_mutators-requires c =
    let of_size = sized _ _ (fits c.in_ok-require_size.ensures) in
    resized _ _ _ of_size c.clear_control.auto.mem

pub clear_segments-requires : goal.clear_segments-requires
clear_segments-requires c =
    let of_size = sized _ _ (fits c.in_ok-require_size.ensures) in
    let control_size = resized _ _ _ of_size c.clear_control.auto.mem in
    resized _ _ _ control_size c.clear_mutators.auto.mem

pub clear_stacks-requires : goal.clear_stacks-requires
clear_stacks-requires c =
    let of_size = sized _ _ (fits c.in_ok-require_size.ensures) in
    let control_size = resized _ _ _ of_size c.clear_control.auto.mem in
    let mutators_size = resized _ _ _ control_size c.clear_mutators.auto.mem in
    resized _ _ _ mutators_size c.clear_segments.auto.mem

pub overflow_cast-g : goal.overflow_cast-g
overflow_cast-g c =
    let of_size = sized _ _ (fits c.in_ok-require_size.ensures) in
    omega (arith, of_size.few)

pub set_stack-requires : goal.set_stack-requires
set_stack-requires c =
    let of_size = sized _ _ (fits c.in_ok-require_size.ensures) in
    let control_size = resized _ _ _ of_size c.clear_control.auto.mem in
    let mutators_size = resized _ _ _ control_size c.clear_mutators.auto.mem in
    let segments_size = resized _ _ _ mutators_size c.clear_segments.auto.mem in
    (resized _ _ _ segments_size c.clear_stacks.auto.mem, omega arith)

pub stack_down-requires : goal.stack_down-requires
stack_down-requires c =
    let of_size = sized _ _ (fits c.in_ok-require_size.ensures) in
    let control_size = resized _ _ _ of_size c.clear_control.auto.mem in
    let mutators_size = resized _ _ _ control_size c.clear_mutators.auto.mem in
    let segments_size = resized _ _ _ mutators_size c.clear_segments.auto.mem in
    let stacks_size = resized _ _ _ segments_size c.clear_stacks.auto.mem in
    (resized _ _ _ stacks_size c.set_stack.auto.mem, omega (arith, of_size.few), of_size.few)

pub returns : goal.returns
returns c =
    open_ok _ _ (fits c.in_ok-require_size.ensures)
    (opened_by _ _ c.clear_control.ensures c.clear_mutators.ensures c.clear_segments.ensures
    c.clear_stacks.ensures c.set_stack.ensures c.stack_down.ensures)
