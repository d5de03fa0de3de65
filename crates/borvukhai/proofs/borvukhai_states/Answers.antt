-- `borvukhai::borvukhai_states` meets its contract.
use Rattle.packing.proofs.UnpackedLooks.{exports_states}
use Rattle.borvukhai.proofs.borvukhai_states.Goals as goal

pub returns : goal.returns
returns c =
    exports_states _ _ _ _ _ _ c.geometry.ensures c.states.ensures _ c.packed.ensures
