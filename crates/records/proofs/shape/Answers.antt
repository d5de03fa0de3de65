-- `records::shape` meets its contract.
use mathlib.Core.Path.{ap}
use native.Mathlib.Omega.{arith}
use Rattle.model.specs.Records.{header_shape}
use Rattle.records.proofs.shape.Goals as goal

pub returns : goal.returns
unfolding header_shape
returns c = record { shape = ap header_shape c.word-header.ensures; small = (omega arith, omega arith) }
