-- `packing::no_size` meets its contract.
use Rattle.basics.proofs.Tests.{tests}
use Rattle.packing.proofs.no_size.Goals as goal

pub returns-then-segments-lt1 : goal.returns-then-segments-lt1
returns-then-segments-lt1 c = search tests

pub returns-then-segments-gt-MAX_SEGMENTS : goal.returns-then-segments-gt-MAX_SEGMENTS
returns-then-segments-gt-MAX_SEGMENTS c = search tests

pub returns : goal.returns
returns c = search (tests, c.no_kib.ensures)
