-- `bitmap_search::BitPtr::to` meets its contract.
use Rattle.bitmap_search.proofs.BitPtr.to.Goals as goal

pub returns : goal.returns
returns c = rw (c.of.ensures, c.of-2.ensures, c.of-3.ensures)
