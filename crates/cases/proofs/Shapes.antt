-- The shapes at both sizes, by computing the definitions.
use mathlib.Core.Path.{refl}
use Rattle.words.specs.Bits.{bit_of, bit_at, clear_from}
use Rattle.classes.specs.Class.{class_test}
use Rattle.bitmap_search.specs.Scan.{next_free}
use Rattle.bitmap_search.specs.Search.{lowered, forwarded, searched}
use Rattle.bitmap_write.specs.Rebuild.{rebuilt}
use Rattle.bitmap_write.specs.Completed.{completed, padded}
use Rattle.cases.specs.Shapes.{Shapes}
use Rattle.cases.proofs.Hold.{row}

pub shapes : Shapes
unfolding class_test bit_of bit_at clear_from next_free lowered forwarded searched rebuilt completed padded
shapes = record {
  at16 = (refl, (refl, (refl, (refl, (refl, (refl, (refl, (refl, (refl, (refl, (refl, (refl, tt))))))))))));
  at32 = (refl, (refl, (refl, (refl, (refl, (refl, (refl, (refl, (refl, (refl, (refl, (refl, tt))))))))))));
  twice =
      (refl, refl, (refl, refl, (refl, refl, (refl, refl, (refl, refl, (refl, refl, (refl, refl, (refl, refl, (refl, refl, (refl, refl, (refl, refl, (refl, refl, tt))))))))))));
  below = (refl, refl);
  past = (refl, refl);
  first = row tt tt refl refl refl;
  second = row tt tt refl refl refl;
  none = row tt tt refl refl refl;
  last = row tt tt refl refl refl;
}
