-- The rows and the regions' beginnings hold, by computing the definitions.
use mathlib.Core.Path.{refl}
use Rattle.layout.specs.Geometry.{wrong_size, segment_bytes}
use Rattle.model_pinned.specs.Sizes.{heap, large_rows, rows, All, others, NoSizes, begins, large_begins, Begin}

large_rows-hold : All large_rows
unfolding wrong_size segment_bytes
large_rows-hold = (refl, (refl, (refl, (refl, (refl, (refl, (refl, (refl, (refl, (refl, (refl, (refl, (refl, tt)))))))))))))

pub rows_hold : All rows
unfolding wrong_size segment_bytes
rows_hold = (refl, (refl, (refl, (refl, (refl, (refl, (refl, (refl, (refl, (refl, (refl, large_rows-hold)))))))))))

pub others_refused : NoSizes others
unfolding wrong_size segment_bytes
others_refused =
    (refl, refl, (refl, refl, (refl, refl, (refl, refl, (refl, refl, (refl, refl, (refl, refl, (refl, refl, (refl, refl, (refl, refl, (refl, refl, tt)))))))))))

pub begins_hold : Begin (heap 2 16) 0 begins
unfolding segment_bytes
begins_hold = (refl, (refl, (refl, (refl, (refl, (refl, (refl, (refl, (refl, tt)))))))))

pub large_begins-hold : Begin (heap 2 32) 0 large_begins
unfolding segment_bytes
large_begins-hold = (refl, (refl, (refl, (refl, (refl, (refl, (refl, (refl, (refl, tt)))))))))
