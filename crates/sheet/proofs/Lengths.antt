-- How long the sheet of consistent memory is, and where each line of it begins.
use Prim.Native.Nat.{ℕ, ◌≤◌, ◌<◌}
use mathlib.Core.Path.{◌≡◌, sym, ◌∙◌, ap}
use native.Mathlib.Omega.{arith}
use lib.ListN.{length}
use Rattle.layout.specs.declared.Geometry.{Geometry}
use Rattle.layout.specs.Geometry.{max_segments}
use Rattle.layout.specs.Mem.{Mem, mem_of}
use Rattle.layout.proofs.Regions.{sized}
use Rattle.model.specs.Consistent.{Consistent}
use Rattle.model.specs.Sheet.{line_of, lines_to, sheet_of}
use Rattle.sheet.specs.Counted.{counted_line}
use Rattle.sheet.specs.Long.{EverySheet}
use Rattle.sheet.proofs.Lines.{all_long, line_at, lines_same}
use Rattle.sheet.proofs.Records.{consistent_counted, counted_long, counted_is}

-- the sheet by the counts is the sheet
pub counted_sheet : (g : Geometry) (m : Mem) → Consistent g m → lines_to g.segments (counted_line g m) g.segments ≡ sheet_of g m
unfolding sheet_of
counted_sheet g m c = lines_same g.segments (counted_line g m) (line_of g m) (λ s l. counted_is g m s c l) g.segments (omega arith)

line_long : (g : Geometry) (m : Mem) → Consistent g m → g.segments ≤ max_segments → (s : ℕ) → s < g.segments → length (line_of g m s) ≡ 51
line_long g m c h s l = ap length (sym (counted_is g m s c l)) ∙ counted_long g m s (consistent_counted g m s c l) (omega arith)

pub every_sheet : EverySheet
unfolding sheet_of
every_sheet g mem w c =
    let z = sized g (length mem) w in
    let m = mem_of g mem in
    let long = line_long g m c z.few in
    record { line = long; sheet = all_long g.segments (line_of g m) long z.some; begins = line_at g.segments (line_of g m) long }
