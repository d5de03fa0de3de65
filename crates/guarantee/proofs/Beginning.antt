-- Where a list begins is a point: what an accepted opening leaves is consistent and coupled with the empty unbounded heap.
use mathlib.Core.Path.{sym, subst}
use mathlib.Core.List.{List}
use Prim.Native.Nat.{ℕ}
use lib.ListN.{length}
use Rattle.layout.specs.declared.Geometry.{Geometry}
use Rattle.layout.specs.Mem.{mem_of}
use Rattle.layout.proofs.Regions.{sized, resized}
use Rattle.model.specs.Consistent.{Consistent}
use Rattle.model.specs.Lists.{Ghost, Opened, ghost_start, Begins, by_opening}
use Rattle.model_laws.proofs.Lengths.{sizes_of}
use Rattle.refine_start.proofs.Opened.{opened_consistent, opened_good}
use Rattle.guarantee.proofs.Coupling.{Couples, Any}
use Rattle.guarantee.proofs.Elements.{Point}

pub opened_point : (g : Geometry) (content words : List ℕ) → Opened g content words → Point g words ghost_start Any
opened_point g content words o =
    let s = sized g (length content) o.sized in
    let e = (o.opening.exact o.sized).1 in
    let z = opened_good g (mem_of g content) (sizes_of g content s) in
    record {
      long = resized g (length content) (length words) s o.long;
      consistent = subst (Consistent g) (sym e) (opened_consistent g (mem_of g content) (sizes_of g content s));
      couples = subst (λ x. Couples g x ghost_start Any) (sym e) (record { inv = z.inv; sim = z.sim; few = z.few; comp = record { live = λ b q k. tt; black = λ b q k. tt } });
    }

pub first_point : (g : Geometry) (words : List ℕ) (w : Ghost) → Begins g words w → Point g words w Any
first_point g words w (by_opening {content = x} o) = opened_point g x words o
