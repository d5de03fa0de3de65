-- The segment that a step in sweep takes is what the abstract machine asks of it.
use native.Mathlib.Omega.{arith}
use borrow.Author.Tests.{eq-eqb, ne_eqb}
use Rattle.layout.specs.declared.Geometry.{Geometry}
use Rattle.layout.specs.Mem.{Mem, Sizes}
use Rattle.theory.proofs.CollectorKeeps.{Pick}
use Rattle.model.specs.Collector.{lowest}
use Rattle.refine_view.specs.View.{view}
use Rattle.model_laws.proofs.Segments.{in_range}
use Rattle.model_laws.proofs.Lowest.{found_condemned, none_condemned}

module _ (g : Geometry) (m : Mem) (s : Sizes g m) where
  pub pick_lowest : Pick (λ _. lowest m g.segments) (view g m)
  pick_lowest = record {
    condemned = λ x e. eq-eqb _ _ (found_condemned m g.segments x e).1;
    none_left = λ e x l. ne_eqb _ _ (λ q. none_condemned m g.segments e x (in_range g m s x (λ z. omega arith)) q);
  }
