-- The same operation after a move is a move.
use mathlib.Core.Path.{◌∙◌}
use Rattle.layout.specs.Geometry.{segment_of}
use Rattle.layout.specs.declared.Geometry.{Geometry}
use Rattle.layout.specs.Mem.{Mem}
use Rattle.theory.specs.Machine.{State}
use Rattle.theory.proofs.Agree.{Agree, agree_trans}
use Rattle.refine_view.specs.View.{view}
use Rattle.refine_view.specs.Refines.{Moves}

-- the same operation after a move
pub moves_then : (g : Geometry) (m m' m'' : Mem) (st st' st'' : State) → Moves g m m' st → Agree (segment_of g) st' st'' → Moves g m' m'' st'' → Moves g m m'' st'
moves_then g m m' m'' st st' st'' v a w = record {
  structure = w.structure;
  occupied = λ u. w.occupied (v.occupied u);
  behind = λ u. w.behind (v.behind u);
  agree = agree_trans (segment_of g) st' st'' a (view g m'') w.agree;
  steady = λ x l e. let y = w.steady x l e in let z = v.steady x l y.0 in (z.0, y.1 ∙ z.1);
}
