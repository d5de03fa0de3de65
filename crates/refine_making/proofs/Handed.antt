-- A make out of a held segment: a block is found there, it was not in use, and the memory afterwards is in order and agrees with the
-- machine's.
use mathlib.Core.Path.{◌≡◌}
use mathlib.Core.Bool.{true}
use Prim.Native.Nat.{ℕ, suc, ◌<◌}
use lib.ListN.{replicate}
use Rattle.std.specs.Prelude.{Some, Ok}
use Rattle.classes.specs.declared.RecordShape.{RecordShape}
use Rattle.classes.specs.Record.{pointer_count_of, value_count_of, class_of_record}
use Rattle.layout.specs.declared.Geometry.{Geometry}
use Rattle.layout.specs.Geometry.{mutator_count, root_count, segment_of}
use Rattle.layout.specs.Mem.{Mem, Sizes}
use Rattle.theory.specs.Machine.{State, make}
use Rattle.theory.proofs.Agree.{Agree}
use Rattle.theory.specs.Calls.{c_make}
use Rattle.theory.specs.MachineCalls.{Permitted}
use Rattle.model.specs.Fields.{holding, place}
use Rattle.model.specs.Segments.{free}
use Rattle.model.specs.Records.{header_of}
use Rattle.model.specs.Making.{handed_out}
use Rattle.model.specs.Calls.{is_attached}
use Rattle.model.specs.Consistent.{Occupied, Behind}
use Rattle.refine_view.specs.View.{view}
use Rattle.refine_view.specs.Refines.{Ordered, EachOccupied, Structure, Steady}
use Rattle.refine_making.proofs.Request.{Request, requested}
use Rattle.refine_making.proofs.Blackened.{result}
use Rattle.refine_making.proofs.Agreeing.{agree}
use Rattle.refine_making.proofs.Segments.{occupied_ok}
use Rattle.refine_making.proofs.Structured.{structure}
use Rattle.refine_view.proofs.SelfSimulation.{behind_by}
use Rattle.refine_making.proofs.Unused as unused
use Rattle.refine_making.proofs.Standing as standing

-- the memory that a make out of segment r leaves, beside the machine's state: a move, but that r need have had no block in use before
pub record HandsOut (g : Geometry) (m m' : Mem) (r : ℕ) (st : State) : Type 0 where
  pub structure : Structure g m'
  pub occupied : ((x : ℕ) → x < g.segments → (x ≡ r → ⊥) → Occupied g m x) → EachOccupied g m'
  pub behind : Behind g m → Behind g m'
  pub agree : Agree (segment_of g) st (view g m')
  pub steady : Steady g m m'

module _ (g : Geometry) (m : Mem) (s : Sizes g m) (c : Ordered g m) where
  hands_out : (k d cl r b : ℕ) (shape : RecordShape) → Request g m k d cl r b shape
      → HandsOut g m (handed_out g m k d cl r b shape) r (make (view g m) k d (header_of g r cl b) (pointer_count_of shape) (replicate (value_count_of shape) 0))
  hands_out k d cl r b shape q =
      let a = result g m s k d cl r b shape q in
      let t : Steady g m (handed_out g m k d cl r b shape) =
      (λ x l e. ((standing.tag_back g m (handed_out g m k d cl r b shape) k d cl r b shape q a x e).0, standing.class_same g m (handed_out g m k d cl r b shape) k d cl r b shape q a x)) in
      record {
        structure = structure g m s c (handed_out g m k d cl r b shape) k d cl r b shape q a;
        occupied = occupied_ok g m c (handed_out g m k d cl r b shape) k d cl r b shape q a;
        agree = agree g m s c (handed_out g m k d cl r b shape) k d cl r b shape q a;
        behind = behind_by g m (handed_out g m k d cl r b shape) t (standing.cursor_same g m (handed_out g m k d cl r b shape) k d cl r b shape q a);
        steady = t;
      }

  pub handed : (k d cl r : ℕ) (shape : RecordShape) → k < mutator_count → is_attached m k ≡ true → d < root_count → class_of_record shape ≡ Some cl → holding m k cl ≡ suc r
      → (b : ℕ) × (free g m r cl (place m r) ≡ Ok (Some b))
      × Permitted (segment_of g) (header_of g r cl b) (view g m) (c_make k d (pointer_count_of shape) (value_count_of shape))
      × HandsOut g m (handed_out g m k d cl r b shape) r (make (view g m) k d (header_of g r cl b) (pointer_count_of shape) (replicate (value_count_of shape) 0))
  handed k d cl r shape few att within sized holds =
      let f = requested g m c k d cl r shape few att within sized holds in
      (f.0, f.1, (unused.not_used g m c k d cl r f.0 shape f.2, unused.not_collected g m c k d cl r f.0 shape f.2), hands_out k d cl r f.0 shape f.2)
