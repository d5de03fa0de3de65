-- A call that changes mutators' entries only: the words stay in order, and it moves as the machine does.
use mathlib.Core.Path.{◌≡◌, refl}
use mathlib.Core.Bool.{Bool, true}
use mathlib.Core.Option.{Option}
use mathlib.Core.List.{List}
use Prim.Native.Nat.{ℕ, ◌<◌}
use Rattle.layout.specs.declared.Geometry.{Geometry}
use Rattle.layout.specs.Geometry.{mutator_count, root_count, segment_of}
use Rattle.layout.specs.Mem.{Mem, Sizes}
use Rattle.theory.proofs.Agree.{Agree}
use Rattle.model.specs.Fields.{phase, trace_count, acks, root}
use Rattle.model.specs.Records.{record?}
use Rattle.model.specs.Calls.{is_attached, is_inside}
use Rattle.model.specs.Reaching.{Live}
use Rattle.model.specs.Consistent.{MutatorOk}
use Rattle.refine_view.specs.View.{view}
use Rattle.refine_view.specs.Refines.{Structure, Moves}
use Rattle.refine_view.proofs.Seeing.{entries_same, live_on, live_back}
use Rattle.refine_view.proofs.Carried.{entries_by}
use Rattle.refine_view.proofs.Frames.{beside, Held, structure_beside, marks_beside}
use Rattle.theory.specs.Machine as machine
use Rattle.theory.proofs.Agree as agreeing

-- the entries l show A attached, I inside, the acknowledgements K and the roots R
module _ (g : Geometry) (m : Mem) (l : List ℕ) (A I : ℕ → Bool) (K : ℕ → ℕ) (R : ℕ → ℕ → Option ℕ) where
  abbrev now : Mem
  now = beside m m.control l m.marks m.trace m.heap

  abbrev after : machine.State
  after = record {
    pointer_count = (view g m).pointer_count;
    values = (view g m).values;
    pointer = (view g m).pointer;
    used = (view g m).used;
    condemned = (view g m).condemned;
    marked = (view g m).marked;
    stack = (view g m).stack;
    attached = A;
    inside = I;
    acks = K;
    root = R;
    phase = (view g m).phase;
  }

  pub record Shows : Type 0 where
    pub mutators : (k : ℕ) → k < mutator_count → MutatorOk g now k
    pub held : Held g m m.control l m.marks m.trace m.heap
    pub attached : (j : ℕ) → is_attached now j ≡ A j
    pub inside : (j : ℕ) → is_inside now j ≡ I j
    pub acks : (j : ℕ) → acks now j ≡ K j
    pub root : (j i : ℕ) → A j ≡ true → i < root_count → record? (root now j i) ≡ R j i
    pub live : (x : ℕ) → machine.Live after x → machine.Live (view g m) x

  module _ (s : Sizes g m) (o : Structure g m) (e : Shows) where
    agree : Agree (segment_of g) after (view g now)
    agree = record {
      phase = refl;
      stack = entries_same m now (trace_count m) (λ i q. refl);
      attached = e.attached;
      inside = e.inside;
      acks = e.acks;
      root = e.root;
      marked = λ t b q. refl;
      condemned_marks = λ b q. refl;
      condemned = λ x. refl;
      pointer_count = λ b q. refl;
      values = λ b q. refl;
      pointer = λ b f q i. refl;
      used = λ b q. refl;
    }

    was_live : (x : ℕ) → Live now x → Live m x
    was_live x p = live_back g m s o.trace.named (e.live x (agreeing.live_back (segment_of g) after (view g now) agree (live_on g now p)))

    pub entries_moves : Moves g m now after
    entries_moves = record {
      structure = structure_beside g m m.control l m.marks m.trace m.heap o o.phases e.held e.mutators (λ x p. (o.records x (was_live x p), refl))
          (entries_by g m now o.trace refl (λ i. refl) refl) (marks_beside g m m.control l m.heap refl (phase m) o.marks);
      agree = agree;
      occupied = λ u. u;
      behind = λ u. u;
      steady = λ x q h. (h, refl);
    }
