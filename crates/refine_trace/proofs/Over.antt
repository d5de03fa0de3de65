-- A memory with other words for the trace stack and other marks, which are what pushes change.
use mathlib.Core.Path.{◌≡◌, refl}
use mathlib.Core.Bool.{true}
use native.Mathlib.Omega.{arith}
use borrow.Author.Tests.{eqb-true}
use Rattle.classes.specs.Class.{IsClass}
use Rattle.layout.specs.Geometry.{segment_of, mark_bit}
use Rattle.model.specs.Fields.{tag, class}
use Rattle.model_laws.proofs.Segments.{in_range}
use Rattle.model.specs.Tag as Tag
use mathlib.Core.List.{List}
use mathlib.Core.Option.{some}
use Prim.Native.Nat.{ℕ, suc, ◌+◌, ◌<◌}
use lib.Dec.{eqb}
use lib.ListN.{get_or, set}
use Rattle.basics.specs.Pick.{pick}
use Rattle.words.specs.Bits.{bit_at, set_bit}
use Rattle.layout.specs.declared.Geometry.{Geometry}
use Rattle.layout.specs.Mem.{Mem, Sizes, set_control, set_trace, set_mutator, set_heap}
use Rattle.model.specs.Records.{set_entered}
use Rattle.model.specs.Tracing.{push}
use Rattle.model.specs.Consistent.{SegmentOk}
use Rattle.refine_view.proofs.Frames.{beside}

-- with the control words c, the marks q and the entries t
abbrev pub over : Mem → List ℕ → List ℕ → List ℕ → Mem
over m c q t = beside m c m.mutators q t m.heap

pub over_self : (m : Mem) → m ≡ over m m.control m.marks m.trace
over_self m = refl

pub push_over : (g : Geometry) (m : Mem) (c q t : List ℕ) (at : ℕ)
    → push g (over m c q t) (some at) ≡ pick (eqb (bit_at q (mark_bit at)) 1) (over m c q t)
    (over m (set c 1 (get_or c 1 0 + 1)) (set_bit q (mark_bit at)) (set t (get_or c 1 0) (suc at)))
unfolding push set_trace set_control set_entered
push_over g m c q t at = refl

pub mutator_over : (m : Mem) (c q t : List ℕ) (i v : ℕ) → set_mutator (over m c q t) i v ≡ over (set_mutator m i v) c q t
unfolding set_mutator
mutator_over m c q t i v = refl

pub heap_over : (m : Mem) (c q t : List ℕ) (i v : ℕ) → set_heap (over m c q t) i v ≡ over (set_heap m i v) c q t
unfolding set_heap
heap_over m c q t i v = refl

-- every segment is in order
abbrev pub Segments : Geometry → Mem → Type 0
Segments g m = (s : ℕ) → s < g.segments → SegmentOk g m s

pub condemned_class : (g : Geometry) (m : Mem) → Sizes g m → Segments g m → (x : ℕ) → eqb (tag m (segment_of g x)) Tag.condemned ≡ true → IsClass (class m (segment_of g x))
condemned_class g m s f x e =
    let u : tag m (segment_of g x) ≡ Tag.condemned = eqb-true _ _ e in
    (f (segment_of g x) (in_range g m s (segment_of g x) (λ z. omega arith))).classes (λ z. omega arith)
