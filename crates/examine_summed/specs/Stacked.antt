-- The stacks of segments by their numbers, and a stack whose entries are entered one after the other in a table with a word for each segment.
use Rattle.std.specs.Prelude.{◌≡◌, Bool, true, false, List, ℕ, zero, suc, ◌+◌, ◌<◌, length, get_or, set}
use Rattle.classes.specs.Class.{first_class}
use Rattle.layout.specs.declared.Geometry.{Geometry}
use Rattle.layout.specs.Geometry.{max_segments}
use Rattle.layout.specs.Mem.{Mem}
use Rattle.model.specs.Segments.{count, entry}
use Rattle.model.specs.Consistent.{StackOk, is_free, is_part}

-- "Free and part segments lie on stacks .. each class has its own part stack": which belong on stack t
abbrev pub on_stack : Mem → ℕ → ℕ → Bool
on_stack m zero s = is_free m s
on_stack m (suc t) s = is_part m (first_class + t) s

abbrev pub OrderedStack : Geometry → Mem → ℕ → Type 0
OrderedStack g m t = StackOk g m t (on_stack m t)

-- entry i of stack t, entered in the table of those seen: a segment that belongs on the stack and was not seen
pub record Enters (g : Geometry) (m : Mem) (t i : ℕ) (seen : List ℕ) (r : Bool) (after : List ℕ) : Type 0 where
  pub new : r ≡ true → (entry g m t i < g.segments) × (on_stack m t (entry g m t i) ≡ true) × (get_or seen (entry g m t i) 0 ≡ 0)
      × (after ≡ set seen (entry g m t i) 1)
  pub wrong : r ≡ false → entry g m t i < g.segments → on_stack m t (entry g m t i) ≡ true → get_or seen (entry g m t i) 0 ≡ 0 → ⊥

-- the first i entries are segments that belong on the stack, none of them twice, and the table has exactly these
pub record Seen (g : Geometry) (m : Mem) (t i : ℕ) (seen : List ℕ) : Type 0 where
  pub long : length seen ≡ max_segments
  pub members : (k : ℕ) → k < i → (entry g m t k < g.segments) × (on_stack m t (entry g m t k) ≡ true)
  pub once : (j k : ℕ) → j < k → k < i → entry g m t j ≡ entry g m t k → ⊥
  pub there : (k : ℕ) → k < i → get_or seen (entry g m t k) 0 ≡ 0 → ⊥
  pub only : (s : ℕ) → (get_or seen s 0 ≡ 0 → ⊥) → (k : ℕ) × (k < i) × (entry g m t k ≡ s)

-- all entries of stack t entered, or one that a stack in order has not
pub record EntersAll (g : Geometry) (m : Mem) (t : ℕ) (r : Bool) (after : List ℕ) : Type 0 where
  pub new : r ≡ true → Seen g m t (count g m t) after
  pub wrong : r ≡ false → OrderedStack g m t → ⊥
