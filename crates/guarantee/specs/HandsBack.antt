-- Request No. 2: "A detach hands back up to eleven segments, as a class 14 one is full from its first block." What a detach that is not
-- refused hands back, and what a make of a class of one block leaves, over memory that passes the examination and not only along lists
-- from an opening. Both go by the number of blocks, and not by the class.
use Rattle.std.specs.Prelude.{◌≡◌, List, [], ◌∷◌, ◌++◌, ℕ, zero, suc, ◌+◌, ◌≤◌, ◌<◌, leb, eqb, length, get_or, Some, Ok}
use Rattle.basics.specs.Pick.{pick, one_if}
use Rattle.words.specs.Bits.{ones_among}
use Rattle.classes.specs.Class.{first_class, class_count, class_of}
use Rattle.layout.specs.declared.Geometry.{Geometry}
use Rattle.layout.specs.Geometry.{large_kib, blocks_in, segment_of}
use Rattle.layout.specs.Mem.{Mem, mem_of}
use Rattle.theory.specs.Calls.{c_detach, c_make}
use Rattle.model.specs.declared.Answer.TheVariants.{Done}
use Rattle.model.specs.Fields.{root, holding, tag, class, place, owner}
use Rattle.model.specs.Lists.{call_element}
use Rattle.guarantee.specs.Keeping.{Applied}
use Rattle.model.specs.Tag as Tag

-- how many classes have two blocks or more in a segment
abbrev pub shared_classes : Geometry → ℕ
shared_classes g = ones_among (λ i. one_if (leb 2 (blocks_in g (first_class + i)))) class_count

-- No. 2: "up to eleven"; No. 6: "Each class has twice the blocks it has at 16 KiB, so a detach may hand back twelve segments."
abbrev pub Shared : Type 0
Shared = (g : Geometry) → shared_classes g ≡ pick (eqb g.kib large_kib) 12 11

-- ---- what a detach hands back

-- the segment that a word of a mutator's entry names, if it names one
abbrev pub named_by : ℕ → List ℕ
named_by zero = []
named_by (suc s) = s ∷ []

-- the segments that mutator k's entry names, in class order: of the first n classes, and of all
abbrev pub named_in : Mem → ℕ → ℕ → List ℕ
named_in m k zero = []
named_in m k (suc n) = named_in m k n ++ named_by (holding m k (first_class + n))

abbrev pub handed_back : Mem → ℕ → List ℕ
handed_back m k = named_in m k class_count

abbrev pub StandsIn : ℕ → List ℕ → Type 0
StandsIn s xs = (i : ℕ) × (i < length xs) × (get_or xs i 0 ≡ s)

-- "held (class, place, script)": a segment of the heap that mutator k holds
abbrev pub HeldBy : Geometry → Mem → ℕ → ℕ → Type 0
HeldBy g m k s = (s < g.segments) × (tag m s ≡ Tag.held) × (owner m s ≡ k)

-- from memory m to memory m', by a detach of mutator k
pub record HandsBack (g : Geometry) (m m' : Mem) (k : ℕ) : Type 0 where
  -- "up to": a class of one block is among them never
  pub few : length (handed_back m k) ≤ shared_classes g
  pub once : (i j : ℕ) → i < j → j < length (handed_back m k) → get_or (handed_back m k) i 0 ≡ get_or (handed_back m k) j 0 → ⊥
  -- they are those that the mutator holds
  pub exactly : (s : ℕ) → (StandsIn s (handed_back m k) → HeldBy g m k s) × (HeldBy g m k s → StandsIn s (handed_back m k))
  -- "held segments go to part, places kept": no mutator has them
  pub parts : (s : ℕ) → StandsIn s (handed_back m k)
      → (tag m' s ≡ Tag.part) × (class m' s ≡ class m s) × (place m' s ≡ place m s) × (owner m' s ≡ 0)
  pub others : (s : ℕ) → (StandsIn s (handed_back m k) → ⊥)
      → (tag m' s ≡ tag m s) × (class m' s ≡ class m s) × (place m' s ≡ place m s) × (owner m' s ≡ owner m s)

abbrev pub EveryHandsBack : Type 0
EveryHandsBack =
    (g : Geometry) (words after : List ℕ) (k : ℕ) → Applied g words (call_element (c_detach k) g words (Ok Done) after)
    → HandsBack g (mem_of g words) (mem_of g after) k

-- ---- a make of a class of one block

-- from memory m to memory m', by a make into root d of mutator k: the record that the root names is of a segment that was free, and that is full
pub record FullAtOnce (g : Geometry) (m m' : Mem) (k d : ℕ) : Type 0 where
  pub at : ℕ
  pub named : root m' k d ≡ suc at
  pub free : tag m (segment_of g at) ≡ Tag.free
  pub full : tag m' (segment_of g at) ≡ Tag.full

-- at 32 KiB no class has one block, so this says nothing there
abbrev pub EveryFullAtOnce : Type 0
EveryFullAtOnce =
    (g : Geometry) (words after : List ℕ) (k d p n c : ℕ) → Applied g words (call_element (c_make k d p n) g words (Ok Done) after)
    → class_of (p + n) ≡ Some c → blocks_in g c ≡ 1 → FullAtOnce g (mem_of g words) (mem_of g after) k d
