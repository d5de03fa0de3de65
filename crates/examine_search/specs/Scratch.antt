-- The scratch as the state of a search: a bit for each block, then a stack with room for each. And what following words, a turn and the whole search do.
use Rattle.std.specs.Prelude.{◌≡◌, Bool, true, false, List, ℕ, ◌+◌, ◌<◌, length, get_or, set, Option, Some, None}
use Rattle.words.specs.Bits.{bit_at, set_bit}
use Rattle.layout.specs.declared.Geometry.{Geometry}
use Rattle.layout.specs.Geometry.{Sized, len}
use Rattle.layout.specs.Mem.{Mem}
use Rattle.graph_search.specs.Walk.{State, Graph, Seen, OnStack, Valid, Run, Fails, Reached, Exact}
use Rattle.examine_search.specs.Graph.{records_of}
use Rattle.layout.specs.Region as Region

abbrev pub search_words : Geometry → ℕ
search_words g = len g Region.marks + len g Region.trace

abbrev pub state_of : Geometry → List ℕ → ℕ → State
state_of g scratch t = record { seen = bit_at scratch; entry = λ i. get_or scratch (len g Region.marks + i) 0; top = t }

-- no bit is 1
abbrev pub Blank : Geometry → List ℕ → Type 0
Blank g scratch = (k : ℕ) → k < len g Region.trace → bit_at scratch k ≡ 0

-- memory and scratch have their lengths
pub record Lent (g : Geometry) (memory scratch : List ℕ) : Type 0 where
  pub sized : Sized g (length memory)
  pub room : length scratch ≡ search_words g

-- the record at a word, with bit k, becomes seen; it goes on the stack if it was not
pub record Enters (g : Geometry) (at k : ℕ) (before : List ℕ) (top r : ℕ) (after : List ℕ) : Type 0 where
  pub old : bit_at before k ≡ 1 → (r ≡ top) × (after ≡ before)
  pub new : (bit_at before k ≡ 1 → ⊥) → (r ≡ top + 1) × (after ≡ set (set_bit before k) (len g Region.marks + top) at)

-- what following some names came to: the state after it, or a name that fails the test
abbrev pub Came : Geometry → Mem → (ℕ → Type 0) → State → Option ℕ → List ℕ → Type 0
Came g m Named s (Some t) after = Run (records_of g m) Named s (state_of g after t)
Came g m Named s None after = Fails (records_of g m) Named

-- the search: bits are exact, or a reached record fails the test
abbrev pub Searched : Graph → Bool → List ℕ → Type 0
Searched G true scratch = Exact G (bit_at scratch)
Searched G false scratch = Fails G.nodes (Reached G)

-- a state that the search may go on from: all that is seen waits on the stack
pub record Fresh (g : Geometry) (m : Mem) (scratch : List ℕ) (t : ℕ) : Type 0 where
  pub valid : Valid (records_of g m) (state_of g scratch t)
  pub waits : (x : ℕ) → Seen (records_of g m) (state_of g scratch t) x → OnStack (state_of g scratch t) x
