-- The search as a function: it runs with fuel for as many turns as there are nodes. Nodes are tested before they are followed.
use Rattle.std.specs.Prelude.{◌≡◌, Bool, true, ℕ, zero, suc, ◌+◌, ◌≤◌, ◌<◌, eqb}
use Rattle.std.proofs.Math.Option.{Option, none, some}
use Rattle.basics.specs.Pick.{pick}
use Rattle.words.specs.Bits.{ones_among}
use Rattle.graph_search.specs.Walk.{State, Nodes, popped, Graph, Reached, Exact, Fails}

-- a function changed at one place
abbrev pub put : (ℕ → ℕ) → ℕ → ℕ → ℕ → ℕ
put f k v i = pick (eqb i k) v (f i)

-- among the first n of a list of edges one names x
pub record Names (edges : ℕ → Option ℕ) (n : ℕ) (x : ℕ) : Type 0 where
  pub index : ℕ
  pub within : index < n
  pub names : edges index ≡ some x

-- nothing is seen, and the stack is empty
abbrev pub empty : State
empty = record { seen = λ k. 0; entry = λ i. 0; top = 0 }

-- 1, or 0 where the number is 0
abbrev pub at_most_one : ℕ → ℕ
at_most_one zero = 0
at_most_one (suc n) = 1

module _ (size : ℕ) (ok : ℕ → Bool) (place : ℕ → ℕ) where
  abbrev pub nodes_of : Nodes
  nodes_of = record { size = size; Ok = λ x. ok x ≡ true; place = place }

  abbrev pub pushed : State → ℕ → State
  pushed s x = record { seen = put s.seen (place x) 1; entry = put s.entry s.top x; top = suc s.top }

  -- x becomes seen, and goes on the stack unless it was
  abbrev pub enter : State → ℕ → State
  enter s x = pick (eqb (s.seen (place x)) 1) s (pushed s x)

  -- one edge; none once an edge has named a node that does not pass
  abbrev pub follow : Option State → Option ℕ → Option State
  follow none e = none
  follow (some s) none = some s
  follow (some s) (some x) = pick (ok x) (some (enter s x)) none

  abbrev pub follow_all : (ℕ → Option ℕ) → ℕ → Option State → Option State
  follow_all edges zero o = o
  follow_all edges (suc n) o = follow (follow_all edges n o) (edges n)

  module _ (degree : ℕ → ℕ) (edge : ℕ → ℕ → Option ℕ) where
    -- the edges of the last entry of t + 1, taken off
    abbrev pub turn_at : State → ℕ → Option State
    turn_at s zero = some s
    turn_at s (suc t) = follow_all (edge (s.entry t)) (degree (s.entry t)) (some (popped s t))

    abbrev pub turn : Option State → Option State
    turn none = none
    turn (some s) = turn_at s s.top

    -- as many turns as there is fuel for; at an empty stack a turn does nothing
    abbrev pub search : ℕ → Option State → Option State
    search zero o = o
    search (suc n) o = search n (turn o)

    -- how many of those turns took a node off the stack
    abbrev pub busy : Option State → ℕ
    busy none = 0
    busy (some s) = at_most_one s.top

    abbrev pub turns : ℕ → Option State → ℕ
    turns zero o = 0
    turns (suc n) o = busy o + turns n (turn o)

    module _ (root_count : ℕ) (root_at : ℕ → Option ℕ) where
      abbrev pub graph_of : Graph
      graph_of = record { nodes = nodes_of; Root = Names root_at root_count; Edge = λ x. Names (edge x) (degree x) }

      abbrev pub started : Option State
      started = follow_all root_at root_count (some empty)

      -- the whole search
      abbrev pub searched : Option State
      searched = search size started

      -- its law: both ways; each node is taken once
      pub record Law : Type 0 where
        pub exact : (s : State) → searched ≡ some s → Exact graph_of s.seen
        pub fails : searched ≡ none → Fails nodes_of (Reached graph_of)
        -- after any number of turns the stack has at most as many entries as there are nodes
        pub room : (m : ℕ) (s : State) → search m started ≡ some s → s.top ≤ size
        pub once : (s : State) → searched ≡ some s → turns size started ≡ ones_among s.seen size
