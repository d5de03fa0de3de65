-- A search under way, over any nodes and edges: its state, what each run over some names does to it, and what it has found at its end. Nothing here
-- says how bits and entries are kept: a state is three functions of them.
use Rattle.std.specs.Prelude.{◌≡◌, ◌⊎◌, ℕ, ◌+◌, ◌-◌, ◌≤◌, ◌<◌}
use Rattle.words.specs.Bits.{ones_among}
use Rattle.theory.specs.Reach.{Reach}

-- the visited bits, the entries of the stack, and how many there are
pub record State : Type 0 where
  pub seen : ℕ → ℕ
  pub entry : ℕ → ℕ
  pub top : ℕ

-- the same state with t entries
abbrev pub popped : State → ℕ → State
popped s t = record { seen = s.seen; entry = s.entry; top = t }

-- the nodes: those that pass the test, and the place of each among the bits
pub record Nodes : Type 1 where
  pub size : ℕ
  pub Ok : ℕ → Type 0
  pub place : ℕ → ℕ

-- places are below the size, and of two nodes that pass different
pub record Placed (T : Nodes) : Type 0 where
  pub small : (x : ℕ) → T.Ok x → T.place x < T.size
  pub apart : (x y : ℕ) → T.Ok x → T.Ok y → T.place x ≡ T.place y → x ≡ y

-- x passes and its bit is 1
abbrev pub Seen : Nodes → State → ℕ → Type 0
Seen T s x = T.Ok x × (s.seen (T.place x) ≡ 1)

pub record OnStack (s : State) (x : ℕ) : Type 0 where
  pub index : ℕ
  pub within : index < s.top
  pub names : s.entry index ≡ x

-- a node that passes and has place k
pub record At (T : Nodes) (k : ℕ) : Type 0 where
  pub node : ℕ
  pub ok : T.Ok node
  pub here : T.place node ≡ k

-- ---- what holds of every state

pub record Valid (T : Nodes) (s : State) : Type 0 where
  pub bits : (k : ℕ) → s.seen k < 2
  pub nodes : (k : ℕ) → k < T.size → s.seen k ≡ 1 → At T k
  pub stack : (i : ℕ) → i < s.top → Seen T s (s.entry i)
  -- so the stack has never more entries than there are nodes
  pub room : s.top ≤ ones_among s.seen T.size

-- ---- what a run over some names does: from s to s', the named nodes and no others become seen, each new one goes on the stack once

pub record Run (T : Nodes) (Named : ℕ → Type 0) (s s' : State) : Type 0 where
  pub valid : Valid T s'
  pub keeps : (x : ℕ) → Seen T s x → Seen T s' x
  pub stays : (x : ℕ) → OnStack s x → OnStack s' x
  pub fresh : (x : ℕ) → Seen T s' x → Seen T s x ⊎ (Named x × OnStack s' x)
  pub all : (x : ℕ) → Named x → Seen T s' x
  -- as many more entries as bits: each node is pushed once
  pub once : s'.top + ones_among s.seen T.size ≡ s.top + ones_among s'.seen T.size

-- a name that does not pass
pub record Fails (T : Nodes) (Named : ℕ → Type 0) : Type 0 where
  pub node : ℕ
  pub named : Named node
  pub fails : T.Ok node → ⊥

-- ---- the graph and the search

pub record Graph : Type 1 where
  pub nodes : Nodes
  pub Root : ℕ → Type 0
  pub Edge : ℕ → ℕ → Type 0

abbrev pub Reached : Graph → ℕ → Type 0
Reached G = Reach G.Root G.Edge

-- between two turns: what is seen is reached, roots are seen, and what is seen waits on the stack or has all its edges seen
pub record Underway (G : Graph) (s : State) : Type 0 where
  pub valid : Valid G.nodes s
  pub reached : (x : ℕ) → Seen G.nodes s x → Reached G x
  pub rooted : (x : ℕ) → G.Root x → Seen G.nodes s x
  pub closed : (x : ℕ) → Seen G.nodes s x → OnStack s x ⊎ ((y : ℕ) → G.Edge x y → Seen G.nodes s y)

-- what is left to do: each turn makes it 1 less
abbrev pub left : Graph → State → ℕ
left G s = s.top + (G.nodes.size - ones_among s.seen G.nodes.size)

-- at the end: a bit is 1 exactly when its node is reached, and every reached node passes
pub record Exact (G : Graph) (seen : ℕ → ℕ) : Type 0 where
  pub reached : (x : ℕ) → Reached G x → G.nodes.Ok x × (seen (G.nodes.place x) ≡ 1)
  pub only : (x : ℕ) → G.nodes.Ok x → seen (G.nodes.place x) ≡ 1 → Reached G x
  pub bits : (k : ℕ) → k < G.nodes.size → seen k ≡ 1 → At G.nodes k
