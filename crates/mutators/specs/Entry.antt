-- A mutator's entry as a whole. docs/LAYOUT.md has the order of its words.
use Rattle.std.specs.Prelude.{List, ◌∷◌, ◌++◌, ℕ, ◌-◌, replicate}
use Rattle.layout.specs.Geometry.{mutator_words, root_count}
use Rattle.model.specs.Fields.{held_from}

-- root 0, a state and acknowledgements; the other roots are nil, and no segment is held
abbrev pub entry_of : ℕ → ℕ → ℕ → List ℕ
entry_of root state acks = root ∷ replicate (root_count - 1) 0 ++ state ∷ acks ∷ replicate (mutator_words - held_from) 0
