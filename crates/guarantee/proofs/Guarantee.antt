-- The guarantee: both halves of demand 3, over every list of calls from where a list begins.
use Rattle.guarantee.specs.Demand3.{Demand3}
use Rattle.guarantee.proofs.Walks.{answers_on}
use Rattle.guarantee.proofs.Beginning.{first_point}
use Rattle.guarantee.proofs.Freeing.{garbage_freed}

pub guarantee : Demand3
guarantee = record {
  answers = λ g words w es b ch. answers_on g es words w (first_point g words w b) ch;
  frees = garbage_freed;
}
