-- What writing one byte of a template does to the pen and the buffer.
use Rattle.std.specs.Prelude.{ℕ, ◌+◌, ◌≡◌, List, length}
use Rattle.decimals.specs.Placed.{placed}
use Rattle.bracket_text.specs.declared.Pen.{Pen}

pub record Put (before piece : List ℕ) (numbers : ℕ) (p r : Pen) (after : List ℕ) : Type 0 where
  pub at : r.at ≡ p.at + length piece
  pub count : r.count ≡ p.count + numbers
  pub buffer : after ≡ placed before p.at piece
