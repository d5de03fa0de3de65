-- `bracket_forms::read_form` meets its contract. The loop's invariant: the texts of the kinds tried so far do not match.
use Prim.Native.Nat.{ℕ, ◌<◌}
use mathlib.Core.Path.{◌≡◌}
use mathlib.Core.Option.{none}
use Rattle.bracket_text.specs.Scan.{zeros, matched}
use Rattle.bracket_forms.specs.Kinds.{template_at}
use Rattle.bracket_forms.proofs.read_form.Given as goal

abbrev pub invariant-loop-kind : goal.invariant-loop-kind
invariant-loop-kind l = (j : ℕ) → j < l.kind → matched (template_at j) 0 zeros l.line ≡ none
