-- `sweeping::state_after` meets its contract.
use mathlib.Core.Path.{refl, sym, ◌∙◌}
use borrow.Author.Tests.{eq-eqb, ne_eqb}
use Rattle.sweeping.specs.Sweeping.{state_after}
use Rattle.sweeping.proofs.state_after.Goals as goal

pub returns-then-kept-eq0 : goal.returns-then-kept-eq0
unfolding state_after
returns-then-kept-eq0 c = rw (eq-eqb _ _ c.if-kept-eq0.true) refl

pub returns-then-kept-blocks_in : goal.returns-then-kept-blocks_in
unfolding state_after
returns-then-kept-blocks_in c = rw (ne_eqb _ _ c.if-kept-eq0.false, eq-eqb _ _ (c.if-kept-blocks_in.true ∙ c.blocks_in.ensures)) refl

pub returns : goal.returns
unfolding state_after
returns c = rw (ne_eqb _ _ c.if-kept-eq0.false, ne_eqb _ _ (λ e. c.if-kept-blocks_in.false (e ∙ sym c.blocks_in.ensures))) refl
