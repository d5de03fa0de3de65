-- `attaching::require_spawn` meets its contract.
use Rattle.attaching.proofs.Coming.{spawn_2, parent_2, spawn_3, parent_rest}
use Rattle.attaching.proofs.require_spawn.Goals as goal

pub returns-then-mutator-ge-MUTATORS : goal.returns-then-mutator-ge-MUTATORS
returns-then-mutator-ge-MUTATORS c = spawn_2 _ _ _ _ c.if-mutator-ge-MUTATORS.true

pub returns-then-parent-ge-MUTATORS : goal.returns-then-parent-ge-MUTATORS
returns-then-parent-ge-MUTATORS c = parent_2 _ _ _ _ c.if-mutator-ge-MUTATORS.false c.if-parent-ge-MUTATORS.true

pub returns-then-own-ne-ABSENT : goal.returns-then-own-ne-ABSENT
returns-then-own-ne-ABSENT c = spawn_3 _ _ _ _ c.if-mutator-ge-MUTATORS.false c.if-parent-ge-MUTATORS.false _ c.state-own.ensures c.if-own-ne-ABSENT.true

pub returns : goal.returns
returns c =
    parent_rest _ _ _ _ c.if-mutator-ge-MUTATORS.false c.if-parent-ge-MUTATORS.false _ c.state-own.ensures c.if-own-ne-ABSENT.false _ c.require_root.ensures
