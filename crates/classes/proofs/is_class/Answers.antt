-- `classes::is_class` meets its contract.
use borrow.Author.Tests.{lt-ltb, le-ltb, lt-leb}
use Rattle.classes.specs.Class.{class_test}
use Rattle.classes.proofs.is_class.Goals as goal

pub returns-then-class-ge-FIRST_CLASS : goal.returns-then-class-ge-FIRST_CLASS
unfolding class_test
returns-then-class-ge-FIRST_CLASS c = rw (le-ltb _ _ c.if-class-ge-FIRST_CLASS.true)

pub returns-else-class-ge-FIRST_CLASS : goal.returns-else-class-ge-FIRST_CLASS
unfolding class_test
returns-else-class-ge-FIRST_CLASS c = rw (lt-ltb _ _ c.if-class-ge-FIRST_CLASS.false, lt-leb _ _ c.if-class-ge-FIRST_CLASS.false)
