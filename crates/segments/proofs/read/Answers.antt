-- `segments::read` meets its contract.
use Rattle.segments.proofs.Records.{tag_read, rest_read}
use Rattle.model.specs.Tag as Tag
use Rattle.segments.proofs.read.Goals as goal

pub returns-in-0 : goal.returns-in-0
returns-in-0 c = (
  tag_read c.tag.ensures c.class-class.ensures c.place-place.ensures c.owner-mutator.ensures Tag.free c.in-0.is,
  c.kept-kept.ensures,
  c.handed-handed.ensures,
)

pub returns-in-1 : goal.returns-in-1
returns-in-1 c = (
  tag_read c.tag.ensures c.class-class.ensures c.place-place.ensures c.owner-mutator.ensures Tag.part c.in-1.is,
  c.kept-kept.ensures,
  c.handed-handed.ensures,
)

pub returns-in-2 : goal.returns-in-2
returns-in-2 c = (
  tag_read c.tag.ensures c.class-class.ensures c.place-place.ensures c.owner-mutator.ensures Tag.held c.in-2.is,
  c.kept-kept.ensures,
  c.handed-handed.ensures,
)

pub returns-in-3 : goal.returns-in-3
returns-in-3 c = (
  tag_read c.tag.ensures c.class-class.ensures c.place-place.ensures c.owner-mutator.ensures Tag.full c.in-3.is,
  c.kept-kept.ensures,
  c.handed-handed.ensures,
)

pub returns-in_default : goal.returns-in_default
returns-in_default c = (
  rest_read c.tag.ensures c.class-class.ensures c.place-place.ensures c.owner-mutator.ensures
      c.in_default.in_default-own.rest.0.0.0.1 c.in_default.in_default-own.rest.0.0.1 c.in_default.in_default-own.rest.0.1 c.in_default.in_default-own.rest.1,
  c.kept-kept.ensures,
  c.handed-handed.ensures,
)
