-- `right_count`: the count is the number needed, or it is not.
use Rattle.convention.specs.Shapes.{right_count}
use Rattle.fields.proofs.shapes.right_count.Goals as goal

pub returns : goal.returns
unfolding right_count
returns c = rw c.registers_needed-needed.ensures
