-- `built`: the two numbers in a row.
use Rattle.line.proofs.Appending.{in_a_row}
use Rattle.line.proofs.Text.built.Goals as goal

pub returns : goal.returns
returns c = in_a_row c.number.ensures c.further.ensures
