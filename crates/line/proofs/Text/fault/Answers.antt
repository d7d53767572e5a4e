-- `fault`: the word, the two numbers and the kinds in a row are the fields of a fault.
use Rattle.convention.specs.Program.{verdict_fields}
use Rattle.line.proofs.Appending.{in_a_row}
use Rattle.line.proofs.Text.fault.Goals as goal

pub returns : goal.returns
unfolding verdict_fields
returns c = in_a_row c.word.ensures (in_a_row c.further.ensures (in_a_row c.further-2.ensures c.kinds.ensures))
