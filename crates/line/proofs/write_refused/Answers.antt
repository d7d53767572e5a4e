-- `write_refused`: the word, the number and the line feed in a row are the line.
use Rattle.std.proofs.Common.{rules}
use Rattle.convention.specs.Program.{refused_line}
use Rattle.line.proofs.Appending.{in_a_row}
use Rattle.line.proofs.write_refused.Goals as goal

pub returns : goal.returns
unfolding refused_line
returns c = let done = in_a_row c.word.ensures (in_a_row c.further.ensures c.byte.ensures) in search rules
