-- `write_unjudged`: the two numbers and the line feed in a row are the line.
use Rattle.std.proofs.Common.{rules, append_assoc}
use Rattle.convention.specs.Program.{verdict_fields, line}
use Rattle.line.proofs.Appending.{in_a_row}
use Rattle.line.proofs.write_unjudged.Goals as goal

pub returns : goal.returns
unfolding line verdict_fields
returns c = let done = rw append_assoc at (in_a_row c.built.ensures c.byte.ensures) in search rules
