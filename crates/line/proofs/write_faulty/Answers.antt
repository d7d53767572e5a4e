-- `write_faulty`: the two numbers, the fields of the fault and the line feed in a row are the line.
use Rattle.std.proofs.Common.{rules, append_assoc}
use Rattle.convention.specs.Program.{line}
use Rattle.line.proofs.Appending.{in_a_row}
use Rattle.line.proofs.write_faulty.Goals as goal

pub returns : goal.returns
unfolding line
returns c = let done = rw append_assoc at (in_a_row c.built.ensures (in_a_row c.fault.ensures c.byte.ensures)) in search rules
