-- `set_number`: before register i - 1 is counted, the number is that of the registers from i on.
use Rattle.building.specs.Keys.{NumberFrom}
use Rattle.building.proofs.memory.set_number.Given as goal

abbrev pub invariant-loop-i : goal.invariant-loop-i
invariant-loop-i l = NumberFrom l.flags l.i l.number
