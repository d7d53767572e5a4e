-- `set_of`: at each turn the flags before the next register are told, and the rest of the number stands for the others.
use Rattle.building.specs.Keys.{SetUpTo}
use Rattle.building.proofs.memory.set_of.Given as goal

abbrev pub invariant-loop-flag : goal.invariant-loop-flag
invariant-loop-flag l = SetUpTo l.number l.flag-index l.rest l.flag-items
