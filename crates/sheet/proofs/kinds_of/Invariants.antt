-- `kinds_of`: after i turns the first i kinds stand in their places; each was found right before, so it ends within the sheet.
use Rattle.sheet.specs.Kinds.{KindsStored}
use Rattle.sheet.proofs.kinds_of.Given as goal

abbrev pub invariant-loop-i : goal.invariant-loop-i
invariant-loop-i l = KindsStored l.layout.version l.fn.layout.head l.s l.at l.i l.kinds
