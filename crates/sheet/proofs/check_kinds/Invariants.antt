-- `check_kinds`: the kinds that are left give the number and the end of all, at each turn; a kind that is right ends within the sheet.
use Rattle.std.proofs.Common.{◌-◌}
use Rattle.sheet.specs.Kinds.{KindsRest}
use Rattle.sheet.proofs.check_kinds.Given as goal

abbrev pub invariant-loop : goal.invariant-loop
invariant-loop l = KindsRest l.layout.version l.fn.layout.head l.s l.at (l.fn.layout.head.kinds - l.counter)
