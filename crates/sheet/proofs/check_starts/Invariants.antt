-- `check_starts`: the starts from this one on give the number of all, at each turn.
use Rattle.convention.specs.Sheets.{starts_no}
use Rattle.std.proofs.Common.{◌≡◌, ◌-◌}
use Rattle.sheet.proofs.check_starts.Given as goal

abbrev pub invariant-loop-at : goal.invariant-loop-at
invariant-loop-at l = starts_no l.registers l.needed l.s l.at (l.at-end - l.at) ≡ starts_no l.registers l.needed l.s l.first l.tries
