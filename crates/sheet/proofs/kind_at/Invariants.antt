-- `kind_at`: once so many kinds are passed, the place is that of the next one, which stands within the sheet.
use Rattle.std.proofs.Common.{◌≡◌}
use Rattle.convention.specs.Sheets.{sheet_kind_at}
use Rattle.sheet.proofs.kind_at.Given as goal

abbrev pub invariant-loop : goal.invariant-loop
invariant-loop l = l.at ≡ sheet_kind_at l.version l.s l.counter
