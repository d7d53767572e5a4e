-- `kinds_of`: after i turns the first i kinds stand in their places, and blank ones after them.
use Rattle.std.proofs.Common.{◌≡◌, drop}
use Rattle.convention.specs.Layout.{kinds_at}
use Rattle.convention.specs.Sheets.{blank_shape}
use Rattle.convention.specs.Tables.{table_kinds_of}
use Rattle.convention.proofs.Filled.{filled}
use Rattle.table.proofs.kinds_of.Given as goal

abbrev pub invariant-loop-i : goal.invariant-loop-i
invariant-loop-i l = l.kinds ≡ filled (table_kinds_of l.layout.version (drop kinds_at l.t) l.fn.layout.head.kinds) 8 blank_shape l.i
