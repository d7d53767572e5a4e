-- `read`: what 01 promises of a table that was read.
use Rattle.std.proofs.Common.{sym}
use Rattle.convention.specs.Numbers.{state_limit}
use Rattle.convention.proofs.Tables.{table_read}
use Rattle.table.proofs.reading.ReadTable.read.Goals as goal

pub invariant_of-result : goal.invariant_of-result
invariant_of-result c = record { read = rw c.table_of-table.ensures (table_read state_limit _ (sym c.in_ok-check_table.ensures)) }
