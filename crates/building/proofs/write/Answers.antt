-- `write`: what stands before the rows, and the rows after it.
use Rattle.building.proofs.Writing.{front_asks, copy_asks, table_written}
use Rattle.building.proofs.write.Goals as goal

pub write_front-requires : goal.write_front-requires
write_front-requires c = rw c.new-table.ensures (front_asks _ _ _ _ c.args.rules.now.read c.requires)

pub write_rows-requires : goal.write_rows-requires
write_rows-requires c = rw c.new-table.ensures (copy_asks _ _ _ _ c.args.rules.now.read c.requires _ (rw c.new-table.ensures at c.write_front.ensures))

pub returns : goal.returns
returns c = table_written _ _ _ _ c.args.rules.now.read c.requires _ (rw c.new-table.ensures at c.write_front.ensures) _ (rw c.new-table.ensures at c.write_rows.ensures)
