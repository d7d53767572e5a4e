-- `write_kinds`: one kind more is written at each turn.
use Rattle.building.proofs.Writing.{blocks_begin, kind_on}
use Rattle.building.proofs.writer.BuiltTable.write_kinds.Goals as goal

pub loop-k-init : goal.loop-k-init
loop-k-init c = blocks_begin _ _ _ _

pub loop-k-preserved : goal.loop-k-preserved
loop-k-preserved c = kind_on _ _ _ _ _ c.requires c.loop-k-test.true c.loop-k.invariant _ c.table_kind_at-at.ensures.value _ c.write_shape.ensures
