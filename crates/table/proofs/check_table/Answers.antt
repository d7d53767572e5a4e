-- `check_table`: what is right has the bytes of what is tested after it.
use Rattle.table.proofs.Whole.{opened}
use Rattle.table.proofs.check_table.Goals as goal

pub check_kinds-requires : goal.check_kinds-requires
check_kinds-requires c = opened _ c.in_ok-check_opening.ensures
