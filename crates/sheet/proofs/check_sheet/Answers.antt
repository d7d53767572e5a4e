-- `check_sheet`: an opening that is right has a head.
use Rattle.sheet.proofs.Whole.{opened}
use Rattle.sheet.proofs.check_sheet.Goals as goal

pub check_kinds-requires : goal.check_kinds-requires
check_kinds-requires c = rw c.of.ensures (opened _ c.in_ok-check_opening.ensures)
