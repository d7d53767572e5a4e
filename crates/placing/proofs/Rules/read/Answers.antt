-- `Rules::read`: a sheet that could be read has the values that 01 allows.
use Rattle.placing.proofs.Calls.{right, is_sheet, was_read}
use Rattle.placing.proofs.Rules.read.Goals as goal

pub invariant_of-result : goal.invariant_of-result
invariant_of-result c = record { read = was_read _ _ c.in_ok-sheet.ensures }

pub returns : goal.returns
returns c = (right _ _ c.in_ok-sheet.ensures, is_sheet _ _ c.in_ok-sheet.ensures)
