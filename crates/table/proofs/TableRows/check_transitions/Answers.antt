-- `check_transitions`: those that are there, and then whether others are missing.
use Rattle.std.proofs.lemmas.Result.{err_from_is_err_and}
use Rattle.std.proofs.Common.{sym, ◌∙◌}
use Rattle.convention.proofs.Results.{passed, refused}
use Rattle.table.proofs.There.{there_number}
use Rattle.table.proofs.TableRows.check_transitions.Goals as goal

pub returns-in_err-check_there : goal.returns-in_err-check_there
returns-in_err-check_there c =
    let p = err_from_is_err_and c.from_residual.result c.from_residual.ensures.1 in
    rw (p.1, p.2, there_number _ _ _ _ _ _ _ c.transitions_there-there.ensures) (refused _ _ _ c.in_err-check_there.ensures)

pub returns : goal.returns
returns c =
    rw (there_number _ _ _ _ _ _ _ c.transitions_there-there.ensures) (c.check.ensures ∙ sym (passed _ _ c.in_ok-check_there.ensures))
