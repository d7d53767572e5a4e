-- `read_table`: the table's fields, or the refusal.
use Rattle.std.proofs.lemmas.Result.{err_from_is_err_and}
use Rattle.convention.specs.Numbers.{state_limit}
use Rattle.table.proofs.Whole.{answer_read, answer_refused}
use Rattle.table.proofs.read_table.Goals as goal

pub returns-in_err-check_table : goal.returns-in_err-check_table
returns-in_err-check_table c = let p = err_from_is_err_and c.from_residual.result c.from_residual.ensures.1 in
    rw (p.1, p.2) (answer_refused state_limit _ _ c.in_err-check_table.ensures)

pub returns : goal.returns
returns c = rw c.table_of.ensures (answer_read state_limit _ c.in_ok-check_table.ensures)
