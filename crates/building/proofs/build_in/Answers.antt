-- `build_in`: 11 where there are too many states, 12 where the table has no room; otherwise the rows are all there, and the length is the table's.
use Rattle.std.proofs.lemmas.Result.{err_from_is_err_and}
use Rattle.building.proofs.Answering.{many_refused, narrow_refused, write_asks, table_built}
use Rattle.building.proofs.build_in.Goals as goal

pub returns-in_err-states : goal.returns-in_err-states
returns-in_err-states c =
    let p = err_from_is_err_and c.from_residual.result c.from_residual.ensures.1 in
    rw (p.1, p.2) (many_refused _ _ _ c.in_err-states.ensures)

pub returns-in_err-check : goal.returns-in_err-check
returns-in_err-check c =
    let p = err_from_is_err_and c.from_residual-in_err-check.result c.from_residual-in_err-check.ensures.1 in
    rw (p.1, p.2) (narrow_refused _ _ _ _ _ c.in_ok-states.ensures c.table_length-length.ensures _ c.in_err-check.ensures)

pub write-requires : goal.write-requires
write-requires c = write_asks _ _ _ _ _ c.in_ok-states.ensures c.table_length-length.ensures c.in_ok-check.ensures

pub returns : goal.returns
returns c = table_built _ _ _ _ _ c.in_ok-states.ensures c.table_length-length.ensures c.in_ok-check.ensures _ c.write.ensures
