-- `check_kinds`: each turn is one of a run of kinds.
use Rattle.std.proofs.lemmas.Result.{err_from_is_err_and}
use Rattle.table.proofs.Runs.{kinds_run_lem, run_turn, run_hit, run_done}
use Rattle.table.proofs.check_kinds.Goals as goal

pub returns-in_err-check_shape : goal.returns-in_err-check_shape
returns-in_err-check_shape c =
    let p = err_from_is_err_and c.from_residual.result c.from_residual.ensures.1 in
    rw (p.1, p.2) (run_hit _ _ _ _ _ _ (kinds_run_lem _ _ _) _ c.loop.invariant c.loop-test.true c.in_err-check_shape.ensures)

pub loop-preserved : goal.loop-preserved
loop-preserved c =
    run_turn _ _ _ _ _ _ (kinds_run_lem _ _ _) _ c.loop.invariant c.loop-test.true c.in_ok-check_shape.ensures c.shape_length-at.ensures.value

pub returns : goal.returns
returns c = run_done _ _ _ _ _ _ (kinds_run_lem _ _ _) c.loop.invariant c.loop-test.false
