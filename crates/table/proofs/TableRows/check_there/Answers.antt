-- `check_there`: each turn is a batch of those that are left.
use Rattle.std.proofs.Common.{ℕ, ◌*◌, refl, ap}
use Rattle.std.proofs.lemmas.Result.{err_from_is_err_and}
use Rattle.table.proofs.Runs.{transitions_run_lem, batch, batch_next, batch_right, batch_wrong}
use Rattle.table.proofs.There.{others_there}
use Rattle.table.proofs.TableRows.check_there.Goals as goal

pub returns-in_err-check_batch : goal.returns-in_err-check_batch
returns-in_err-check_batch c =
    let p = err_from_is_err_and c.from_residual.result c.from_residual.ensures.1 in
    rw (p.1, p.2)
    (batch_wrong _ (transitions_run_lem _ _ _ _).turns _ (λ at. refl) _ _ _ _ _ (batch_next _ _ c.loop-test.true) c.loop.invariant.number _ c.in_err-check_batch.ensures)

pub loop-preserved : goal.loop-preserved
loop-preserved c =
    let sum = batch_next _ _ c.loop-test.true in
    let here = ap (λ (long : ℕ). long * batch) c.transition_length.ensures.value in
    record {
      number = batch_right _ (transitions_run_lem _ _ _ _).turns _ (λ at. refl) _ _ _ _ _ sum c.loop.invariant.number _ here c.in_ok-check_batch.ensures;
      there = others_there _ _ _ _ _ _ _ sum c.loop.invariant.there here;
    }
