-- `least_list`: nothing is watched first, and then each register that may be given twice.
use Rattle.judging.proofs.Best.{best_first, best_skips, best_turn}
use Rattle.judging.proofs.least_list.Goals as goal
use Rattle.judging.proofs.least_list.Goals.{then-not-free_run, else-not-free_run}

pub loop-i-init : goal.loop-i-init
loop-i-init c = best_first _ _ _ c.improve.ensures

pub loop-i-preserved : goal.loop-i-preserved
loop-i-preserved c = elim c.if-not-free_run.branch [
  | then-not-free_run w ↦
      rw w.best-is (best_turn _ _ c.args.table.now.read c.args.twice _ c.loop-i-test.true _ c.loop-i.invariant _ w.improve-then-not-free_run.ensures)
  | else-not-free_run w ↦
      rw w.best-is (best_skips _ _ c.args.table.now.read _ _ c.loop-i-test.true _ c.loop-i.invariant c.requires _ c.free_run.ensures w.if-not-free_run.false)
]
