-- `check_state`: one more kind.
use Rattle.std.proofs.Common.{rules}
use Rattle.certifying.proofs.Checking.{row_on}
use Rattle.certifying.proofs.checks.Checks.check_state.Goals as goal

pub loop-k-preserved : goal.loop-k-preserved
loop-k-preserved c = search (row_on, rules)
