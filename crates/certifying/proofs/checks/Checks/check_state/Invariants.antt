-- `check_state`: before kind k the transitions of the kinds below it hold.
use Rattle.certifying.specs.Checked.{RowIs}
use Rattle.certifying.proofs.checks.Checks.check_state.Given as goal

abbrev pub invariant-loop-k : goal.invariant-loop-k
invariant-loop-k l = RowIs l.table.table l.table.bytes.now l.sets l.state l.here l.k l.initial.self l.self
