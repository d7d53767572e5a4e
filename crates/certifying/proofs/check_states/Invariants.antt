-- `check_states`: before a state those below it hold.
use Rattle.certifying.specs.Checked.{StatesHold}
use Rattle.certifying.proofs.check_states.Given as goal

abbrev pub invariant-loop-state : goal.invariant-loop-state
invariant-loop-state l = StatesHold l.table.table l.table.bytes.now l.sets l.state l.found
