-- `search`: before each start, what is skipped is counted as in the whole, and the runs of those that were tried before it were passed; the first run that is free ends it.
use Rattle.placing.specs.RulesSteps.{Searching}
use Rattle.placing.proofs.search.Given as goal

abbrev pub invariant-loop-i : goal.invariant-loop-i
invariant-loop-i l = Searching l.taken l.kind.starts l.from l.kind.tries l.count l.i l.passed
