-- `check`: its tests are what holding means, and what the state's set and the run share is found.
use Rattle.std.proofs.Common.{rules}
use Rattle.certifying.proofs.Checking.{transition_is}
use Rattle.certifying.proofs.checks.Checks.check.Goals as goal

pub returns : goal.returns
returns c = search (transition_is, rules)
