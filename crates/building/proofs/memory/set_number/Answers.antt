-- `set_number`: one register more is counted at each turn.
use Rattle.std.proofs.Common.{arith, rules}
use Rattle.building.proofs.Keyed.{number_on}
use Rattle.building.proofs.memory.set_number.Goals as goal

pub loop-i-preserved : goal.loop-i-preserved
loop-i-preserved c = number_on _ (search rules) _ _ c.loop-i.invariant c.loop-i-test.true (omega arith)
