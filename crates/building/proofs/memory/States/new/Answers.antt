-- `new`: no state is linked.
use Rattle.building.proofs.Linking.{nothing_linked}
use Rattle.building.proofs.memory.States.new.Goals as goal

pub invariant_of-result : goal.invariant_of-result
invariant_of-result c = nothing_linked
