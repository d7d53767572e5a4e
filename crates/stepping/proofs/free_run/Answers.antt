-- `stepping::free_run` meets its contract: a run is free where the set shares no bit with it.
use Rattle.stepping.proofs.Sets.{free_set}
use Rattle.stepping.proofs.free_run.Goals as goal

pub returns : goal.returns
returns c = rw c.run.ensures (free_set 16 _ _ _ c.requires)
