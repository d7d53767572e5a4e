-- `place_in`: what was decided is copied, and nothing else is written.
use Rattle.stepping.proofs.Calls.{list_written}
use Rattle.stepping.proofs.place_in.Goals as goal

pub returns : goal.returns
returns g c = list_written _ _ _ _ _ _ _ _ c.in_ok-placed.ensures c.copy.ensures
