-- `stepping::mark_run` meets its contract: marking a run adds its bits.
use mathlib.Core.Path.{sym}
use Rattle.stepping.proofs.Sets.{mark_set}
use Rattle.stepping.proofs.mark_run.Goals as goal

pub returns : goal.returns
returns c = rw c.run.ensures (sym (mark_set 16 _ _ _ c.requires))
