-- `lead`: the rules' step at p = the remainder, on the bits of the flags; the state after it stands in the next allocation state.
use borrow.Author.Rules.{rules}
use Rattle.building.proofs.Leading.{led}
use Rattle.building.proofs.lead.Goals as goal

pub returns : goal.returns
returns c = led _ _ _ _ _ _ _ (search rules) c.set_number-unavailable.ensures.value c.step-stepped.ensures c.allocation-next.ensures
