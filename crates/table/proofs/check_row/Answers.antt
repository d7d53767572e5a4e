-- `check_row`: a table that can be read has its number of states.
use Rattle.convention.specs.Numbers.{state_limit}
use Rattle.table.proofs.Whole.{states_asked}
use Rattle.table.proofs.check_row.Goals as goal

pub states_of-requires : goal.states_of-requires
states_of-requires c = states_asked state_limit _ c.in_ok-check_table.ensures
