-- `table_of`: version, head, kinds and number of states, by what each call answers.
use Rattle.std.proofs.Common.{sym}
use Rattle.convention.specs.Numbers.{state_limit}
use Rattle.convention.specs.Tables.{table_of}
use Rattle.table.proofs.Whole.{kinds_asked, states_asked}
use Rattle.table.proofs.table_of.Goals as goal

pub kinds_of-kinds-requires : goal.kinds_of-kinds-requires
kinds_of-kinds-requires c = rw c.of-layout.ensures (kinds_asked state_limit _ (sym c.requires))

pub states_of-states-requires : goal.states_of-states-requires
states_of-states-requires c = states_asked state_limit _ (sym c.requires)

pub returns : goal.returns
unfolding table_of
returns c = rw (c.states_of-states.ensures, c.kinds_of-kinds.ensures, c.of-layout.ensures)
