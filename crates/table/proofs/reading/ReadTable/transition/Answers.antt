-- `transition`: a table that was read has the bytes of each of its transitions, and each is as 01 allows it.
use Rattle.table.proofs.Rows.{transition_there, transition_read}
use Rattle.table.proofs.reading.ReadTable.transition.Goals as goal

pub transition_of-requires : goal.transition_of-requires
transition_of-requires c = transition_there _ _ _ _ _ c.args.self.now.read c.requires

pub returns-clause-allowed : goal.returns-clause-allowed
returns-clause-allowed c = transition_read _ _ _ _ _ c.args.self.now.read c.requires _ c.transition_of.ensures
