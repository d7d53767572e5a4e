-- `write_front`: the opening, the kinds and N, one after the other.
use Rattle.building.proofs.Writing.{front_written}
use Rattle.building.proofs.writer.BuiltTable.write_front.Goals as goal

pub returns : goal.returns
returns c = front_written _ _ _ _ _ _ _ c.requires c.write_opening.ensures c.write_kinds.ensures (rw c.layout.ensures at c.states_at-at.ensures.value) _ c.write_state.ensures
