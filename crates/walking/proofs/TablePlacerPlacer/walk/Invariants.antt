-- `walk`: what is left of the list answers the whole; the walk stands in a state of the table, with p within reach.
use Rattle.walking.specs.TableSteps.{as_table, TableStanding}
use Rattle.walking.proofs.TablePlacerPlacer.walk.Given as goal

abbrev pub invariant-loop-i : goal.invariant-loop-i
invariant-loop-i l = TableStanding l.self.0.table l.self.0.bytes.now l.list l.initial.records (as_table l.s) l.i-counter l.records
