-- `decide`: before state i the states met are those once the states below i were gone through, and their rows are made.
use Rattle.building.specs.Holding.{Exploring}
use Rattle.building.proofs.decide.Given as goal

abbrev pub invariant-loop-i : goal.invariant-loop-i
invariant-loop-i l = Exploring l.rules.sheet l.i l.initial.rows l.states l.rows
