-- `pass_kinds`: before kind k the states met are those that the kinds below k led to, and their transitions are made.
use Rattle.building.specs.Holding.{PassingKinds}
use Rattle.building.proofs.pass_kinds.Given as goal

abbrev pub invariant-loop-k : goal.invariant-loop-k
invariant-loop-k l = PassingKinds l.rules.sheet l.a l.i l.k l.initial.rows l.states l.rows
