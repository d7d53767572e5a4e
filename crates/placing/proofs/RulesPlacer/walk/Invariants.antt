-- `walk`: at each argument, what is left of the list gives the rest, p leaves room for one more step, and each kind's search may begin where its cursor says.
use Rattle.placing.specs.RulesSteps.{as_rules, RulesMaking}
use Rattle.placing.proofs.RulesPlacer.walk.Given as goal

abbrev pub invariant-loop-i : goal.invariant-loop-i
invariant-loop-i l = RulesMaking l.self.sheet l.list l.initial.records (as_rules l.s) l.from l.i l.records
