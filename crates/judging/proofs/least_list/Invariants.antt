-- `least_list`: before register i the best list is the least where nothing is watched, or a register below i.
use Rattle.judging.specs.Found.{BestIs}
use Rattle.judging.proofs.least_list.Given as goal

abbrev pub invariant-loop-i : goal.invariant-loop-i
invariant-loop-i l = BestIs l.table.table l.table.bytes.now l.i l.best
