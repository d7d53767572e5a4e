use Rattle.sheet.proofs.Turns.{kinds_turn, kinds_hit, kinds_end, kinds_ended}
use borrow.Author.Rules.{rules}
use Rattle.sheet.proofs.check_kinds.Goals as goal

pub returns-in_err-check_kind-clause-first : goal.returns-in_err-check_kind-clause-first
returns-in_err-check_kind-clause-first c = search (kinds_hit, rules)

pub loop-preserved : goal.loop-preserved
loop-preserved c = kinds_turn _ _ _ _ _ c.loop.invariant _ c.loop-test.true c.in_ok-check_kind.ensures c.kind_length-at.ensures.value

pub returns-clause-first : goal.returns-clause-first
returns-clause-first c = search (kinds_end, rules)

pub returns-clause-ends : goal.returns-clause-ends
returns-clause-ends c = search (kinds_ended, rules)
