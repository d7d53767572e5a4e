use Rattle.sheet.proofs.Turns.{starts_more, starts_hit, starts_end}
use borrow.Author.Rules.{rules}
use Rattle.sheet.proofs.check_starts.Goals as goal

pub returns-in_err-check_field : goal.returns-in_err-check_field
returns-in_err-check_field c = search (starts_hit, rules)

pub loop-at-preserved : goal.loop-at-preserved
loop-at-preserved c = search (starts_more, rules)

pub returns : goal.returns
returns c = search (starts_end, rules)
