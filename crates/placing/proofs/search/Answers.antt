-- `search`: before the first start that is tried, at one whose run is free, after one whose run is not, and after the last.
use Rattle.placing.proofs.Starts.{search_begin, search_hit, search_on, search_end}
use borrow.Author.Rules.{rules}
use Rattle.placing.proofs.search.Goals as goal

pub loop-i-init : goal.loop-i-init
loop-i-init c = search (search_begin, rules)

pub returns-then-taken-run-eq0 : goal.returns-then-taken-run-eq0
returns-then-taken-run-eq0 c = search (search_hit, rules)

pub loop-i-preserved : goal.loop-i-preserved
loop-i-preserved c = search (search_on, rules)

pub returns : goal.returns
returns c = search (search_end, rules)
