-- `kinds`: room for the next kind, one more kind, and all of them.
use borrow.Author.Rules.{rules}
use Rattle.line.proofs.Appending.{kind_room, kind_on, kinds_done}
use Rattle.line.proofs.Text.kinds.Goals as goal

pub further-requires : goal.further-requires
further-requires c = search (kind_room, rules)

pub loop-kind-preserved : goal.loop-kind-preserved
loop-kind-preserved c = search (kind_on, rules)

pub returns : goal.returns
returns c = search (kinds_done, rules)
