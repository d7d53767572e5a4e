-- `kinds_of`: each kind is stored in its place.
use Rattle.table.proofs.Stored.{kind_stored, kinds_done}
use borrow.Author.Rules.{rules}
use Rattle.table.proofs.kinds_of.Goals as goal

pub loop-i-preserved : goal.loop-i-preserved
loop-i-preserved c = search (kind_stored, rules)

pub returns : goal.returns
returns c = search (kinds_done, rules)
