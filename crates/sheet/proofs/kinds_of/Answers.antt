use Rattle.sheet.proofs.Turns.{next_whole, kind_stored, kinds_done}
use borrow.Author.Rules.{rules}
use Rattle.sheet.proofs.kinds_of.Goals as goal

pub kind_of-requires : goal.kind_of-requires
kind_of-requires c = search (next_whole, rules)

pub loop-i-preserved : goal.loop-i-preserved
loop-i-preserved c = search (kind_stored, rules)

pub returns : goal.returns
returns c = search (kinds_done, rules)
