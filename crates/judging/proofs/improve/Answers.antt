-- `improve`: the search stops at the first hit, whose entry's path and kind make its list.
use Rattle.std.proofs.Common.{refl}
use Rattle.judging.proofs.Finding.{find_searches, find_there, find_room, find_some, find_none}
use Rattle.judging.proofs.improve.Goals as goal

pub search-requires : goal.search-requires
search-requires c = rw c.restart.ensures (find_searches _ _ _ c.args.table.now.read)

pub keep_better-requires-clause-there : goal.keep_better-requires-clause-there
keep_better-requires-clause-there c = find_there _ _ _ c.args.table.now.read _ _ c.in-Some.ensures _ refl

pub keep_better-requires-clause-room : goal.keep_better-requires-clause-room
keep_better-requires-clause-room c = find_room _ _ _ c.args.table.now.read _ _ c.in-Some.ensures _ refl

pub returns-in-Some : goal.returns-in-Some
returns-in-Some c = find_some _ _ _ c.args.table.now.read _ _ c.in-Some.ensures _ refl _ _ c.keep_better.ensures

pub returns-in_default : goal.returns-in_default
returns-in_default c = find_none _ _ _ c.args.table.now.read _ _ c.in_default.ensures refl _
