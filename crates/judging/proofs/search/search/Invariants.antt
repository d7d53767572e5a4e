-- `search`: before entry i the entries below it were gone through, and none hits.
use Rattle.judging.specs.Searched.{Searching}
use Rattle.judging.proofs.search.search.Given as goal

abbrev pub invariant-loop-i : goal.invariant-loop-i
invariant-loop-i l = Searching l.table.table l.table.bytes.now l.watching.watch l.i l.exploration
