-- `go_through`: before kind k the kinds below it were gone through, and none is faulty.
use Rattle.judging.specs.Searched.{GoingThrough}
use Rattle.judging.proofs.search.go_through.Given as goal

abbrev pub invariant-loop-k : goal.invariant-loop-k
invariant-loop-k l = GoingThrough l.table.table l.table.bytes.now l.watching.watch l.i l.k l.exploration
