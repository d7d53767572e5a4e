-- `unmark`: the marks of the nodes of the entries before the next one are taken back.
use Rattle.exploring.specs.Stored.{Unmarked}
use Rattle.exploring.proofs.unmark.Given as goal

abbrev pub invariant-loop-entry : goal.invariant-loop-entry
invariant-loop-entry l = Unmarked l.entries l.entry-index l.initial.marks l.marks
