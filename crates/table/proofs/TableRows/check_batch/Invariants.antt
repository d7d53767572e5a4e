-- `check_batch`: whether none was wrong so far, and the transitions that are left, which are there, give the number of all, at each turn.
use Rattle.std.proofs.Common.{◌≡◌, ◌+◌, ◌-◌, ◌*◌, ◌≤◌, length}
use Rattle.convention.specs.Numbers.{or_else, unless}
use Rattle.convention.specs.Layout.{transition_length}
use Rattle.convention.specs.Tables.{transitions_no}
use Rattle.table.proofs.TableRows.check_batch.Given as goal

abbrev pub invariant-loop : goal.invariant-loop
invariant-loop l = record {
  number : or_else (unless l.right 7) (transitions_no l.self.layout.version l.self.layout.head l.self.states l.self.bytes.now l.at (l.count - l.counter)) ≡ transitions_no l.self.layout.version l.self.layout.head l.self.states l.self.bytes.now l.first l.count;
  there : l.at + transition_length l.self.layout.version * (l.count - l.counter) ≤ length l.self.bytes.now;
}
