-- `check_there`: the transitions that are left, which are there, give the number of all, at each turn.
use Rattle.std.proofs.Common.{◌≡◌, ◌+◌, ◌-◌, ◌*◌, ◌≤◌, length}
use Rattle.convention.specs.Layout.{transition_length}
use Rattle.convention.specs.Tables.{transitions_no}
use Rattle.table.proofs.Runs.{batch}
use Rattle.table.proofs.TableRows.check_there.Given as goal

abbrev pub invariant-loop : goal.invariant-loop
invariant-loop l = record {
  number : transitions_no l.self.layout.version l.self.layout.head l.self.states l.self.bytes.now l.at (l.count - batch * l.counter) ≡ transitions_no l.self.layout.version l.self.layout.head l.self.states l.self.bytes.now l.first l.count;
  there : l.at + transition_length l.self.layout.version * (l.count - batch * l.counter) ≤ length l.self.bytes.now;
}
