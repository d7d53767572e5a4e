-- `write_kinds`: before kind k the shapes of the kinds below k are written.
use Rattle.convention.specs.Layout.{kinds_at}
use Rattle.convention.specs.Built.{built_kind}
use Rattle.building.specs.Writing.{BlocksSoFar}
use Rattle.building.proofs.writer.BuiltTable.write_kinds.Given as goal

abbrev pub invariant-loop-k : goal.invariant-loop-k
invariant-loop-k l = BlocksSoFar (built_kind l.self.version l.self.sheet) kinds_at l.k l.self.sheet.head.kinds l.initial.out l.out
