-- `check_kinds`: the kinds that are left give the number of all, at each turn.
use Rattle.std.proofs.Common.{drop}
use Rattle.convention.specs.Layout.{kinds_at}
use Rattle.convention.specs.Tables.{table_kinds_no}
use Rattle.table.proofs.Runs.{RunRest, kinds_run}
use Rattle.table.proofs.check_kinds.Given as goal

abbrev pub invariant-loop : goal.invariant-loop
invariant-loop l =
    RunRest l.t (kinds_run l.layout.version l.layout.head l.t) (table_kinds_no l.layout.version l.layout.head (drop kinds_at l.t) l.layout.head.kinds) l.at l.counter l.layout.head.kinds
