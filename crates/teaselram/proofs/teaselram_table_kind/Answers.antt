-- `teaselram_table_kind`: the table was read and has the kind, or a number is said.
use Rattle.teaselram.proofs.Says.{table_kind_unread, table_kind_missing, table_kind_below, table_kind_given}
use Rattle.teaselram.proofs.teaselram_table_kind.Goals as goal

pub returns-in-Err : goal.returns-in-Err
returns-in-Err c = table_kind_unread _ _ _ _ c.in-Err.ensures c.into.ensures

pub returns-then-not-has_kind : goal.returns-then-not-has_kind
returns-then-not-has_kind c = table_kind_missing _ _ _ c.in-Ok.ensures _ c.has_kind.ensures _ c.if-not-has_kind.true c.no_such_kind.ensures

pub bounds-read-kind : goal.bounds-read-kind
bounds-read-kind c = table_kind_below _ _ _ c.in-Ok.ensures _ c.has_kind.ensures c.if-not-has_kind.false

pub returns : goal.returns
returns c = table_kind_given _ _ _ c.in-Ok.ensures _ c.has_kind.ensures c.if-not-has_kind.false _ c.kind_says.ensures
