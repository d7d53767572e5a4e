-- `teaselram_sheet_kind`: the sheet was read and has the kind, or a number is said; its first start stands within the sheet.
use Rattle.teaselram.proofs.Says.{sheet_kind_unread, sheet_kind_missing, sheet_kind_there, sheet_kind_below, first_start_below, sheet_kind_given}
use Prim.Native.Nat.{◌+◌, ◌<◌}
use native.Mathlib.Omega.{arith}
use Rattle.teaselram.proofs.teaselram_sheet_kind.Goals as goal

-- Its first start stands below 65,536.
fits : (c : goal.After-starts_at) → c.kind_at-at.result + c.starts_at.result < 65536
fits c = first_start_below _ _ _ c.in-Ok.ensures _ c.has_kind.ensures c.if-not-has_kind.false _ _ c.kind_at-at.ensures c.starts_at.ensures.value

pub returns-in-Err : goal.returns-in-Err
returns-in-Err c = sheet_kind_unread _ _ _ _ c.in-Err.ensures c.into.ensures

pub returns-then-not-has_kind : goal.returns-then-not-has_kind
returns-then-not-has_kind c = sheet_kind_missing _ _ _ c.in-Ok.ensures _ c.has_kind.ensures _ c.if-not-has_kind.true c.no_such_kind.ensures

pub bounds-read-kind : goal.bounds-read-kind
bounds-read-kind c = sheet_kind_below _ _ _ c.in-Ok.ensures _ c.has_kind.ensures c.if-not-has_kind.false

pub kind_at-at-requires : goal.kind_at-at-requires
kind_at-at-requires c = sheet_kind_there _ _ _ c.in-Ok.ensures _ c.has_kind.ensures c.if-not-has_kind.false

pub overflow_add-first : goal.overflow_add-first
overflow_add-first c = omega (arith, fits c)

pub overflow_cast-first : goal.overflow_cast-first
overflow_cast-first c = omega (arith, fits c)

pub returns : goal.returns
returns c = sheet_kind_given _ _ _ c.in-Ok.ensures _ c.has_kind.ensures c.if-not-has_kind.false _ _ c.kind_at-at.ensures c.starts_at.ensures.value _ c.kind_says.ensures
