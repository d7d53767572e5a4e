-- `teaselram_row`: an empty part was refused; any other is the row, whose length and start fit.
use Rattle.teaselram.proofs.Says.{row_empty, state_few, part_short, start_fits, row_given_lem}
use mathlib.Core.Path.{refl}
use native.Mathlib.Omega.{arith}
use Rattle.teaselram.proofs.teaselram_row.Goals as goal

pub returns-in-Ok : goal.returns-in-Ok
returns-in-Ok c = row_empty _ _ _ c.row-row.ensures.bytes _ _ c.if-length-eq0.true c.in-Ok.ensures refl

pub returns-in-Err : goal.returns-in-Err
returns-in-Err c = row_empty _ _ _ c.row-row.ensures.bytes _ _ c.if-length-eq0.true c.in-Err.ensures c.into.ensures

pub overflow_cast-state : goal.overflow_cast-state
overflow_cast-state c = omega (arith, state_few _ _ _ c.row-row.ensures.bytes c.if-length-eq0.false)

pub overflow_cast-result : goal.overflow_cast-result
overflow_cast-result c = omega (arith, part_short _ _ _ c.row-row.ensures.bytes c.if-length-eq0.false)

pub overflow_cast-result-2 : goal.overflow_cast-result-2
overflow_cast-result-2 c = omega (arith, start_fits _ _ _ c.row-row.ensures.bytes c.if-length-eq0.false, rw c.of.ensures at c.row_at-start.ensures.value)

pub returns : goal.returns
returns c = row_given_lem _ _ _ c.row-row.ensures.bytes c.if-length-eq0.false _ (rw c.of.ensures at c.row_at-start.ensures.value)
