-- `row`: a row that is given lies within the table's bytes.
use Rattle.std.proofs.Common.{arith}
use Rattle.convention.specs.Numbers.{state_limit}
use Rattle.table.proofs.Rows.{refused_bytes, refused_place, state_counted, row_within, given_bytes, given_place}
use Rattle.table.proofs.row.Goals as goal

pub returns-in-Err : goal.returns-in-Err
returns-in-Err c = record {
  bytes = refused_bytes state_limit _ _ _ c.in-Err.ensures;
  place = refused_place state_limit _ _ _ c.in-Err.ensures _;
}

pub overflow_cast-state : goal.overflow_cast-state
overflow_cast-state c = omega (arith, state_counted state_limit _ _ c.in-Ok.ensures)

pub slice_bounds-result-end-in-Ok : goal.slice_bounds-result-end-in-Ok
slice_bounds-result-end-in-Ok c =
    row_within state_limit _ _ c.in-Ok.ensures _ _ (rw c.of-layout.ensures at c.row_at-start.ensures.value) (rw c.of-layout.ensures at c.row_length.ensures.value)

pub returns-in-Ok : goal.returns-in-Ok
returns-in-Ok c =
    let start = rw c.of-layout.ensures at c.row_at-start.ensures.value in
    let long = rw c.of-layout.ensures at c.row_length.ensures.value in
    record {
      bytes = given_bytes state_limit _ _ c.in-Ok.ensures _ _ start long;
      place = given_place state_limit _ _ c.in-Ok.ensures _ _ start long _;
    }
