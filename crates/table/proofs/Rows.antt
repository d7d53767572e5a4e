-- Transitions and rows: their numbers, and that what is asked for lies within the table's bytes.
use Prim.Native.Nat.{ℕ, ◌+◌, ◌-◌, ◌≤◌, ◌<◌}
use mathlib.Core.Path.{◌≡◌, sym}
use mathlib.Core.List.{List, []}
use native.Mathlib.Nat.{zero-add}
use native.Mathlib.Omega.{arith}
use lib.ListN.{length, take, drop}
use denote.Ref.{Bor}
use denote.Slice.{shr_slice_vals}
use Rattle.convention.specs.declared.Table.{Table}
use Rattle.convention.specs.declared.Transition.{Transition}
use Rattle.convention.specs.declared.Refusal.{Refusal}
use Rattle.convention.specs.Results.{refusal_number}
use Rattle.convention.specs.Layout.{row_length, row_at}
use Rattle.convention.specs.Fields.{version_of, head_of}
use Rattle.convention.specs.Tables.{transition, table_of, row_no, row, row_start}
use Rattle.convention.specs.Promised.{TableRead}
use Rattle.convention.proofs.Results.{refusal_some}
use Rattle.convention.proofs.Positions.{transition_inside}
use Rattle.convention.proofs.Tables.{transition_registers, transition_residue, transition_next, row_refused, row_tests, row_part, row_is, row_start_lem, table_read}
use Rattle.table.specs.Within.{TransitionThere, InTable, TransitionRead}
use Rattle.table.specs.Rows.{after, RowPart}

-- The bytes of a table that was read hold the transition of each kind at each state that it has.
pub transition_there : (limit : ℕ) (table : Table) (t : List ℕ) (state k : ℕ) → TableRead limit table t → InTable table state k
    → TransitionThere table.version table.head t state k
transition_there limit table t state k read inside = record {
  within = rw read.whole (transition_inside table.version table.head table.states state inside.state k inside.kind);
}

-- And each of them is as 01 allows it.
pub transition_read : (limit : ℕ) (table : Table) (t : List ℕ) (state k : ℕ) → TableRead limit table t → InTable table state k
    → (x : Transition) → x ≡ transition table t state k → TransitionRead table.head table.states x
transition_read limit table t state k read inside x ex =
    let here = transition table t state k in
    let right = read.transition state k inside.state inside.kind in
    rw ex
    (record {
      run = transition_registers table.head table.states here right;
      residue = transition_residue table.head table.states here right;
      next = transition_next table.head table.states here right read.some;
    })

-- A row that is refused is the empty part, at the table's first byte; one that is given lies within the table's bytes, and starts where it does there.
module _ (limit : ℕ) (t : List ℕ) (state : ℕ) where
  module _ (refusal : Refusal) (e : refusal_number refusal ≡ row_no limit t state) where
    none : (row limit t state ≡ []) × (row_start limit t state ≡ 0)
    none = row_refused limit t state (λ z. absurd (omega (arith, refusal_some refusal, e)))

    pub refused_bytes : [] ≡ row limit t state
    refused_bytes = sym none.0

    pub refused_place : (place : ℕ × ℕ) → place ≡ after place (row_start limit t state)
    refused_place place = rw (none.1, zero-add)

  module _ (e : 0 ≡ row_no limit t state) where
    -- The state is one of the table's, and so no more than the limit.
    pub state_counted : state < limit
    unfolding table_of
    state_counted =
        let tests = row_tests limit t state (sym e) in
        omega (arith, tests.1, (table_read limit t tests.0).states)

    module _ (start long : ℕ) (es : start ≡ row_at (version_of t) (head_of t) state) (el : long ≡ row_length (version_of t) (head_of t)) where
      pub row_within : start + long ≤ length t
      row_within = rw (es, el) (row_part limit t state (sym e))

      pub given_bytes : take (start + long - start) (drop start t) ≡ row limit t state
      given_bytes =
          let same : start + long - start ≡ long = omega arith in
          rw (same, es, el) (sym (row_is limit t state (sym e)))

      pub given_place : (place : ℕ × ℕ) → after place start ≡ after place (row_start limit t state)
      given_place place = rw (row_start_lem limit t state (sym e), es)

-- Two answers of asking for a row are one slice: all that the machine has of a slice is its place and its count.
pub row_unique : (limit : ℕ) (t : Bor (List ℕ)) (state : ℕ) (r r' : Bor (List ℕ))
    → RowPart limit t state r → RowPart limit t state r' → shr_slice_vals r ≡ shr_slice_vals r'
row_unique limit t state r r' x y = rw (x.place, x.bytes, y.place, y.bytes)
