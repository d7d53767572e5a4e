-- How the public call's answer and the lent memory come together: what reading the table gave comes first, and then what its list gave.
use Prim.Native.Nat.{ℕ}
use mathlib.Core.Path.{◌≡◌, sym}
use mathlib.Core.List.{List}
use lib.ListN.{length}
use Rattle.std.specs.Prelude.{Result}
use Rattle.convention.specs.declared.Table.{Table}
use Rattle.convention.specs.declared.Placed.{Placed}
use Rattle.convention.specs.declared.Refusal.{Refusal}
use Rattle.convention.specs.declared.Unplaced.{Unplaced}
use Rattle.convention.specs.Answers.{PlacingAnswer}
use Rattle.convention.specs.Results.{refusal_number, placing_answer}
use Rattle.convention.specs.Numbers.{state_limit, argument_limit}
use Rattle.convention.specs.Tables.{table_no, table_of}
use Rattle.convention.specs.Walked.{by_table, place_by_table, table_memory}
use Rattle.convention.proofs.Results.{refusal_some}
use Rattle.stepping.specs.Walks.{PlacingIs}
use Rattle.stepping.proofs.Calls.{read_answer, read_memory, unread_answer, unread_memory}

module _ (t ks out : List ℕ) where
  -- The table was read.
  module _ (table : Table) (bytes : List ℕ) (right : 0 ≡ table_no state_limit t) (is : table ≡ table_of t) (same : bytes ≡ t)
      (result : Result Placed Unplaced) (after : List ℕ) (placed : PlacingIs argument_limit table.head.kinds (by_table table bytes) ks out result after) where
    by_bytes : PlacingIs argument_limit (table_of t).head.kinds (by_table (table_of t) t) ks out result after
    by_bytes = rw (is, same) at placed

    pub placed_answer : placing_answer result ≡ place_by_table state_limit argument_limit t ks (length out)
    unfolding place_by_table
    placed_answer = read_answer argument_limit _ _ _ ks out (sym right) result after by_bytes

    pub placed_memory : after ≡ table_memory state_limit argument_limit t ks out
    unfolding table_memory place_by_table
    placed_memory = read_memory argument_limit _ _ _ ks out (sym right) result after by_bytes

  -- It was refused.
  module _ (refusal : Refusal) (e : refusal_number refusal ≡ table_no state_limit t) where
    pub refused_answer : PlacingAnswer.Refused (refusal_number refusal) ≡ place_by_table state_limit argument_limit t ks (length out)
    unfolding place_by_table
    refused_answer = unread_answer argument_limit _ _ _ ks out _ (sym e) (refusal_some refusal)

    pub refused_memory : out ≡ table_memory state_limit argument_limit t ks out
    unfolding table_memory place_by_table
    refused_memory = unread_memory argument_limit _ _ _ ks out _ (sym e) (refusal_some refusal)
