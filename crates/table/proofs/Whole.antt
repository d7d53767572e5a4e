-- How the number and the answer of a whole table come together from its parts.
use Prim.Native.Nat.{ℕ, zero, suc, ◌≤◌, ◌<◌}
use mathlib.Core.Path.{◌≡◌, refl, sym}
use mathlib.Core.List.{List}
use native.Mathlib.Omega.{arith}
use lib.ListN.{length}
use Rattle.std.specs.Prelude.{Ok, Err}
use Rattle.convention.specs.declared.Refusal.{Refusal}
use Rattle.convention.specs.Results.{refusal_number, table_answer}
use Rattle.convention.specs.Answers.{Reading}
use Rattle.convention.specs.Answers.{TableAnswer}
use Rattle.convention.specs.Numbers.{reading}
use Rattle.convention.specs.Layout.{kinds_at, rows_at}
use Rattle.convention.specs.Fields.{version_of, head_of, opening_no}
use Rattle.convention.specs.Tables.{table_no, table_of, table_given, blank_table, read_table}
use Rattle.convention.proofs.Results.{refusal_some}
use Rattle.convention.proofs.Fields.{head_there, opening_head}
use Rattle.convention.proofs.Tables.{table_read}
use Rattle.table.specs.Within.{KindsThere}

-- An opening that is right has a head after which the kinds begin.
pub opened : (t : List ℕ) → 0 ≡ opening_no t → kinds_at ≤ length t
opened t e = head_there t (opening_head t (sym e))

-- A table that can be read holds its kinds and its number of states.
module _ (limit : ℕ) (t : List ℕ) (e : 0 ≡ table_no limit t) where
  pub kinds_asked : KindsThere (version_of t) (head_of t) t
  unfolding table_of
  kinds_asked =
      let read = table_read limit t (sym e) in
      record { count = read.head.kinds; within = omega (arith, read.whole) }

  pub states_asked : rows_at (version_of t) (head_of t) ≤ length t
  unfolding table_of
  states_asked = omega (arith, (table_read limit t (sym e)).whole)

-- What reading a table answers.
pub answer_read : (limit : ℕ) (t : List ℕ) → 0 ≡ table_no limit t → table_answer (Ok (table_of t)) ≡ read_table limit t
unfolding read_table
answer_read limit t e = rw (← e)

pub answer_refused : (limit : ℕ) (t : List ℕ) (refusal : Refusal) → refusal_number refusal ≡ table_no limit t
    → table_answer (Err refusal) ≡ read_table limit t
unfolding read_table
answer_refused limit t refusal e = rw (← e) (given (refusal_number refusal) (refusal_some refusal))
  where
    given : (n : ℕ) → 0 < n
        → ◌≡◌ {A = TableAnswer} (record { reading = Reading.Refused n; table = blank_table }) (record { reading = reading n; table = table_given n (table_of t) })
    given zero h = absurd (omega arith)
    given (suc n) h = refl
