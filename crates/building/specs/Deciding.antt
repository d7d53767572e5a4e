-- What is decided of the table of a sheet that was read, before a byte of it is written, and what writing it asks.
use Rattle.std.specs.Prelude.{ℕ, ◌*◌, ◌≤◌, ◌<◌, ◌≡◌, List, Result, length, take}
use Rattle.convention.specs.declared.Sheet.{Sheet}
use Rattle.convention.specs.declared.Built.{Built}
use Rattle.convention.specs.declared.Refusal.{Refusal}
use Rattle.convention.specs.Results.{building_answer}
use Rattle.convention.specs.Numbers.{state_limit}
use Rattle.convention.specs.Bytes.{blocks}
use Rattle.convention.specs.Layout.{rows_length}
use Rattle.convention.specs.Built.{built_row, built_states, built_table, build_sheet_no, built_or_refused, build_writes}

-- The version in whose form rows are made.
abbrev pub rows_version : ℕ
rows_version = 1

-- The most bytes that rows take: four for each of eight kinds, of as many states as a table may have.
abbrev pub rows_most : ℕ
rows_most = 4 * 8 * state_limit

-- So many are all the states of a sheet, and the first bytes are their rows.
pub record RowsMade (sheet : Sheet) (states : ℕ) (rows : List ℕ) : Type 0 where
  pub many : states ≡ length (built_states state_limit sheet)
  pub made : take (rows_length rows_version sheet.head states) rows ≡ blocks (built_row rows_version sheet (built_states state_limit sheet)) states

-- What was decided where there are not too many states: how many, all with rows.
pub record DecidedIs (sheet : Sheet) (states : ℕ) (rows : List ℕ) : Type 0 where
  pub few : states ≤ state_limit
  pub all : RowsMade sheet states rows

-- Number 11: more states than the limit are reached.
pub record ManyStates (sheet : Sheet) (refusal : Refusal) : Type 0 where
  pub number : refusal ≡ Refusal.States
  pub more : state_limit < length (built_states state_limit sheet)

-- Writing what was decided: room for the table.
pub record WriteAsks (sheet : Sheet) (states : ℕ) (rows out : List ℕ) : Type 0 where
  pub few : states ≤ state_limit
  pub made : RowsMade sheet states rows
  pub there : length (built_table state_limit sheet) ≤ length out

-- The answer of building the table of a sheet that was read, and the lent memory afterwards.
pub record BuildingIs (sheet : Sheet) (before : List ℕ) (answer : Result Built Refusal) (after : List ℕ) : Type 0 where
  pub answers : building_answer answer
      ≡ built_or_refused (build_sheet_no state_limit sheet (length before)) (length (built_states state_limit sheet)) (length (built_table state_limit sheet))
  pub memory : after ≡ build_writes (build_sheet_no state_limit sheet (length before)) (built_table state_limit sheet) before
