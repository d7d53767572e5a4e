-- What is known of a step of a table that was read, and what placing an argument by it asks and promises.
use Rattle.std.specs.Prelude.{ℕ, ◌+◌, ◌≤◌, ◌≡◌, List, length, Result, IfOk}
use Rattle.convention.specs.declared.Table.{Table}
use Rattle.convention.specs.declared.ByTable.{ByTable}
use Rattle.convention.specs.declared.Fault.{Fault}
use Rattle.convention.specs.Results.{fault_of}
use Rattle.convention.specs.Bytes.{written}
use Rattle.convention.specs.Lists.{record_length, record_of}
use Rattle.convention.specs.Promised.{ShapeRead}
use Rattle.convention.specs.Tables.{table_kind, transition}
use Rattle.convention.specs.Walked.{table_place, table_fault, table_after}
use Rattle.table.specs.Within.{TransitionRead}
use Rattle.walking.specs.declared.TableAt.{TableAt}
use Rattle.walking.specs.declared.step.Step.{Step}
use Rattle.walking.specs.TableSteps.{PlaceAsks, as_table}

-- The step of kind k at a state of a table that was read: the table's head, the kind's shape and the transition, which are as 01 allows them.
pub record StepOf (table : Table) (t : List ℕ) (state k : ℕ) (step : Step) : Type 0 where
  pub head : step.head ≡ table.head
  pub shape : step.shape ≡ table_kind table k
  pub x : step.x ≡ transition table t state k
  pub shaped : ShapeRead table.head step.shape
  pub allowed : TransitionRead table.head table.states step.x

-- A step to be taken: what its place asks, with room for its record from byte `at` on.
pub record ArgumentAsks (step : Step) (s : ByTable) (records : List ℕ) (at : ℕ) : Type 0 where
  pub placed : PlaceAsks step.head step.x s.p.0
  pub room : at + record_length ≤ length records

-- Its fault; where there is none, the state after it, and its record.
pub record ArgumentIs (step : Step) (s : ByTable) (before : List ℕ) (at : ℕ) (result : Result TableAt Fault) (after : List ℕ) : Type 0 where
  pub found : fault_of result ≡ table_fault step.head step.shape step.x s.given
  pub reached : IfOk result (λ next. as_table next ≡ table_after step.head step.x s)
  pub makes : IfOk result (λ next. after ≡ written before at (record_of (table_place step.head step.x s.p.0)))
