-- Document 01, 'Answer numbers': the answers of the calls, in 01's numbers.
use Rattle.std.specs.Prelude.{ℕ}
use Rattle.convention.specs.declared.Offset.{Offset}
use Rattle.convention.specs.declared.Sheet.{Sheet}
use Rattle.convention.specs.declared.Table.{Table}

-- Whether bytes could be read; a refusal carries its number.
pub data Reading : Type 0 where
  Read : Reading
  Refused : ℕ → Reading

-- The answer of reading a sheet, and of reading a table. On a refusal the sheet or the table is blank.
pub record SheetAnswer : Type 0 where
  pub reading : Reading
  pub sheet : Sheet

pub record TableAnswer : Type 0 where
  pub reading : Reading
  pub table : Table

-- The answer of placing a list: the number of arguments and the final p; or a refusal, 9 with its position, 10 with position and fault.
pub data PlacingAnswer : Type 0 where
  Placed : ℕ → Offset → PlacingAnswer
  Unknown : ℕ → PlacingAnswer
  Faulty : ℕ → ℕ → PlacingAnswer
  Refused : ℕ → PlacingAnswer

-- The answer of building: N and the table's length.
pub data BuildingAnswer : Type 0 where
  Built : ℕ → ℕ → BuildingAnswer
  Refused : ℕ → BuildingAnswer

-- The answer of judging: clean, or fault number and list length.
pub data JudgingAnswer : Type 0 where
  Clean : JudgingAnswer
  Fault : ℕ → ℕ → JudgingAnswer
  Refused : ℕ → JudgingAnswer
