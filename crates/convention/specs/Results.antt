-- What the code answers, in 01's numbers: its results and errors are types of their own, and each is one of the answers of `Answers`.
use Rattle.std.specs.Prelude.{ℕ, Option, Some, None, Result, Ok, Err}
use Rattle.convention.specs.declared.Sheet.{Sheet}
use Rattle.convention.specs.declared.Table.{Table}
use Rattle.convention.specs.declared.Refusal.{Refusal}
use Rattle.convention.specs.declared.Refusal.TheVariants.{Length, Version, Missing, Head, Kind, LeftOver, Transition, Arguments, States, Room, Row}
use Rattle.convention.specs.declared.Fault.{Fault}
use Rattle.convention.specs.declared.Fault.TheVariants.{NoPlace, GivenTwice, WrongCount, Misaligned}
use Rattle.convention.specs.declared.Placed.{Placed}
use Rattle.convention.specs.declared.Unplaced.{Unplaced}
use Rattle.convention.specs.declared.Unplaced.TheVariants.{Refused, Unknown, Faulty}
use Rattle.convention.specs.declared.Built.{Built}
use Rattle.convention.specs.declared.FaultyList.{FaultyList}
use Rattle.convention.specs.Answers.{Reading, SheetAnswer, TableAnswer, PlacingAnswer, BuildingAnswer, JudgingAnswer}
use Rattle.convention.specs.Sheets.{blank_sheet}
use Rattle.convention.specs.Tables.{blank_table}

-- The numbers of the refusals but 9 and 10, and of the faults.
abbrev pub refusal_number : Refusal → ℕ
refusal_number Length = 1
refusal_number Version = 2
refusal_number Missing = 3
refusal_number Head = 4
refusal_number Kind = 5
refusal_number LeftOver = 6
refusal_number Transition = 7
refusal_number Arguments = 8
refusal_number States = 11
refusal_number Room = 12
refusal_number Row = 13

abbrev pub fault_number : Fault → ℕ
fault_number NoPlace = 1
fault_number GivenTwice = 2
fault_number WrongCount = 3
fault_number Misaligned = 4

-- The number of a test, or of a step's fault: 0 where there is none.
abbrev pub number_of : {T : Type 0} → Result T Refusal → ℕ
number_of (Ok x) = 0
number_of (Err refusal) = refusal_number refusal

abbrev pub fault_of : {T : Type 0} → Result T Fault → ℕ
fault_of (Ok x) = 0
fault_of (Err fault) = fault_number fault

-- Reading a sheet, and reading a table.
abbrev pub sheet_answer : Result Sheet Refusal → SheetAnswer
sheet_answer (Ok sheet) = record { reading = Reading.Read; sheet = sheet }
sheet_answer (Err refusal) = record { reading = Reading.Refused (refusal_number refusal); sheet = blank_sheet }

abbrev pub table_answer : Result Table Refusal → TableAnswer
table_answer (Ok table) = record { reading = Reading.Read; table = table }
table_answer (Err refusal) = record { reading = Reading.Refused (refusal_number refusal); table = blank_table }

-- Placing a list, building and judging.
abbrev pub placing_answer : Result Placed Unplaced → PlacingAnswer
placing_answer (Ok placed) = PlacingAnswer.Placed placed.arguments placed.p
placing_answer (Err (Refused refusal)) = PlacingAnswer.Refused (refusal_number refusal)
placing_answer (Err (Unknown at)) = PlacingAnswer.Unknown at
placing_answer (Err (Faulty at fault)) = PlacingAnswer.Faulty at (fault_number fault)

abbrev pub building_answer : Result Built Refusal → BuildingAnswer
building_answer (Ok built) = BuildingAnswer.Built built.states built.length
building_answer (Err refusal) = BuildingAnswer.Refused (refusal_number refusal)

abbrev pub judging_answer : Result (Option FaultyList) Refusal → JudgingAnswer
judging_answer (Ok None) = JudgingAnswer.Clean
judging_answer (Ok (Some found)) = JudgingAnswer.Fault (fault_number found.fault) found.kinds
judging_answer (Err refusal) = JudgingAnswer.Refused (refusal_number refusal)
