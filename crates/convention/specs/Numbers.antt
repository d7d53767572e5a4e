-- Document 01, 'Answer numbers': the order in which numbers are found, the limits, and the number and values of each answer.
use Rattle.std.specs.Prelude.{ℕ, zero, suc, Bool, true, false}
use Rattle.convention.specs.Answers.{Reading}
use Rattle.convention.specs.Answers.{PlacingAnswer}
use Rattle.convention.specs.Answers.{Placed, Unknown, Faulty}
use Rattle.convention.specs.Answers.{BuildingAnswer}
use Rattle.convention.specs.Answers.{Built}
use Rattle.convention.specs.Answers.{JudgingAnswer}
use Rattle.convention.specs.Answers.{Clean, Fault}

-- Number 11: the most allocation states, and N's bound. Definitions and laws take a limit as an argument; the calls give it this one.
abbrev pub state_limit : ℕ
state_limit = 200

-- Number 8: the most arguments that a call places.
abbrev pub argument_limit : ℕ
argument_limit = 400

-- 'Number 1 is tested first. Then ..': of two tests in order, the number of the first that fails; 0 where neither does.
abbrev pub or_else : ℕ → ℕ → ℕ
or_else zero later = later
or_else (suc number) later = suc number

-- The number of one test: 0 where it passes.
abbrev pub unless : Bool → ℕ → ℕ
unless true number = 0
unless false number = number

-- What a call says in 01's numbers: the answer's number, 0 on success, and the values that 01 names for it; the others are 0.
pub record Said : Type 0 where
  pub number : ℕ
  pub fault : ℕ
  pub count : ℕ
  pub value : ℕ

-- A refusal that carries its number alone.
abbrev pub refusal : ℕ → Said
refusal number = record { number = number; fault = 0; count = 0; value = 0 }

-- Whether bytes could be read, from the number that reading them gives.
abbrev pub reading : ℕ → Reading
reading zero = Reading.Read
reading (suc number) = Reading.Refused (suc number)

-- Reading: the number.
abbrev pub reading_no : Reading → ℕ
reading_no Reading.Read = 0
reading_no (Reading.Refused number) = number

-- Placing: the number of arguments and the final p; 9 with its position, 10 with position and fault.
abbrev pub placing_says : PlacingAnswer → Said
placing_says (Placed n p) = record { number = 0; fault = 0; count = n; value = p.0 }
placing_says (Unknown at) = record { number = 9; fault = 0; count = at; value = 0 }
placing_says (Faulty at fault) = record { number = 10; fault = fault; count = at; value = 0 }
placing_says (PlacingAnswer.Refused number) = refusal number

-- Building: N and the table's length.
abbrev pub building_says : BuildingAnswer → Said
building_says (Built n len) = record { number = 0; fault = 0; count = n; value = len }
building_says (BuildingAnswer.Refused number) = refusal number

-- Judging: nothing where clean, or fault number and list length.
abbrev pub judging_says : JudgingAnswer → Said
judging_says Clean = refusal 0
judging_says (Fault fault n) = record { number = 0; fault = fault; count = n; value = 0 }
judging_says (JudgingAnswer.Refused number) = refusal number
