-- Document 01, 'Examples to settle the reading', those outside P1 to P12 that compute at once: what building gives, the states of S, and lines; and the example
-- of 'Placing by a table'. What stands here is 01's text but for three offsets; proofs/Computed.antt and, for the lines, proofs/Printed.antt hold the definitions to it.
use Rattle.std.specs.Prelude.{ℕ, List, [], ◌∷◌, ◌++◌, map, true, false, drop, replicate}
use Rattle.convention.specs.Answers.{BuildingAnswer}
use Rattle.convention.specs.Answers.{Built}
use Rattle.convention.specs.declared.Allocation.{Allocation}
use Rattle.convention.specs.Sheets.{sheet_of}
use Rattle.convention.specs.Explored.{Automaton, Entry}
use Rattle.convention.specs.Built.{allocations}
use Rattle.cases.specs.Readings.{states_then_kinds}
use Rattle.cases.specs.Cases.{simple, stackless_double}

-- 'the table is 158 bytes': the room that building is given.
abbrev pub length_of_table : ℕ
length_of_table = 158

-- What building gives: N and the table's length, or the number.
pub record BuildCase : Type 0 where
  pub sheet : List ℕ
  pub gives : BuildingAnswer

infix 5 ◌builds◌
abbrev pub ◌builds◌ : List ℕ → BuildingAnswer → BuildCase
◌builds◌ sheet gives = record { sheet = sheet; gives = gives }

abbrev pub build_cases : List BuildCase
build_cases =
    (simple builds Built 12 length_of_table)
    ∷ (stackless_double builds Built 12 length_of_table)
    ∷ ((0x00 ∷ []) builds BuildingAnswer.Refused 1)
    ∷ ((0x00 ∷ 0x00 ∷ []) builds BuildingAnswer.Refused 3)
    ∷ ((0x00 ∷ 0x01 ∷ 0x02 ∷ []) builds BuildingAnswer.Refused 2)
    ∷ []

-- 'States 4 to 11 have no register free and remainders 0, 1, 4, 2, 5, 3, 6, 7.' S has four registers.
abbrev pub full : ℕ → Allocation
full remainder = record { unavailable = replicate 4 true ++ replicate 12 false; remainder = remainder }

abbrev pub last_states : List Allocation
last_states = map full (0 ∷ 1 ∷ 4 ∷ 2 ∷ 5 ∷ 3 ∷ 6 ∷ 7 ∷ [])

abbrev pub numbering : (X : Automaton) → List (Entry X)
numbering = states_then_kinds

abbrev pub states_from : ((X : Automaton) → List (Entry X)) → ℕ → List ℕ → List Allocation
states_from numbered i s = map (λ (e : Entry (allocations (sheet_of s))). e.node) (drop i (numbered (allocations (sheet_of s))))

-- `12 3 clean`, for S.
abbrev pub clean_line : List ℕ
clean_line = 49 ∷ 50 ∷ 32 ∷ 51 ∷ 32 ∷ 99 ∷ 108 ∷ 101 ∷ 97 ∷ 110 ∷ 10 ∷ []

-- `12 3 fault 1 3 0 2 2`, for S with flag 0 on double.
abbrev pub fault_line : List ℕ
fault_line =
    49 ∷ 50 ∷ 32 ∷ 51 ∷ 32 ∷ 102 ∷ 97 ∷ 117 ∷ 108 ∷ 116 ∷ 32 ∷ 49 ∷ 32 ∷ 51 ∷ 32 ∷ 48 ∷ 32 ∷ 50 ∷ 32 ∷ 50 ∷ 10 ∷ []

-- `refused 1`, for `00`.
abbrev pub refused_one : List ℕ
refused_one = 114 ∷ 101 ∷ 102 ∷ 117 ∷ 115 ∷ 101 ∷ 100 ∷ 32 ∷ 49 ∷ 10 ∷ []

-- 'the least offset, at least p, whose remainder by A is the residue'.
pub record OffsetCase : Type 0 where
  pub p : ℕ
  pub modulus : ℕ
  pub residue : ℕ
  pub gives : ℕ

abbrev from : ℕ → ℕ → ℕ → ℕ → OffsetCase
from p modulus residue gives = record { p = p; modulus = modulus; residue = residue; gives = gives }

-- 'p = 5, A = 8, residue 4 gives 4 + 8 = 12'. Beside it, ours: a p that has the remainder already; p = 0, where it has it and where it has another.
abbrev pub offset_cases : List OffsetCase
offset_cases = from 5 8 4 12 ∷ from 12 8 4 12 ∷ from 0 8 0 0 ∷ from 0 8 4 4 ∷ []
