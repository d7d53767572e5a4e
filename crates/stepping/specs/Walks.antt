-- What both placers promise of placing a list, over either way of placing: its tests, the walk that looks for a fault and makes the records, and the copy of them.
use Rattle.std.specs.Prelude.{ℕ, ◌+◌, ◌*◌, ◌≤◌, ◌≡◌, List, [], ◌++◌, leb, length, take, drop, Result, Ok, Err}
use Rattle.convention.specs.declared.Offset.{Offset}
use Rattle.convention.specs.declared.Placed.{Placed}
use Rattle.convention.specs.declared.Unplaced.{Unplaced}
use Rattle.convention.specs.declared.Unplaced.TheVariants.{Refused, Unknown, Faulty}
use Rattle.convention.specs.Answers.{PlacingAnswer}
use Rattle.convention.specs.Results.{refusal_number, placing_answer}
use Rattle.convention.specs.Numbers.{argument_limit, or_else, unless}
use Rattle.convention.specs.Bytes.{written}
use Rattle.convention.specs.Lists.{Steps, fault_from, stop_from, state_from, places_from, records_of, record_length, records, unknown_at, list_no, walk_answer, placing, placing_memory}

-- Half way through a list, before argument i and in state s: what is left of the list gives the fault, the position, the state and the records of all; those of the first i
-- arguments stand in front of the memory for them, which held `before`, and its bytes after them are untouched.
pub record MakeRest (M : Steps) (ks before : List ℕ) (s : M.State) (i : ℕ) (out : List ℕ) : Type 0 where
  pub within : i ≤ length ks
  pub fault : fault_from M s (drop i ks) ≡ fault_from M M.begin ks
  pub stop : i + stop_from M s (drop i ks) ≡ stop_from M M.begin ks
  pub state : state_from M s (drop i ks) ≡ state_from M M.begin ks
  pub rest : records_of (places_from M s (drop i ks)) ≡ drop (record_length * i) (records M ks)
  pub made : out ≡ take (record_length * i) (records M ks) ++ drop (record_length * i) before
  pub long : length out ≡ length before

-- The answer of a walk through a list of so many arguments: all are placed, or a step is faulty.
abbrev pub walked_answer : ℕ → Result Offset Unplaced → PlacingAnswer
walked_answer count (Ok p) = PlacingAnswer.Placed count p
walked_answer count (Err unplaced) = placing_answer (Err unplaced)

-- The whole walk: number 10 with its first fault and where that is, or the final p; and where nothing is faulty, all the records.
pub record WalkMakes (M : Steps) (ks before : List ℕ) (walked : Result Offset Unplaced) (after : List ℕ) : Type 0 where
  pub answers : walked_answer (length ks) walked ≡ walk_answer (fault_from M M.begin ks) (stop_from M M.begin ks) (length ks) (M.p (state_from M M.begin ks))
  pub made : (p : Offset) → walked ≡ Ok p → after ≡ written before 0 (records M ks)
  pub long : length after ≡ length before

-- A list of known kinds, of no more arguments than the limit.
pub record Listed (limit m : ℕ) (ks : List ℕ) : Type 0 where
  pub known : unknown_at m ks ≡ length ks
  pub short : length ks ≤ limit

-- A list that can be walked, and memory for its records.
pub record WalkAsks (m : ℕ) (ks : List ℕ) (long : ℕ) : Type 0 where
  pub listed : Listed argument_limit m ks
  pub room : record_length * length ks ≤ long

-- The number of the first test that a list fails, 'Then, placing: 8, 12, 9'; 0 where it fails none.
abbrev pub test_no : ℕ → ℕ → List ℕ → ℕ → ℕ
test_no limit m ks room = or_else (list_no limit (length ks) room) (unless (leb (length ks) (unknown_at m ks)) 9)

-- The number of a list's test, or of its placing: 0 where nothing refuses it.
abbrev pub test_of : {T : Type 0} → Result T Unplaced → ℕ
test_of (Ok x) = 0
test_of (Err (Refused refusal)) = refusal_number refusal
test_of (Err (Unknown at)) = 9
test_of (Err (Faulty at fault)) = 10

-- What a list was found to be by its tests: their number, with 9 the first unknown kind's position; where it is 0 the list can be placed,
-- and its records have room.
pub record ListTested (limit m : ℕ) (ks : List ℕ) (room : ℕ) {T : Type 0} (tested : Result T Unplaced) : Type 0 where
  pub is : test_of tested ≡ test_no limit m ks room
  pub position : (at : ℕ) → tested ≡ Err (Unknown at) → at ≡ unknown_at m ks
  pub listed : test_of tested ≡ 0 → Listed limit m ks
  pub roomy : test_of tested ≡ 0 → record_length * length ks ≤ room

-- The records that come with an answer: those of a list that is placed, and none with a refusal.
unfoldable pub records_with : PlacingAnswer → (M : Steps) → List ℕ → List ℕ
records_with (PlacingAnswer.Placed n p) M ks = records M ks
records_with (PlacingAnswer.Unknown at) M ks = []
records_with (PlacingAnswer.Faulty at fault) M ks = []
records_with (PlacingAnswer.Refused number) M ks = []

-- Memory for the records of a list that passes its first tests with so much room.
abbrev pub RecordsRoom : ℕ → List ℕ → ℕ → ℕ → Type 0
RecordsRoom limit ks room long = list_no limit (length ks) room ≡ 0 → record_length * length ks ≤ long

-- How many bytes of records come with what was decided: those of each argument, where the list is placed.
abbrev pub bytes_of : Result Placed Unplaced → ℕ
bytes_of (Ok placed) = record_length * placed.arguments
bytes_of (Err unplaced) = 0

-- What was decided of a list with so much room: the answer, and the records that come with it, in the first bytes of the memory for them.
pub record DecidedIs (limit m : ℕ) (M : Steps) (ks : List ℕ) (room : ℕ) (decided : Result Placed Unplaced) (made : List ℕ) : Type 0 where
  pub answers : placing_answer decided ≡ placing limit 0 m M ks room
  pub makes : take (bytes_of decided) made ≡ records_with (placing_answer decided) M ks
  pub there : bytes_of decided ≤ length made
  pub fits : bytes_of decided ≤ room

-- The answer of placing by a convention of m kinds that was read, and the lent memory afterwards.
pub record PlacingIs (limit m : ℕ) (M : Steps) (ks before : List ℕ) (result : Result Placed Unplaced) (after : List ℕ) : Type 0 where
  pub answers : placing_answer result ≡ placing limit 0 m M ks (length before)
  pub memory : after ≡ placing_memory (placing_answer result) M ks before
