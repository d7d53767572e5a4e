-- Document 01: what placing by the rules and placing by a table have in common. A list, argument by argument; records; the answer and the lent memory.
use Rattle.std.specs.Prelude.{ℕ, zero, suc, ◌*◌, ◌<◌, true, false, cond, List, [], ◌∷◌, ◌++◌, ltb, leb, length, get_or}
use Rattle.convention.specs.declared.Offset.{Offset}
use Rattle.convention.specs.declared.Placement.{Placement}
use Rattle.convention.specs.declared.Placement.TheVariants.{Registers, Stack, Nowhere}
use Rattle.convention.specs.declared.PlacementParts.{PlacementParts}
use Rattle.convention.specs.Answers.{PlacingAnswer}
use Rattle.convention.specs.Answers.{Placed, Unknown, Faulty}
use Rattle.convention.specs.Numbers.{or_else, unless}
use Rattle.convention.specs.Bytes.{four_bytes, written}

-- One way of placing: its states, the first, and what each kind gives in a state: a place, a fault (0: none) and the state after it; p.
pub record Steps : Type 1 where
  pub State : Type 0
  pub begin : State
  pub place : State → ℕ → Placement
  pub fault : State → ℕ → ℕ
  pub after : State → ℕ → State
  pub p : State → Offset

-- 'A list of kinds is faulty if some step has a fault; the walk stops there': the fault of that step, 0 where no step has one.
unfoldable pub fault_from : (M : Steps) → M.State → List ℕ → ℕ
fault_from M s [] = 0
fault_from M s (k ∷ ks) = or_else (M.fault s k) (fault_from M (M.after s k) ks)

-- Its position, from 0; the list's length where no step has a fault.
unfoldable pub stop_from : (M : Steps) → M.State → List ℕ → ℕ
stop_from M s [] = 0
stop_from M s (k ∷ ks) = elim (M.fault s k) [ zero ↦ suc (stop_from M (M.after s k) ks) | suc f ↦ 0 ]

-- The state after a list.
unfoldable pub state_from : (M : Steps) → M.State → List ℕ → M.State
state_from M s [] = s
state_from M s (k ∷ ks) = state_from M (M.after s k) ks

-- The places of a list, argument by argument.
unfoldable pub places_from : (M : Steps) → M.State → List ℕ → List Placement
places_from M s [] = []
places_from M s (k ∷ ks) = M.place s k ∷ places_from M (M.after s k) ks

-- The place of argument i of a list. (After a faulty step this goes on as if it had none.)
abbrev pub place_by : (M : Steps) → List ℕ → ℕ → Placement
place_by M ks i = get_or (places_from M M.begin ks) i Nowhere

-- 'A placement is one of three things: registers with a first and a count, stack with an offset and a count, or none': its form, number and count.
abbrev pub parts_of : Placement → PlacementParts
parts_of (Registers first count) = record { form = 1; number = first.0; count = count }
parts_of (Stack offset count) = record { form = 2; number = offset.0; count = count }
parts_of Nowhere = record { form = 0; number = 0; count = 0 }

-- 'Its record is form (1 or 2), first register or offset in four bytes, big-endian, and count in one byte.'
abbrev pub record_of : Placement → List ℕ
record_of place = (parts_of place).form ∷ (four_bytes (parts_of place).number ++ (parts_of place).count ∷ [])

-- 'Needed room: placing, 6 bytes an argument.'
abbrev pub record_length : ℕ
record_length = 6

unfoldable pub records_of : List Placement → List ℕ
records_of [] = []
records_of (place ∷ places) = record_of place ++ records_of places

-- Number 9: 'a kind number of m or more in the list; with the first such position'; the list's length where there is none.
unfoldable pub unknown_at : ℕ → List ℕ → ℕ
unknown_at m [] = 0
unknown_at m (k ∷ ks) = elim (ltb k m) [ true ↦ suc (unknown_at m ks) | false ↦ 0 ]

-- A list of kinds of a convention that has m: each is below m.
unfoldable pub KindsBelow : ℕ → List ℕ → Type 0
KindsBelow m [] = Unit {0}
KindsBelow m (k ∷ ks) = (k < m) × KindsBelow m ks

-- 'Then, placing: 8, 12, ..': the number of so many arguments with so much room, before any kind is looked at.
abbrev pub list_no : ℕ → ℕ → ℕ → ℕ
list_no limit arguments room = or_else (unless (leb arguments limit) 8) (unless (leb (record_length * arguments) room) 12)

-- Number 10, or success with the number of arguments and the final p.
abbrev pub walk_answer : ℕ → ℕ → ℕ → Offset → PlacingAnswer
walk_answer zero stop n p = Placed n p
walk_answer (suc fault) stop n p = Faulty stop (suc fault)

-- '.. 9, 10, so that 9 anywhere in the list comes before 10', after the number of all that comes first.
abbrev pub placed_or_refused : ℕ → ℕ → (M : Steps) → List ℕ → PlacingAnswer
placed_or_refused zero m M ks =
    cond (ltb (unknown_at m ks) (length ks)) (Unknown (unknown_at m ks))
    (walk_answer (fault_from M M.begin ks) (stop_from M M.begin ks) (length ks) (M.p (state_from M M.begin ks)))
placed_or_refused (suc number) m M ks = PlacingAnswer.Refused (suc number)

-- The answer of placing the list ks of a convention of m kinds, of which reading gave a number, with so much room.
unfoldable pub placing : ℕ → ℕ → ℕ → (M : Steps) → List ℕ → ℕ → PlacingAnswer
placing limit number m M ks room = placed_or_refused (or_else number (list_no limit (length ks) room)) m M ks

-- 'Success writes the records and leaves the bytes behind them'; a refusal 'leaves lent memory untouched'.
abbrev pub records : (M : Steps) → List ℕ → List ℕ
records M ks = records_of (places_from M M.begin ks)

unfoldable pub placing_memory : PlacingAnswer → (M : Steps) → List ℕ → List ℕ → List ℕ
placing_memory (Placed n p) M ks out = written out 0 (records M ks)
placing_memory (Unknown at) M ks out = out
placing_memory (Faulty at fault) M ks out = out
placing_memory (PlacingAnswer.Refused number) M ks out = out
