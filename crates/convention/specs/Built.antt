-- Document 01, 'The built table'.
use Rattle.std.specs.Prelude.{ℕ, zero, suc, ◌%◌, Bool, true, false, cond, ◌&&◌, List, [], ◌∷◌, ◌++◌, leb, eqb, length}
use Rattle.std.specs.Bool.{beq}
use Rattle.convention.specs.declared.Placement.{Placement}
use Rattle.convention.specs.declared.Transition.{Transition}
use Rattle.convention.specs.declared.PlacementParts.{PlacementParts}
use Rattle.convention.specs.declared.Sheet.{Sheet}
use Rattle.convention.specs.declared.Allocation.{Allocation}
use Rattle.convention.specs.declared.ByRules.{ByRules}
use Rattle.convention.specs.Answers.{BuildingAnswer}
use Rattle.convention.specs.Answers.{Built}
use Rattle.convention.specs.Numbers.{or_else, unless}
use Rattle.convention.specs.Bytes.{two_bytes, written, blocks}
use Rattle.convention.specs.Layout.{longest_table}
use Rattle.convention.specs.Fields.{shape_bytes, state_bytes}
use Rattle.convention.specs.Sheets.{sheet_kind, sheet_no, sheet_of}
use Rattle.convention.specs.Tables.{transition_bytes}
use Rattle.convention.specs.Lists.{parts_of}
use Rattle.convention.specs.Rules.{no_registers, by_rules}
use Rattle.convention.specs.Explored.{Automaton, Entry, entry, number, met}

-- 'An allocation state is the set of unavailable registers with p mod A': the one in which placing by the rules stands.
abbrev pub allocation : ℕ → ByRules → Allocation
allocation modulus s = record { unavailable = s.unavailable; remainder = s.p.0 % modulus }

-- The rules go on from an allocation state as from p = its remainder.
abbrev pub from_allocation : Allocation → ByRules
from_allocation a = record { unavailable = a.unavailable; p = record { 0 = a.remainder } }

-- Two allocation states are the same flag by flag, with the same remainder.
unfoldable pub same_flags : List Bool → List Bool → Bool
same_flags [] [] = true
same_flags [] (y ∷ ys) = false
same_flags (x ∷ xs) [] = false
same_flags (x ∷ xs) (y ∷ ys) = beq x y && same_flags xs ys

abbrev pub same_allocation : Allocation → Allocation → Bool
same_allocation a b = eqb a.remainder b.remainder && same_flags a.unavailable b.unavailable

-- 'State 0 is the empty set with 0.'
abbrev pub first_allocation : Allocation
first_allocation = record { unavailable = no_registers; remainder = 0 }

-- A kind leads on where the rules find a place: 'no-place steps lead nowhere'.
abbrev pub allocations : Sheet → Automaton
allocations sheet = record {
  Node = Allocation;
  same = same_allocation;
  start = first_allocation;
  kinds = sheet.head.kinds;
  goes = λ a k. eqb ((by_rules sheet).fault (from_allocation a) k) 0;
  next = λ a k. allocation sheet.head.modulus ((by_rules sheet).after (from_allocation a) k);
}

-- 'form 2, stack: a is the residue', the offset's remainder by A; otherwise it is the number as it stands.
abbrev pub field_a : ℕ → PlacementParts → ℕ
field_a modulus parts = cond (eqb parts.form 2) (parts.number % modulus) parts.number

-- The transition made of a place and the next state's number. 'form 0, no place: a, b and next are 0.'
abbrev pub made : ℕ → Placement → ℕ → Transition
made modulus place next = record {
  form = (parts_of place).form;
  a = field_a modulus (parts_of place);
  b = (parts_of place).count;
  next = unless (eqb (parts_of place).form 0) next;
}

-- Where kind k goes from an allocation state; l holds the states met.
abbrev pub built_transition : (sheet : Sheet) → List (Entry (allocations sheet)) → Allocation → ℕ → Transition
built_transition sheet l a k =
    made sheet.head.modulus ((by_rules sheet).place (from_allocation a) k) (number (allocations sheet) l ((allocations sheet).next a k))

-- The table of a sheet in version v, whose states are the entries of l. 'for each state a row of m transitions', in the order of numbers and of kinds.
unfoldable pub built_cell : ℕ → (sheet : Sheet) → List (Entry (allocations sheet)) → Allocation → ℕ → List ℕ
built_cell v sheet l a k = transition_bytes v (built_transition sheet l a k)

unfoldable pub built_row : ℕ → (sheet : Sheet) → List (Entry (allocations sheet)) → ℕ → List ℕ
built_row v sheet l i = blocks (built_cell v sheet l (entry (allocations sheet) l i).node) sheet.head.kinds

-- 'The kinds' sizes and alignments are copied.'
abbrev pub built_kind : ℕ → Sheet → ℕ → List ℕ
built_kind v sheet k = shape_bytes v (sheet_kind sheet k).shape

-- What follows the length: version, head, kinds, N, rows.
unfoldable pub built_body : ℕ → (sheet : Sheet) → List (Entry (allocations sheet)) → List ℕ
built_body v sheet l =
    v ∷ sheet.head.registers ∷ sheet.head.width ∷ sheet.head.modulus ∷ sheet.head.kinds
    ∷ (blocks (built_kind v sheet) sheet.head.kinds ++ (state_bytes v (length l) ++ blocks (built_row v sheet l) (length l)))

-- 'two bytes, big-endian, the number of bytes that follow', and those.
abbrev pub after_length : List ℕ → List ℕ
after_length body = two_bytes (length body) ++ body

unfoldable pub table_of_states : ℕ → (sheet : Sheet) → List (Entry (allocations sheet)) → List ℕ
table_of_states v sheet l = after_length (built_body v sheet l)

-- 'Only states that some list of kinds reaches by the rules count': all of them, where there are no more than the limit.
abbrev pub built_states : ℕ → (sheet : Sheet) → List (Entry (allocations sheet))
built_states limit sheet = met (allocations sheet) limit

-- 'one version byte, 1': that of a sheet's table of so many states; and the most bytes of a built table.
unfoldable pub built_version : Sheet → ℕ → ℕ
built_version sheet states = 1

abbrev pub built_most : ℕ → ℕ
built_most limit = longest_table 1 limit

-- The built table.
abbrev pub built_table : ℕ → Sheet → List ℕ
built_table limit sheet = table_of_states (built_version sheet (length (built_states limit sheet))) sheet (built_states limit sheet)

-- Number 11: 'lists of the sheet's kinds reach more than 200 allocation states'. Going through as many as the limit meets one more.
abbrev pub many_states_no : ℕ → Sheet → ℕ
many_states_no limit sheet = unless (leb (length (built_states limit sheet)) limit) 11

-- 'Building: 11, 12', of a sheet that was read; and after the number that reading it gave.
abbrev pub build_sheet_no : ℕ → Sheet → ℕ → ℕ
build_sheet_no limit sheet room = or_else (many_states_no limit sheet) (unless (leb (length (built_table limit sheet)) room) 12)

unfoldable pub build_no : ℕ → List ℕ → ℕ → ℕ
build_no limit s room = or_else (sheet_no s) (build_sheet_no limit (sheet_of s) room)

-- 'Building answers N and the table's length, writes the table and leaves the bytes behind it.'
abbrev pub built_or_refused : ℕ → ℕ → ℕ → BuildingAnswer
built_or_refused zero n len = Built n len
built_or_refused (suc number) n len = BuildingAnswer.Refused (suc number)

unfoldable pub build : ℕ → List ℕ → ℕ → BuildingAnswer
build limit s room = built_or_refused (build_no limit s room) (length (built_states limit (sheet_of s))) (length (built_table limit (sheet_of s)))

abbrev pub build_writes : ℕ → List ℕ → List ℕ → List ℕ
build_writes zero table out = written out 0 table
build_writes (suc number) table out = out

unfoldable pub build_memory : ℕ → List ℕ → List ℕ → List ℕ
build_memory limit s out = build_writes (build_no limit s (length out)) (built_table limit (sheet_of s)) out
