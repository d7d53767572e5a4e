-- The three demands, about the definitions that the public calls' contracts cite. Each demand is a record, sentence by sentence; proofs/Demands.antt proves them.
-- s is a sheet's bytes, t a table's, ks a list of kinds, out the caller's output before a call and `after` the output afterwards; all of them are any lists of numbers.
--
-- How to read a line: `A ↔ B` is A exactly when B; `A × B` A and B; `A ⊎ B` A or B; `A → ⊥` not A; `A → B` B where A holds; `(x : T) → A` A for every x; `(x : T) × A` A for some
-- x; `a ≡ b` that a is b; `a ∷ b ∷ []` the list of a and b; `get_or l i d` what stands at i in the list l, d past its end; `take n l` its first n, `drop n l` the others; `x.f` field
-- f of x. `sheet_no s` and `table_no state_limit t` are the number that reading gives, 0 where the file can be read; `sheet_of s` and `table_of t` what was read; `(.._says answer).number`
-- an answer's number, 0 on success. `state_limit` is 200, `argument_limit` 400, `record_length` 6.
--
-- Which definition is which call's, by its contract (docs/CONTRACTS.md): read_sheet `read_sheet`, read_table `read_table`, row `row` with `row_no`, place_by_rules `place_by_rules` with
-- `rules_memory` for the output, place_by_table `place_by_table` with `table_memory`, build `build` with `build_memory`, judge `Judges`; sheet_kind and table_kind of the static library
-- `sheet_kind_says` and `table_kind_says`. `Steps` is either way of placing: `by_rules` and `by_table`. `Before` is shorter, or as long and earlier in kind order.
use Rattle.std.specs.Prelude.{ℕ, ◌-◌, ◌*◌, ◌≤◌, ◌<◌, ◌≡◌, ◌⊎◌, ◌↔◌, List, [], ◌∷◌, length, get_or, take, drop}
use Rattle.convention.specs.declared.Offset.{Offset}
use Rattle.convention.specs.Answers.{PlacingAnswer}
use Rattle.convention.specs.Answers.{Placed, Unknown, Faulty}
use Rattle.convention.specs.Answers.{BuildingAnswer}
use Rattle.convention.specs.Answers.{Built}
use Rattle.convention.specs.Answers.{JudgingAnswer}
use Rattle.convention.specs.Answers.{Clean, Fault}
use Rattle.convention.specs.Numbers.{state_limit, argument_limit, reading_no, placing_says, building_says, judging_says}
use Rattle.convention.specs.Fields.{length_field}
use Rattle.convention.specs.Sheets.{sheet_no, sheet_of, read_sheet}
use Rattle.convention.specs.Layout.{length_bytes, version_at, row_length, row_at}
use Rattle.convention.specs.Tables.{table_no, table_of, read_table, row_no, row}
use Rattle.convention.specs.Lists.{Steps, place_by, fault_from, stop_from, state_from, record_of, record_length, KindsBelow}
use Rattle.convention.specs.Rules.{by_rules, place_by_rules, rules_memory}
use Rattle.convention.specs.Walked.{by_table, place_by_table, table_memory}
use Rattle.convention.specs.Built.{built_table, build, build_memory}
use Rattle.convention.specs.Orders.{Before}
use Rattle.convention.specs.Judged.{list_fault, Judges}
use Rattle.convention.specs.WellPlaced.{WellPlaced}
use Rattle.convention.specs.Promised.{SheetRead, TableRead}
use Rattle.building.specs.Reached.{ReachMore}
use Rattle.teaselram.specs.Says.{sheet_kind_says, table_kind_says}

-- A list of the kinds of a sheet, and of a table: each kind number is below m.
abbrev pub OfSheet : List ℕ → List ℕ → Type 0
OfSheet s ks = KindsBelow (sheet_of s).head.kinds ks

abbrev pub OfTable : List ℕ → List ℕ → Type 0
OfTable t ks = KindsBelow (table_of t).head.kinds ks

-- Either way of placing: where it stops, at its first faulty step or after the list; and p after the list. (`place_by` is the place that it gives argument i.)
abbrev pub stop_by : Steps → List ℕ → ℕ
stop_by M ks = stop_from M M.begin ks

abbrev pub p_by : Steps → List ℕ → Offset
p_by M ks = M.p (state_from M M.begin ks)

-- The rules of a sheet, and a table.
abbrev pub rules : List ℕ → Steps
rules s = by_rules (sheet_of s)

abbrev pub table : List ℕ → Steps
table t = by_table (table_of t) t

-- ---- Demand 1. 'Every entry point takes arbitrary bytes and any list of kinds, always ends, and checks for itself.' That is what it means that a function without
-- a `requires` is proved. 'Each refusal is one of document 01's numbers, given exactly when the document says, and writes nothing to the caller's output.'

-- A number is one of several.
unfoldable pub OneOf : List ℕ → ℕ → Type 0
OneOf [] n = ⊥
OneOf (k ∷ ks) n = (n ≡ k) ⊎ OneOf ks n

-- Reading, of a sheet (no number above 6) and of a table (none above 7). Numbers 3 to 7 are defined in 01's words, by the bytes from left to right: `Fields`, `Sheets` and
-- `Tables` of crates/convention/specs.
pub record ReadingRefuses (file : List ℕ) (most number : ℕ) : Type 0 where
  pub one : number ≡ 1 ↔ (length file < length_bytes) ⊎ (length_field file ≡ length file - length_bytes → ⊥)
  pub two : number ≡ 2 ↔ (length_bytes ≤ length file) × (length_field file ≡ length file - length_bytes) × (version_at < length file) × (get_or file version_at 0 ≡ 1 → ⊥)
  pub others : number ≤ most

-- 'a kind number of m or more in the list; with the first such position'.
pub record FirstUnknown (m : ℕ) (ks : List ℕ) (at : ℕ) : Type 0 where
  pub inside : at < length ks
  pub unknown : m ≤ get_or ks at 0
  pub before : (i : ℕ) → i < at → get_or ks i 0 < m

-- 'a faulty step; with position and fault': it has the fault, and no step before it has one.
pub record FirstFault (M : Steps) (ks : List ℕ) (at fault : ℕ) : Type 0 where
  pub inside : at < length ks
  pub faulty : 0 < fault
  pub here : M.fault (state_from M M.begin (take at ks)) (get_or ks at 0) ≡ fault
  pub before : fault_from M M.begin (take at ks) ≡ 0

-- The file was read, the list is not too long, and there is room for its records.
pub record Ready (read_no : ℕ) (ks out : List ℕ) : Type 0 where
  pub reads : read_no ≡ 0
  pub short : length ks ≤ argument_limit
  pub room : record_length * length ks ≤ length out

-- Placing a list, by the rules of a sheet or by a table of m kinds, of which reading gave a number. Success answers the number of arguments and the final p.
pub record PlacingRefuses (read_no m : ℕ) (M : Steps) (ks out : List ℕ) (answer : PlacingAnswer) (after : List ℕ) : Type 0 where
  pub reader : 0 < read_no → answer ≡ PlacingAnswer.Refused read_no
  pub eight : answer ≡ PlacingAnswer.Refused 8 ↔ (read_no ≡ 0) × (argument_limit < length ks)
  pub twelve : answer ≡ PlacingAnswer.Refused 12 ↔ (read_no ≡ 0) × (length ks ≤ argument_limit) × (length out < record_length * length ks)
  pub nine : (at : ℕ) → answer ≡ Unknown at ↔ Ready read_no ks out × FirstUnknown m ks at
  pub ten : (at fault : ℕ) → answer ≡ Faulty at fault ↔ Ready read_no ks out × KindsBelow m ks × FirstFault M ks at fault
  pub success : answer ≡ Placed (length ks) (p_by M ks) ↔ Ready read_no ks out × KindsBelow m ks × (fault_from M M.begin ks ≡ 0)
  pub others : OneOf (0 ∷ read_no ∷ 8 ∷ 12 ∷ 9 ∷ 10 ∷ []) (placing_says answer).number
  pub untouched : 0 < (placing_says answer).number → after ≡ out

-- Building.
pub record BuildingRefuses (s out : List ℕ) (answer : BuildingAnswer) (after : List ℕ) : Type 0 where
  pub reader : 0 < sheet_no s → answer ≡ BuildingAnswer.Refused (sheet_no s)
  pub eleven : answer ≡ BuildingAnswer.Refused 11 ↔ (sheet_no s ≡ 0) × ReachMore state_limit (sheet_of s)
  pub twelve : answer ≡ BuildingAnswer.Refused 12
      ↔ (sheet_no s ≡ 0) × (ReachMore state_limit (sheet_of s) → ⊥) × (length out < length (built_table state_limit (sheet_of s)))
  pub success : (building_says answer).number ≡ 0
      ↔ (sheet_no s ≡ 0) × (ReachMore state_limit (sheet_of s) → ⊥) × (length (built_table state_limit (sheet_of s)) ≤ length out)
  pub others : OneOf (0 ∷ sheet_no s ∷ 11 ∷ 12 ∷ []) (building_says answer).number
  pub untouched : 0 < (building_says answer).number → after ≡ out

-- Judging: 'given room for 2N kinds'.
pub record JudgingRefuses (t out : List ℕ) (answer : JudgingAnswer) (after : List ℕ) : Type 0 where
  pub reader : 0 < table_no state_limit t → answer ≡ JudgingAnswer.Refused (table_no state_limit t)
  pub twelve : answer ≡ JudgingAnswer.Refused 12 ↔ (table_no state_limit t ≡ 0) × (length out < 2 * (table_of t).states)
  pub success : (judging_says answer).number ≡ 0 ↔ (table_no state_limit t ≡ 0) × (2 * (table_of t).states ≤ length out)
  pub others : OneOf (0 ∷ table_no state_limit t ∷ 12 ∷ []) (judging_says answer).number
  pub untouched : 0 < (judging_says answer).number → after ≡ out

-- A row: 'the caller's own bytes of that state, 4m of them'; 'A row is never empty, so an empty part means refused.'
pub record RowRefuses (t : List ℕ) (state number : ℕ) (part : List ℕ) : Type 0 where
  pub reader : 0 < table_no state_limit t → number ≡ table_no state_limit t
  pub thirteen : number ≡ 13 ↔ (table_no state_limit t ≡ 0) × ((table_of t).states ≤ state)
  pub success : number ≡ 0 ↔ (table_no state_limit t ≡ 0) × (state < (table_of t).states)
  pub others : OneOf (0 ∷ table_no state_limit t ∷ 13 ∷ []) number
  pub empty : 0 < number ↔ part ≡ []
  pub bytes : number ≡ 0 → part ≡ take (row_length (table_of t).version (table_of t).head) (drop (row_at (table_of t).version (table_of t).head state) t)

-- One kind of a file of m kinds, of which reading gave a number: 9 where there is none, as placing a list of that one kind would answer.
pub record KindRefuses (read_no m k number : ℕ) : Type 0 where
  pub reader : 0 < read_no → number ≡ read_no
  pub nine : number ≡ 9 ↔ (read_no ≡ 0) × (m ≤ k)
  pub success : number ≡ 0 ↔ (read_no ≡ 0) × (k < m)
  pub others : OneOf (0 ∷ read_no ∷ 9 ∷ []) number

-- Demand 1, of every call. A file that was read has the values that 01 allows (`SheetRead`, `TableRead`); 'the final p is at most 31,600'.
pub record Demand1 : Type 0 where
  pub sheets : (s : List ℕ) → ReadingRefuses s 6 (reading_no (read_sheet s).reading)
  pub tables : (t : List ℕ) → ReadingRefuses t 7 (reading_no (read_table state_limit t).reading)
  pub sheet_values : (s : List ℕ) → reading_no (read_sheet s).reading ≡ 0 → SheetRead (read_sheet s).sheet
  pub table_values : (t : List ℕ) → reading_no (read_table state_limit t).reading ≡ 0 → TableRead state_limit (read_table state_limit t).table t
  pub sheet_kinds : (s : List ℕ) (k : ℕ) → KindRefuses (sheet_no s) (sheet_of s).head.kinds k (sheet_kind_says s k).number
  pub table_kinds : (t : List ℕ) (k : ℕ) → KindRefuses (table_no state_limit t) (table_of t).head.kinds k (table_kind_says state_limit t k).number
  pub by_rules : (s ks out : List ℕ) → PlacingRefuses (sheet_no s) (sheet_of s).head.kinds (rules s) ks out
      (place_by_rules argument_limit s ks (length out)) (rules_memory argument_limit s ks out)
  pub by_table : (t ks out : List ℕ) → PlacingRefuses (table_no state_limit t) (table_of t).head.kinds (table t) ks out
      (place_by_table state_limit argument_limit t ks (length out)) (table_memory state_limit argument_limit t ks out)
  pub builds : (s out : List ℕ) → BuildingRefuses s out (build state_limit s (length out)) (build_memory state_limit s out)
  pub judges : (t out : List ℕ) (answer : JudgingAnswer) (after : List ℕ) → Judges state_limit t out answer after → JudgingRefuses t out answer after
  pub rows : (t : List ℕ) (state : ℕ) → RowRefuses t state (row_no state_limit t state) (row state_limit t state)
  pub p_by_rules : (s ks : List ℕ) (room n : ℕ) (p : Offset) → place_by_rules argument_limit s ks room ≡ Placed n p → p.0 ≤ 31600
  pub p_by_table : (t ks : List ℕ) (room n : ℕ) (p : Offset) → place_by_table state_limit argument_limit t ks room ≡ Placed n p → p.0 ≤ 31600

-- ---- Demand 2. 'A placement is the one that 01's rules give, argument by argument, down to the byte. A table built from a sheet gives that same placement, or stops
-- at the same argument, for every list of kinds of any length.'

-- A list that was placed: the answer is its length and p, the record of each argument is that of its place, and the bytes after the records are untouched.
pub record DownToTheByte (M : Steps) (ks out : List ℕ) (n : ℕ) (p : Offset) (after : List ℕ) : Type 0 where
  pub count : n ≡ length ks
  pub final : p ≡ p_by M ks
  pub records : (i : ℕ) → i < length ks → take record_length (drop (record_length * i) after) ≡ record_of (place_by M ks i)
  pub untouched : drop (record_length * length ks) after ≡ drop (record_length * length ks) out

-- A table t gives the same places as the rules of s, stops where they stop and ends at the same p; and the two calls give the same answer and leave the same output.
pub record PlacesAlike (s t : List ℕ) : Type 0 where
  pub stop : (ks : List ℕ) → OfSheet s ks → stop_by (table t) ks ≡ stop_by (rules s) ks
  pub places : (ks : List ℕ) → OfSheet s ks → (i : ℕ) → i < stop_by (rules s) ks → place_by (table t) ks i ≡ place_by (rules s) ks i
  pub final : (ks : List ℕ) → OfSheet s ks → stop_by (rules s) ks ≡ length ks → p_by (table t) ks ≡ p_by (rules s) ks
  pub answer : (ks : List ℕ) (room : ℕ) → place_by_table state_limit argument_limit t ks room ≡ place_by_rules argument_limit s ks room
  pub memory : (ks out : List ℕ) → table_memory state_limit argument_limit t ks out ≡ rules_memory argument_limit s ks out

-- The first len bytes of the output are a table of n states that can be read and places like its sheet; the bytes after it are untouched.
pub record BuiltBytes (s out : List ℕ) (n len : ℕ) (after : List ℕ) : Type 0 where
  pub long : length (take len after) ≡ len
  pub readable : table_no state_limit (take len after) ≡ 0
  pub states : (table_of (take len after)).states ≡ n
  pub alike : PlacesAlike s (take len after)
  pub untouched : drop len after ≡ drop len out

-- Demand 2, of the placing calls and of building.
pub record Demand2 : Type 0 where
  pub by_rules : (s ks out : List ℕ) (n : ℕ) (p : Offset) → place_by_rules argument_limit s ks (length out) ≡ Placed n p
      → DownToTheByte (rules s) ks out n p (rules_memory argument_limit s ks out)
  pub by_table : (t ks out : List ℕ) (n : ℕ) (p : Offset) → place_by_table state_limit argument_limit t ks (length out) ≡ Placed n p
      → DownToTheByte (table t) ks out n p (table_memory state_limit argument_limit t ks out)
  pub built : (s out : List ℕ) (n len : ℕ) → build state_limit s (length out) ≡ Built n len → BuiltBytes s out n len (build_memory state_limit s out)

-- ---- Demand 3. 'A table that can be read, given room for 2N kinds, is passed exactly when no finite list of its kinds goes wrong. One that fails comes back with a list
-- that does go wrong; no shorter list does, and no list of that length earlier in kind order does.' A list goes right where it is `WellPlaced`: each
-- argument has 'exactly the registers its size needs' (document 02, W-202) or exactly its stack bytes, rightly aligned, and no two share any. It goes wrong where it is not.

-- The list goes wrong, and each list of the table's kinds that is shorter, or as long and earlier, goes right.
pub record FirstWrong (t ks : List ℕ) : Type 0 where
  pub known : OfTable t ks
  pub wrong : WellPlaced t ks → ⊥
  pub first : (ks' : List ℕ) → OfTable t ks' → Before ks' ks → WellPlaced t ks'

-- A fault with a list of n kinds: the first n bytes of the output are the first list that goes wrong, the fault is its, and the other bytes are untouched.
pub record ComesBack (t out : List ℕ) (fault n : ℕ) (after : List ℕ) : Type 0 where
  pub list : FirstWrong t (take n after)
  pub long : length (take n after) ≡ n
  pub says : fault ≡ list_fault t (take n after)
  pub untouched : drop n after ≡ drop n out

-- The answer is clean exactly when every list goes right, and then nothing is written; or it is a fault, with its list.
pub record JudgedRight (t out : List ℕ) (answer : JudgingAnswer) (after : List ℕ) : Type 0 where
  pub passed : answer ≡ Clean ↔ ((ks : List ℕ) → OfTable t ks → WellPlaced t ks)
  pub untouched : answer ≡ Clean → after ≡ out
  pub failed : (fault n : ℕ) → answer ≡ Fault fault n → ComesBack t out fault n after
  pub either : (answer ≡ Clean) ⊎ ((fault n : ℕ) × (answer ≡ Fault fault n))

-- Demand 3: judging has an answer on every input; whatever answer and output it gives is right; and a list has no fault exactly where it goes right.
pub record Demand3 : Type 0 where
  pub answered : (t out : List ℕ) → (answer : JudgingAnswer) × (after : List ℕ) × Judges state_limit t out answer after
  pub judged : (t out : List ℕ) (answer : JudgingAnswer) (after : List ℕ) → table_no state_limit t ≡ 0 → 2 * (table_of t).states ≤ length out
      → Judges state_limit t out answer after → JudgedRight t out answer after
  pub faults : (t ks : List ℕ) → table_no state_limit t ≡ 0 → OfTable t ks → list_fault t ks ≡ 0 ↔ WellPlaced t ks
