-- Demand 2 of the public calls: placing by the built table answers as placing by the sheet does, and leaves the same bytes, whatever the list and the room.
use Prim.Native.Nat.{ℕ, ◌≤◌}
use mathlib.Core.Path.{◌≡◌, sym, ap, ap₂, ◌∙◌}
use mathlib.Core.List.{List}
use lib.ListN.{length}
use Rattle.convention.specs.Layout.{LengthSaid}
use Rattle.convention.specs.declared.Head.{Head}
use Rattle.convention.specs.declared.Sheet.{Sheet}
use Rattle.convention.specs.Sheets.{sheet_no, sheet_of}
use Rattle.convention.specs.Tables.{table_no, table_of}
use Rattle.convention.specs.Lists.{placing, placing_memory}
use Rattle.convention.specs.Rules.{place_by_rules, rules_memory}
use Rattle.convention.specs.Walked.{place_by_table, table_memory}
use Rattle.convention.specs.Built.{built_states, built_table}
use Rattle.convention.specs.Promised.{SheetRead}
use Rattle.convention.proofs.Sheets.{sheet_read}
use Rattle.building.specs.Made.{by_built}
use Rattle.building.proofs.InStep.{step_answer, step_memory}
use Rattle.building.proofs.Readable.{built_head, readable}
use Rattle.building.proofs.Agreement.{begin_together, in_step}

-- A sheet's bytes that can be read and built, of at most `states` states; a call places at most `arguments` arguments.
module _ (states arguments : ℕ) (s : List ℕ) (e : sheet_no s ≡ 0) (whole : length (built_states states (sheet_of s)) ≤ states) (said : LengthSaid states) where
  abbrev sheet : Sheet
  sheet = sheet_of s

  read : SheetRead sheet
  read = sheet_read s e

  -- Reading gives one number and one count of kinds in both.
  same_number : table_no states (built_table states sheet) ≡ sheet_no s
  same_number = readable states sheet read whole said ∙ sym e

  same_kinds : (table_of (built_table states sheet)).head.kinds ≡ sheet.head.kinds
  same_kinds = ap (λ (h : Head). h.kinds) (built_head _ sheet (built_states states sheet))

  -- Placing by the built table gives the answer of placing by the sheet, refusals too.
  pub same_answer : (ks : List ℕ) (room : ℕ) → place_by_table states arguments (built_table states (sheet_of s)) ks room ≡ place_by_rules arguments s ks room
  unfolding place_by_table place_by_rules
  same_answer ks room =
      ap₂ (λ number m. placing arguments number m (by_built states sheet) ks room) same_number same_kinds
      ∙ step_answer _ _ _ _ (in_step states sheet read whole) (begin_together states sheet read whole) ks arguments (sheet_no s) room

  -- And it leaves the lent memory with the same bytes.
  pub same_bytes : (ks out : List ℕ) → table_memory states arguments (built_table states (sheet_of s)) ks out ≡ rules_memory arguments s ks out
  unfolding table_memory rules_memory place_by_table place_by_rules
  same_bytes ks out =
      ap₂ (λ number m. placing_memory (placing arguments number m (by_built states sheet) ks (length out)) (by_built states sheet) ks out) same_number same_kinds
      ∙ step_memory _ _ _ _ (in_step states sheet read whole) (begin_together states sheet read whole) ks arguments (sheet_no s) (length out) out
