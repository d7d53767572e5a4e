-- P1 to P12 as one statement: what the definitions of crates/convention give for each case is what document 01 says. By computation. So are the cases that settle more, and those of document 02.
use mathlib.Core.Path.{◌≡◌, refl}
use mathlib.Core.List.{[], ◌∷◌, ◌++◌, map}
use Rattle.convention.specs.Layout.{shape_length, state_length}
use Rattle.convention.specs.Fields.{version_of, head_of, head_no, opening_no, shape_no, shape_of, shape_bytes, state_field, state_bytes}
use Rattle.convention.specs.Shapes.{right_count, stack_bytes}
use Rattle.convention.specs.Sheets.{starts_no, sheet_kind_no, sheet_kind_of, sheet_kinds_no, sheet_kinds_of, sheet_kinds_length, sheet_no, sheet_of}
use Rattle.convention.specs.Tables.{table_kinds_no, table_kinds_of, transition_no, transitions_no, table_no, table_of, row_no, row}
use Rattle.convention.specs.Offsets.{least_offset}
use Rattle.convention.specs.Lists.{fault_from, stop_from, state_from, places_from, records_of, unknown_at, placing, placing_memory}
use Rattle.convention.specs.Rules.{free_run, mark_runs, skipped_before, rules_place, rules_after, place_by_rules, rules_memory}
use Rattle.convention.specs.Walked.{table_fault, table_after, place_by_table, table_memory}
use Rattle.convention.specs.Judged.{each_kind, lists_of, lists_up_to, first_fault, verdict_by_trying}
use Rattle.cases.specs.Readings.{as_defined, skipped_gone, forgets_p, each_alone, stops_at_n, alignment_first, large_enough, length_of_all}
use Rattle.cases.specs.Cases.{Given, by_rules_in, by_table_in, judge, ask_row, comes_of, defined, ours, Case, cases, same_bytes, failing}
use Rattle.cases.specs.Settled.{settled}
use Rattle.cases.specs.Requested.{requested}

pub cases_hold : map (λ (c : Case). comes_of ours c.given) cases ≡ map (λ (c : Case). c.says) cases
unfolding comes_of version_of head_of head_no opening_no shape_length state_length shape_no shape_of shape_bytes state_field state_bytes right_count stack_bytes starts_no sheet_kind_no sheet_kind_of sheet_kinds_no sheet_kinds_of sheet_kinds_length sheet_no sheet_of table_kinds_no table_kinds_of transition_no transitions_no table_no table_of row_no row least_offset fault_from stop_from state_from places_from records_of unknown_at placing placing_memory free_run mark_runs skipped_before rules_place rules_after table_fault table_after each_kind lists_of lists_up_to first_fault
cases_hold = refl

pub settled_hold : map (λ (c : Case). comes_of ours c.given) (settled ++ requested) ≡ map (λ (c : Case). c.says) (settled ++ requested)
unfolding comes_of version_of head_of head_no opening_no shape_length state_length shape_no shape_of shape_bytes state_field state_bytes right_count stack_bytes starts_no sheet_kind_no sheet_kind_of sheet_kinds_no sheet_kinds_of sheet_kinds_length sheet_no sheet_of table_kinds_no table_kinds_of transition_no transitions_no table_no table_of row_no row least_offset fault_from stop_from state_from places_from records_of unknown_at placing placing_memory free_run mark_runs skipped_before rules_place rules_after table_fault table_after each_kind lists_of lists_up_to first_fault
settled_hold = refl

-- Misreadings that 01 names, and two others: by which of P1 to P12 each is caught. 01's own register count, which 02 replaces, is caught by none of them, and by the cases of W-202
-- with too many registers.
pub misread_caught :
    (failing skipped_gone 1 cases ≡ 4 ∷ []) × (failing forgets_p 1 cases ≡ 2 ∷ 3 ∷ 4 ∷ 5 ∷ []) × (failing each_alone 1 cases ≡ 8 ∷ []) × (failing stops_at_n 1 cases ≡ 8 ∷ [])
    × (failing alignment_first 1 cases ≡ 12 ∷ []) × (failing length_of_all 1 cases ≡ 1 ∷ 2 ∷ 3 ∷ 4 ∷ 5 ∷ 6 ∷ 7 ∷ [])
    × (failing large_enough 1 cases ≡ []) × (failing large_enough 1 requested ≡ 2 ∷ 4 ∷ 9 ∷ [])
unfolding failing same_bytes comes_of version_of head_of head_no opening_no shape_length state_length shape_no shape_of shape_bytes state_field state_bytes right_count stack_bytes starts_no sheet_kind_no sheet_kind_of sheet_kinds_no sheet_kinds_of sheet_kinds_length sheet_no sheet_of table_kinds_no table_kinds_of transition_no transitions_no table_no table_of row_no row least_offset fault_from stop_from state_from places_from records_of unknown_at placing placing_memory free_run mark_runs skipped_before rules_place rules_after table_fault table_after each_kind lists_of lists_up_to first_fault
misread_caught = (refl, refl, refl, refl, refl, refl, refl, refl)

-- The cases speak of the definitions that the public calls' contracts cite.
pub as_defined_lem : (g : Given) → comes_of as_defined g ≡ defined g
unfolding comes_of place_by_rules rules_memory place_by_table table_memory verdict_by_trying
as_defined_lem (by_rules_in s ks lent) = refl
as_defined_lem (by_table_in t ks lent) = refl
as_defined_lem (judge t) = refl
as_defined_lem (ask_row t state) = refl
