-- The other examples: what the definitions of crates/convention give is what document 01 says, or what follows from its words. By computation.
use mathlib.Core.Path.{◌≡◌, refl}
use mathlib.Core.List.{[], ◌∷◌, map}
use Rattle.convention.specs.Numbers.{state_limit}
use Rattle.convention.specs.Bytes.{blocks}
use Rattle.convention.specs.Layout.{shape_length, state_length}
use Rattle.convention.specs.Fields.{version_of, head_of, head_no, opening_no, shape_no, shape_of, shape_bytes, state_field, state_bytes}
use Rattle.convention.specs.Shapes.{right_count, stack_bytes}
use Rattle.convention.specs.Sheets.{starts_no, sheet_kind_no, sheet_kind_of, sheet_kinds_no, sheet_kinds_of, sheet_kinds_length, sheet_no, sheet_of}
use Rattle.convention.specs.Offsets.{least_offset}
use Rattle.convention.specs.Rules.{free_run, mark_runs, skipped_before, rules_place, rules_after}
use Rattle.convention.specs.Explored.{number, meet, met_from, through, met}
use Rattle.convention.specs.Built.{same_flags, built_version, built_cell, built_row, built_body, table_of_states, build_no, build}
use Rattle.cases.specs.Readings.{along_kind, kind_by_kind, in_rounds, kinds_then_states}
use Rattle.cases.specs.Cases.{simple}
use Rattle.cases.specs.Examples.{BuildCase, build_cases, length_of_table, full, last_states, numbering, states_from, OffsetCase, offset_cases}

pub builds_hold : map (λ (c : BuildCase). build state_limit c.sheet length_of_table) build_cases ≡ map (λ (c : BuildCase). c.gives) build_cases
unfolding version_of head_of head_no opening_no shape_length state_length shape_no shape_of shape_bytes state_field state_bytes right_count stack_bytes starts_no sheet_kind_no sheet_kind_of sheet_kinds_no sheet_kinds_of sheet_kinds_length sheet_no sheet_of least_offset free_run mark_runs skipped_before rules_place rules_after blocks number meet met_from through met same_flags built_version built_cell built_row built_body table_of_states build_no build
builds_hold = refl

pub states_hold : states_from numbering 4 simple ≡ last_states
unfolding version_of head_of shape_length shape_of stack_bytes sheet_kind_of sheet_kinds_of sheet_of least_offset free_run mark_runs skipped_before rules_place rules_after number meet met_from through met same_flags
states_hold = refl

-- Numbering by kinds before states, which the example tells apart.
pub kinds_first_caught : states_from kinds_then_states 4 simple ≡ map full (0 ∷ 1 ∷ 2 ∷ 3 ∷ 4 ∷ 5 ∷ 6 ∷ 7 ∷ [])
unfolding along_kind kind_by_kind in_rounds version_of head_of shape_length shape_of stack_bytes sheet_kind_of sheet_kinds_of sheet_of least_offset free_run mark_runs skipped_before rules_place rules_after number meet same_flags
kinds_first_caught = refl

pub offsets_hold :
    map (λ (c : OffsetCase). least_offset c.modulus c.residue c.p) offset_cases ≡ map (λ (c : OffsetCase). c.gives) offset_cases
unfolding least_offset
offsets_hold = refl
