-- 01's lines of the program. S's table is clean since every kind of S may use the stack; the other table's verdict is found by trying.
use Prim.Native.Nat.{ℕ, zero, suc, ◌≤◌, ◌<◌}
use mathlib.Core.Path.{◌≡◌, refl, sym}
use mathlib.Core.Bool.{true}
use mathlib.Core.List.{List, [], ◌∷◌}
use native.Mathlib.Omega.{arith}
use lib.ListN.{length, take, replicate}
use Rattle.convention.specs.Answers.{BuildingAnswer}
use Rattle.convention.specs.Answers.{Built}
use Rattle.convention.specs.Answers.{JudgingAnswer}
use Rattle.convention.specs.Answers.{Clean}
use Rattle.convention.specs.Numbers.{state_limit, judging_says}
use Rattle.convention.specs.Bytes.{blocks}
use Rattle.convention.specs.Layout.{shape_length, state_length}
use Rattle.convention.specs.Fields.{version_of, head_of, head_no, opening_no, shape_no, shape_of, shape_bytes, state_field, state_bytes}
use Rattle.convention.specs.Shapes.{right_count, stack_bytes}
use Rattle.convention.specs.Sheets.{starts_no, sheet_kind_no, sheet_kind_of, sheet_kinds_no, sheet_kinds_of, sheet_kinds_length, sheet_no, sheet_of, may_use_stack, sheet_kind}
use Rattle.convention.specs.Tables.{table_kinds_of, table_of}
use Rattle.convention.specs.Offsets.{least_offset}
use Rattle.convention.specs.Lists.{fault_from}
use Rattle.convention.specs.Rules.{free_run, mark_runs, skipped_before, rules_place, rules_after}
use Rattle.convention.specs.Walked.{table_fault, table_after}
use Rattle.convention.specs.Explored.{number, meet, met_from, through, met}
use Rattle.convention.specs.Built.{same_flags, built_version, built_cell, built_row, built_body, table_of_states, built_table, build_no, build}
use Rattle.convention.specs.Judged.{each_kind, lists_of, lists_up_to, first_fault, verdict_by_trying, CleanTable, judge_room, judge_no, Judges}
use Rattle.convention.specs.Program.{input_limit, digits_in, decimal, kind_fields, refused_line, verdict_fields, line, Prints}
use Rattle.convention.proofs.Sheets.{sheet_read}
use Rattle.convention.proofs.Positions.{length_said}
use Rattle.building.proofs.Bytes.{built_sheet, built_readable}
use Rattle.building.proofs.Clean.{clean_if_stack}
use Rattle.judging.proofs.Unique.{judge_passes}
use Rattle.judging.proofs.Trying.{trying_judges}
use Rattle.cases.specs.Cases.{simple, stackless_double}
use Rattle.cases.specs.Examples.{length_of_table, clean_line, fault_line, refused_one}

-- The line of a sheet that was built, and of a verdict that its table may have.
module _ (s : List ℕ) (few : length s ≤ input_limit) (n len : ℕ) (built : build state_limit s (length (built_table state_limit (sheet_of s))) ≡ Built n len) where
  abbrev table : List ℕ
  table = built_table state_limit (sheet_of s)

  -- With room for 2N kinds judging refuses nothing.
  judged : (out : List ℕ) → judge_room table ≤ length out → judge_no state_limit table (length out) ≡ 0
  judged out room = judge_passes state_limit table (length out) (built_readable state_limit s _ n len built length_said) room

  prints : (verdict : JudgingAnswer) (before after : List ℕ) → judge_room table ≤ length before → Judges state_limit table before verdict after
      → Prints s (line (Built n len) (sheet_of s).head.kinds verdict (take (judging_says verdict).count after))
  prints verdict before after room judges = record {
    building = Built n len;
    verdict = verdict;
    before = before;
    after = after;
    long = λ h. absurd (omega arith);
    builds = λ _. sym built;
    room = λ _ _ _. room;
    judges = λ _ _ _. judges;
    prints = refl;
  }

-- The tables of S and of S with flag 0 on double are built, and judging them needs no more room than this.
abbrev room : List ℕ
room = replicate 24 0

record Builds (s : List ℕ) : Type 0 where
  built : build state_limit s (length (built_table state_limit (sheet_of s))) ≡ Built 12 length_of_table
  roomy : judge_room (built_table state_limit (sheet_of s)) ≤ length room

both_built : Builds simple × Builds stackless_double
unfolding table_of version_of head_of head_no opening_no shape_length state_length shape_no shape_of shape_bytes state_field state_bytes right_count stack_bytes starts_no sheet_kind_no sheet_kind_of sheet_kinds_no sheet_kinds_of sheet_kinds_length sheet_no sheet_of least_offset free_run mark_runs skipped_before rules_place rules_after blocks number meet met_from through met same_flags built_version built_cell built_row built_body table_of_states build_no build
both_built = (record { built = refl; roomy = omega arith }, record { built = refl; roomy = omega arith })

-- Every kind of S may use the stack, so its table is clean.
simple_stack : (k : ℕ) → k < (sheet_of simple).head.kinds → may_use_stack (sheet_kind (sheet_of simple) k) ≡ true
unfolding version_of head_of shape_length shape_of sheet_kind_of sheet_kinds_of sheet_of
simple_stack zero h = refl
simple_stack (suc zero) h = refl
simple_stack (suc (suc zero)) h = refl
simple_stack (suc (suc (suc k))) h = absurd (omega arith)

simple_clean : CleanTable (built_table state_limit (sheet_of simple))
simple_clean =
    let (read, whole) = built_sheet state_limit simple _ 12 length_of_table both_built.0.built in
    clean_if_stack state_limit (sheet_of simple) (sheet_read simple read) whole simple_stack

pub simple_prints : Prints simple clean_line
unfolding Judges digits_in decimal verdict_fields line version_of head_of sheet_of
simple_prints =
    let built = both_built.0.built in
    let roomy = both_built.0.roomy in
    prints simple (omega arith) 12 length_of_table built Clean room room roomy (judged simple (omega arith) 12 length_of_table built room roomy, simple_clean, refl)

-- The other table's verdict is the first that is found by trying.
pub stackless_prints : Prints stackless_double fault_line
unfolding table_kinds_of table_of fault_from table_fault table_after each_kind lists_of lists_up_to first_fault verdict_by_trying digits_in decimal kind_fields verdict_fields line version_of head_of head_no opening_no shape_length state_length shape_no shape_of shape_bytes state_field state_bytes right_count stack_bytes starts_no sheet_kind_no sheet_kind_of sheet_kinds_no sheet_kinds_of sheet_kinds_length sheet_no sheet_of least_offset free_run mark_runs skipped_before rules_place rules_after blocks number meet met_from through met same_flags built_version built_cell built_row built_body table_of_states build_no build
stackless_prints =
    let built = both_built.1.built in
    let roomy = both_built.1.roomy in
    prints stackless_double (omega arith) 12 length_of_table built _ room _ roomy
    (trying_judges state_limit (built_table state_limit (sheet_of stackless_double)) room (judged stackless_double (omega arith) 12 length_of_table built room roomy))

-- `00` is refused, and there is nothing to judge.
pub refused_prints : Prints (0x00 ∷ []) refused_one
unfolding opening_no sheet_no build_no build digits_in decimal refused_line line
refused_prints =
    let none : (n len : ℕ) → BuildingAnswer.Refused 1 ≡ Built n len → ⊥ = λ n len e. let z : ◌≡◌ {A = ℕ} 0 1 = cc in omega arith in
    record {
      building = BuildingAnswer.Refused 1;
      verdict = Clean;
      before = [];
      after = [];
      long = λ h. absurd (omega arith);
      builds = λ _. refl;
      room = λ n len e. absurd (none n len e);
      judges = λ n len e. absurd (none n len e);
      prints = refl;
    }
