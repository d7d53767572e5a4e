-- Why the boundary's fields hold what they say: counts fit, and an answer that is known says what its case says.
use Prim.Native.Nat.{ℕ, zero, suc, ◌+◌, ◌*◌, ◌≤◌, ◌<◌, ◌^◌}
use mathlib.Core.Path.{◌≡◌, refl, sym, ap, ◌∙◌}
use mathlib.Core.Bool.{Bool, true, false}
use mathlib.Core.List.{List}
use native.Mathlib.Omega.{arith}
use lib.Dec.{ltb, leb}
use lib.ListN.{length}
use borrow.Author.Tests.{leb-true, ltb-true}
use Rattle.std.specs.Prelude.{Ok, Err}
use Rattle.convention.specs.Answers.{BuildingAnswer}
use Rattle.convention.specs.Answers.{JudgingAnswer}
use Rattle.convention.specs.Answers.{Clean, Fault}
use Rattle.convention.specs.Answers.{PlacingAnswer}
use Rattle.convention.specs.Numbers.{state_limit, argument_limit, or_else, unless, refusal, placing_says, building_says, judging_says}
use Rattle.convention.specs.Layout.{starts_at, row_at}
use Rattle.convention.specs.Fields.{version_of, head_of}
use Rattle.convention.specs.Tables.{table_no, table_of, states_of, table_kind, read_table, row_no, row}
use Rattle.convention.specs.declared.Refusal.{Refusal}
use Rattle.convention.specs.declared.Sheet.{Sheet}
use Rattle.convention.specs.declared.Table.{Table}
use Rattle.convention.specs.Results.{refusal_number, sheet_answer, table_answer}
use Rattle.convention.specs.Lists.{Steps, record_length, unknown_at, fault_from, stop_from, state_from, placing, placed_or_refused, walk_answer}
use Rattle.convention.specs.Sheets.{sheet_kind_at, sheet_no, sheet_of, read_sheet, sheet_kind}
use Rattle.convention.specs.Rules.{by_rules, place_by_rules}
use Rattle.convention.specs.Walked.{by_table, place_by_table}
use Rattle.convention.specs.Built.{built_states, built_table, build_no, built_or_refused, build, many_states_no}
use Rattle.convention.specs.Judged.{Judges}
use Rattle.convention.proofs.Lists.{stop_le}
use Rattle.convention.proofs.Numbers.{or_zero, unless_zero}
use Rattle.convention.proofs.Results.{refusal_some, refused}
use Rattle.convention.proofs.Positions.{table_most, length_said}
use Rattle.convention.proofs.Tables.{table_read, table_right, table_is, table_refused, row_refused, row_tests, row_part, row_start_lem, row_length_lem, row_some}
use Rattle.convention.proofs.Sheets.{sheet_read, sheet_right, sheet_is, sheet_refused, first_start_fits}
use Rattle.sheet.specs.Kinds.{KindThere}
use Rattle.building.proofs.Bytes.{built_most_lem}
use Rattle.judging.proofs.Unique.{judge_zero, unique}
use Rattle.teaselram.specs.declared.Answer.{Answer}
use Rattle.teaselram.specs.declared.KindAnswer.{KindAnswer}
use Rattle.teaselram.specs.Says.{answer_of, asked_no, kind_refusal, kind_given, sheet_kind_fields, table_kind_fields, sheet_kind_says, table_kind_says, row_says, JudgeSays}

-- A call places at most as many arguments as the limit, so its count is no larger.
pub count_most : (limit number m : ℕ) (M : Steps) (ks : List ℕ) (room : ℕ) → (placing_says (placing limit number m M ks room)).count ≤ limit
unfolding placing
count_most limit number m M ks room = go (or_else number (or_else few roomy)) refl
  where
    few : ℕ
    few = unless (leb (length ks) limit) 8

    roomy : ℕ
    roomy = unless (leb (record_length * length ks) room) 12

    walked : (fault : ℕ) → (placing_says (walk_answer fault (stop_from M M.begin ks) (length ks) (M.p (state_from M M.begin ks)))).count ≤ length ks
    walked zero = omega arith
    walked (suc fault) = stop_le M M.begin ks

    known : (b : Bool) → ltb (unknown_at m ks) (length ks) ≡ b → (placing_says (placed_or_refused 0 m M ks)).count ≤ length ks
    known true e = rw e (omega (arith, ltb-true (unknown_at m ks) (length ks) e))
    known false e = rw e (walked (fault_from M M.begin ks))

    go : (n : ℕ) → or_else number (or_else few roomy) ≡ n → (placing_says (placed_or_refused n m M ks)).count ≤ limit
    go zero e =
        let short = leb-true (length ks) limit (unless_zero (leb (length ks) limit) 8 (omega arith) (or_zero few roomy (or_zero number _ e).1).0) in
        omega (arith, short, known (ltb (unknown_at m ks) (length ks)) refl)
    go (suc n) e = omega arith

-- The count of placing by the rules fits, and that of placing by a table.
pub rules_count : (s ks : List ℕ) (room : ℕ) (answer : PlacingAnswer) → answer ≡ place_by_rules argument_limit s ks room → (placing_says answer).count < 2 ^ 16
unfolding place_by_rules
rules_count s ks room answer e =
    rw e (omega (arith, count_most argument_limit (sheet_no s) (sheet_of s).head.kinds (by_rules (sheet_of s)) ks room))

pub table_count : (t ks : List ℕ) (room : ℕ) (answer : PlacingAnswer) → answer ≡ place_by_table state_limit argument_limit t ks room → (placing_says answer).count < 2 ^ 16
unfolding place_by_table
table_count t ks room answer e =
    rw e (omega (arith, count_most argument_limit (table_no state_limit t) (table_of t).head.kinds (by_table (table_of t) t) ks room))

-- The row's part: where it is empty, it was refused, since a row never is; where it is not, it was given, and its start and length fit.
module _ (t : List ℕ) (state : ℕ) (part : List ℕ) (ep : part ≡ row state_limit t state) where
  pub row_empty : (number : ℕ) (answer : Answer) → length part ≡ 0 → number ≡ row_no state_limit t state → answer ≡ answer_of (refusal number)
      → answer ≡ answer_of (row_says state_limit t state)
  unfolding row_says
  row_empty number answer none en ea =
      let nothing : length (row state_limit t state) ≡ 0 = rw (← ep) none in
      let refused = row_refused state_limit t state (λ z. omega (arith, row_some state_limit t state z)) in
      rw (ea, en, refused.0, refused.1)

  module _ (some : length part ≡ 0 → ⊥) where
    given : row_no state_limit t state ≡ 0
    given = go (row_no state_limit t state) refl
      where
        go : (n : ℕ) → row_no state_limit t state ≡ n → row_no state_limit t state ≡ 0
        go zero e = e
        go (suc n) e = absurd (some (rw (ep, (row_refused state_limit t state (λ z. omega arith)).0)))

    -- The state is one of the table's, and the row ends within it.
    pub state_few : state < state_limit
    unfolding table_of
    state_few = let tests = row_tests state_limit t state given in omega (arith, tests.1, (table_read state_limit t tests.0).states)

    row_ends : row_at (version_of t) (head_of t) state + length part < 65536
    unfolding table_of
    row_ends =
        let promised = table_read state_limit t (row_tests state_limit t state given).0 in
        let most = table_most (version_of t) (head_of t) (states_of t) state_limit promised.head.kinds promised.states in
        rw (ep, row_length_lem state_limit t state given)
        (omega (arith, row_part state_limit t state given, promised.whole, most, length_said (version_of t)))

    pub part_short : length part < 65536
    part_short = omega (arith, row_ends)

    pub start_fits : row_at (version_of t) (head_of t) state < 65536
    start_fits = omega (arith, row_ends)

    pub row_given_lem : (start : ℕ) → start ≡ row_at (version_of t) (head_of t) state
        → ◌≡◌ {A = Answer} (record { number = 0; fault = 0; count = length part; value = start }) (answer_of (row_says state_limit t state))
    unfolding row_says
    row_given_lem start es = rw (given, row_start_lem state_limit t state given, es, ep)

-- Asking for a kind of a file: where there is a number it is said alone.
kind_refused : (n number : ℕ) (answer fields : KindAnswer) → number ≡ n → 0 < number → answer ≡ kind_refusal number → answer ≡ kind_given n fields
kind_refused zero number answer fields e some ea = absurd (omega arith)
kind_refused (suc n) number answer fields e some ea = rw (← e) ea

-- A file that was not read gives the reader's number, and one without the kind 9; one that was read and has it gives none.
module _ (n m k : ℕ) where
  kind_unread : (refusal : Refusal) → refusal_number refusal ≡ n → refusal_number refusal ≡ asked_no n m k
  kind_unread refusal e = refused refusal n _ e

  module _ (z : n ≡ 0) (has : Bool) (eh : has ≡ ltb k m) where
    kind_missing : has ≡ false → 9 ≡ asked_no n m k
    kind_missing lacks = rw (z, ← eh, lacks)

    kind_there : has ≡ true → asked_no n m k ≡ 0
    kind_there holds = rw (z, ← eh, holds)

    kind_known : has ≡ true → k < m
    kind_known holds = ltb-true k m (sym eh ∙ holds)

module _ (s : List ℕ) (k : ℕ) where
  pub sheet_kind_unread : (refusal : Refusal) (answer : KindAnswer) → sheet_answer (Err refusal) ≡ read_sheet s → answer ≡ kind_refusal (refusal_number refusal)
      → answer ≡ sheet_kind_says s k
  unfolding sheet_kind_says
  sheet_kind_unread refusal answer e ea =
      kind_refused (asked_no (sheet_no s) (head_of s).kinds k) (refusal_number refusal) answer _
      (kind_unread (sheet_no s) (head_of s).kinds k refusal (sym (sheet_refused s _ e _ refl))) (refusal_some refusal) ea

  module _ (sheet : Sheet) (e : sheet_answer (Ok sheet) ≡ read_sheet s) (has : Bool) (eh : has ≡ ltb k sheet.head.kinds) where
    sheet_right_lem : sheet_no s ≡ 0
    sheet_right_lem = sheet_right s _ e refl

    is : sheet ≡ sheet_of s
    is = sheet_is s _ e refl

    sheet_has : has ≡ ltb k (head_of s).kinds
    unfolding sheet_of
    sheet_has = rw is at eh

    sheet_version : sheet.version ≡ version_of s
    unfolding sheet_of
    sheet_version = ap (λ (sheet : Sheet). sheet.version) is

    pub sheet_kind_missing : (answer : KindAnswer) → has ≡ false → answer ≡ kind_refusal 9 → answer ≡ sheet_kind_says s k
    unfolding sheet_kind_says
    sheet_kind_missing answer lacks ea =
        kind_refused (asked_no (sheet_no s) (head_of s).kinds k) 9 answer _ (kind_missing (sheet_no s) (head_of s).kinds k sheet_right_lem has sheet_has lacks) (omega arith) ea

    module _ (holds : has ≡ true) where
      sheet_known : k < (head_of s).kinds
      sheet_known = kind_known (sheet_no s) (head_of s).kinds k sheet_right_lem has sheet_has holds

      pub sheet_kind_there : KindThere sheet.version s k
      sheet_kind_there = record { read = sheet_right_lem; version = sheet_version; known = sheet_known }

      pub sheet_kind_below : k < 8
      unfolding sheet_of
      sheet_kind_below = omega (arith, (sheet_read s sheet_right_lem).head.kinds, sheet_known)

      module _ (at starts : ℕ) (ea : at ≡ sheet_kind_at sheet.version s k) (es : starts ≡ starts_at sheet.version) where
        pub first_start_below : at + starts < 65536
        first_start_below = rw (ea, es, sheet_version) (first_start_fits s sheet_right_lem k sheet_known)

        pub sheet_kind_given : (answer : KindAnswer) → answer ≡ sheet_kind_fields (sheet_kind sheet k) (at + starts) → answer ≡ sheet_kind_says s k
        unfolding sheet_kind_says
        sheet_kind_given answer ef = rw (kind_there (sheet_no s) (head_of s).kinds k sheet_right_lem has sheet_has holds, ef, ea, es, sheet_version, ← is)

module _ (t : List ℕ) (k : ℕ) where
  pub table_kind_unread : (refusal : Refusal) (answer : KindAnswer) → table_answer (Err refusal) ≡ read_table state_limit t → answer ≡ kind_refusal (refusal_number refusal)
      → answer ≡ table_kind_says state_limit t k
  unfolding table_kind_says
  table_kind_unread refusal answer e ea =
      kind_refused (asked_no (table_no state_limit t) (head_of t).kinds k) (refusal_number refusal) answer _
      (kind_unread (table_no state_limit t) (head_of t).kinds k refusal (sym (table_refused state_limit t _ e _ refl))) (refusal_some refusal) ea

  module _ (table : Table) (e : table_answer (Ok table) ≡ read_table state_limit t) (has : Bool) (eh : has ≡ ltb k table.head.kinds) where
    table_right_lem : table_no state_limit t ≡ 0
    table_right_lem = table_right state_limit t _ e refl

    is_table : table ≡ table_of t
    is_table = table_is state_limit t _ e refl

    table_has : has ≡ ltb k (head_of t).kinds
    unfolding table_of
    table_has = rw is_table at eh

    pub table_kind_missing : (answer : KindAnswer) → has ≡ false → answer ≡ kind_refusal 9 → answer ≡ table_kind_says state_limit t k
    unfolding table_kind_says
    table_kind_missing answer lacks ea =
        kind_refused (asked_no (table_no state_limit t) (head_of t).kinds k) 9 answer _ (kind_missing (table_no state_limit t) (head_of t).kinds k table_right_lem has table_has lacks)
        (omega arith) ea

    module _ (holds : has ≡ true) where
      pub table_kind_below : k < 8
      unfolding table_of
      table_kind_below =
          omega (arith, (table_read state_limit t table_right_lem).head.kinds, kind_known (table_no state_limit t) (head_of t).kinds k table_right_lem has table_has holds)

      pub table_kind_given : (answer : KindAnswer) → answer ≡ table_kind_fields (table_kind table k) → answer ≡ table_kind_says state_limit t k
      unfolding table_kind_says
      table_kind_given answer ef = rw (kind_there (table_no state_limit t) (head_of t).kinds k table_right_lem has table_has holds, ef, ← is_table)

-- The length of a table that is built fits.
pub length_fits : (s : List ℕ) (room : ℕ) (building : BuildingAnswer) → building ≡ build state_limit s room → (building_says building).value < 2 ^ 32
unfolding build build_no
length_fits s room building e = rw e (omega (arith, most (build_no state_limit s room) refl))
  where
    most : (n : ℕ) → build_no state_limit s room ≡ n
        → (building_says (built_or_refused n (length (built_states state_limit (sheet_of s))) (length (built_table state_limit (sheet_of s))))).value < 65536
    most zero z =
        let both = or_zero (sheet_no s) _ z in
        omega (
          arith,
          built_most_lem state_limit s both.0 (or_zero (many_states_no state_limit (sheet_of s)) _ both.1).0,
          length_said 1,
        )
    most (suc n) z = omega arith

-- A verdict's list has at most 2N kinds.
pub verdict_fits : (t before : List ℕ) (verdict : JudgingAnswer) (after : List ℕ) → Judges state_limit t before verdict after → (judging_says verdict).count < 2 ^ 16
unfolding Judges
verdict_fits t before Clean after means = omega arith
verdict_fits t before (Fault fault n) after means =
    let promised = table_read state_limit t (judge_zero state_limit t (length before) means.0).0 in
    omega (arith, means.1, promised.states)
verdict_fits t before (JudgingAnswer.Refused number) after means = omega arith

-- Two answers of the judge's call are equal, and so is the memory.
pub judge_unique : (limit : ℕ) (t before : List ℕ) (a b : Answer) (after after' : List ℕ)
    → JudgeSays limit t before a after → JudgeSays limit t before b after' → (a ≡ b) × (after ≡ after')
judge_unique limit t before a b after after' x y =
    let same = unique limit t before x.verdict y.verdict after after' x.means y.means in
    (x.says ∙ (rw same.0 (sym y.says)), same.1)
