-- What a verdict on a table that can be read says is small: the list has at most 2N kinds, each of one digit. So it is within the memory, and its line is
-- short. With room for 2N kinds there is a verdict.
use Prim.Native.Nat.{ℕ, ◌≤◌, ◌<◌}
use mathlib.Core.Path.{◌≡◌, refl}
use mathlib.Core.List.{List, []}
use native.Mathlib.Omega.{arith}
use lib.ListN.{length, take}
use Rattle.io.proofs.Counting.{length-take_of_le}
use Rattle.std.specs.Prelude.{Option, Some, None, Result, Ok, Err, IsOk}
use Rattle.convention.specs.declared.Refusal.{Refusal}
use Rattle.convention.specs.declared.FaultyList.{FaultyList as Found}
use Rattle.convention.specs.Results.{fault_number, judging_answer}
use Rattle.convention.specs.Answers.{Built}
use Rattle.convention.specs.Answers.{JudgingAnswer}
use Rattle.convention.specs.Answers.{Clean, Fault}
use Rattle.convention.specs.Numbers.{state_limit, judging_says}
use Rattle.convention.specs.Tables.{table_no, table_of}
use Rattle.convention.specs.Lists.{KindsBelow}
use Rattle.convention.specs.Judged.{FaultyList, judge_room, judge_no, Judges}
use Rattle.convention.specs.Program.{line}
use Rattle.convention.proofs.Lists.{below_at, at_below}
use Rattle.convention.proofs.Tables.{table_read}
use Rattle.judging.proofs.Unique.{judge_zero, judge_passes}
use Rattle.line.specs.Appended.{FieldRoom, Appended}
use Rattle.line.proofs.Lengths.{line_most_lem}
use Rattle.judge_sheet.specs.Texts.{list_room, TextIs, TableLineAsks, TableLine}
use Rattle.judge_sheet.proofs.Faults.{fault_most}
use Rattle.judge_sheet.proofs.Texts.{text_is}

-- What a verdict says, and the kinds of its list.
record Small (verdict : JudgingAnswer) (after : List ℕ) : Type 0 where
  fault : (judging_says verdict).fault ≤ 4
  few : (judging_says verdict).count ≤ list_room
  within : (judging_says verdict).count ≤ length after
  below : KindsBelow 10 (take (judging_says verdict).count after)

small : (t before : List ℕ) (verdict : JudgingAnswer) (after : List ℕ) → table_no state_limit t ≡ 0 → Judges state_limit t before verdict after → Small verdict after
unfolding Judges FaultyList KindsBelow
small t before Clean after e j = record { fault = omega arith; few = omega arith; within = omega arith; below = tt }
small t before (Fault fault n) after e j =
    let read = table_read state_limit t e in
    let ks = take n after in
    record {
      fault = rw j.2.says (fault_most (table_of t) t _ ks j.2.faulty.0);
      few = omega (arith, j.1, read.states);
      within = omega (arith, j.1, j.4, (judge_zero state_limit t (length before) j.0).1);
      below = at_below 10 ks λ i h. omega (arith, below_at _ ks j.2.faulty.0 i h, read.head.kinds);
    }
small t before (JudgingAnswer.Refused number) after e j = record { fault = omega arith; few = omega arith; within = omega arith; below = tt }

-- A table with its verdict: n kinds of the list are there, there is room for the line, and it is the table's where the judge had room.
module _ (states kinds : ℕ) (t out before : List ℕ) (verdict : JudgingAnswer) (after : List ℕ) (n : ℕ) (asks : TableLineAsks states kinds t out)
    (j : Judges state_limit t before verdict after) (e : n ≡ (judging_says verdict).count) where
  within : n ≤ length after
  within = rw e (small t before verdict after asks.readable j).within

  room_lem : FieldRoom out 0 (line (Built states 0) kinds verdict (take n after))
  room_lem =
      let s = small t before verdict after asks.readable j in
      let read = table_read state_limit t asks.readable in
      let rows : states ≤ state_limit = omega (arith, asks.rows, read.states) in
      let head : kinds < 10 = omega (arith, asks.head, read.head.kinds) in
      let few : length (take n after) ≤ list_room = omega (arith, s.few, length-take_of_le n after within) in
      let short = line_most_lem state_limit list_room states 0 kinds verdict (take n after) rows head (omega (arith, s.fault)) s.few (rw e s.below) few in
      record { fits = omega (arith, asks.room, short) }

  is_line : (end : ℕ) (out' : List ℕ) → length before ≡ list_room → Appended out 0 (line (Built states 0) kinds verdict (take n after)) end out'
      → TextIs (TableLine states kinds t) end out'
  unfolding line
  is_line end out' room done =
      text_is (TableLine states kinds t) done
      (record {
        verdict = verdict;
        before = before;
        after = after;
        room = omega (arith, room, (table_read state_limit t asks.readable).states);
        judges = j;
        prints = rw e;
      })

-- Where judging has no number, nothing is refused.
no_refusal : (t before after : List ℕ) (result : Result (Option Found) Refusal) → judge_no state_limit t (length before) ≡ 0
    → Judges state_limit t before (judging_answer result) after → IsOk result
unfolding Judges
no_refusal t before after (Ok x) e j = refl
no_refusal t before after (Err r) e j = absurd (omega (arith, j.0, j.1))

-- So a table that can be read is judged,
module _ (states kinds : ℕ) (t out before after : List ℕ) (asks : TableLineAsks states kinds t out) (room : length before ≡ list_room)
    (result : Result (Option Found) Refusal) (j : Judges state_limit t before (judging_answer result) after) where
  pub judged : IsOk result
  judged =
      let enough : judge_room t ≤ length before = omega (arith, room, (table_read state_limit t asks.readable).states) in
      no_refusal t before after result (judge_passes state_limit t (length before) asks.readable enough) j

  -- where it is clean there is room for the line, and that is the table's,
  module _ (is : result ≡ Ok None) where
    clean_is : Judges state_limit t before Clean after
    clean_is = rw is at j

    pub clean_room : FieldRoom out 0 (line (Built states 0) kinds Clean [])
    clean_room = room_lem states kinds t out before Clean after 0 asks clean_is refl

    pub clean_line : (end : ℕ) (out' : List ℕ) → Appended out 0 (line (Built states 0) kinds Clean []) end out' → TextIs (TableLine states kinds t) end out'
    clean_line end out' done = is_line states kinds t out before Clean after 0 asks clean_is refl end out' room done

  -- and where a list of it is faulty, that list is within the memory, there is room for the line, and that is the table's.
  module _ (found : Found) (is : result ≡ Ok (Some found)) where
    fault_is : Judges state_limit t before (Fault (fault_number found.fault) found.kinds) after
    fault_is = rw is at j

    pub list_within : found.kinds ≤ length after
    list_within = within states kinds t out before _ after found.kinds asks fault_is refl

    pub list_long : found.kinds ≡ length (take found.kinds after)
    list_long = length-take_of_le found.kinds after list_within

    module _ (fault : ℕ) (number : fault ≡ fault_number found.fault) where
      abbrev says : List ℕ
      says = line (Built states 0) kinds (Fault fault found.kinds) (take found.kinds after)

      pub fault_room : FieldRoom out 0 says
      fault_room = rw number (room_lem states kinds t out before _ after found.kinds asks fault_is refl)

      pub fault_line : (end : ℕ) (out' : List ℕ) → Appended out 0 says end out' → TextIs (TableLine states kinds t) end out'
      fault_line end out' done = is_line states kinds t out before _ after found.kinds asks fault_is refl end out' room (rw number at done)
