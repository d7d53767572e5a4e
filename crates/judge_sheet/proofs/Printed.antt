-- What the program prints is determined: two texts that `Prints` allows for an input are the same, what is not read of an input makes no difference, and
-- a built table is always judged.
use Prim.Native.Nat.{ℕ, ◌+◌, ◌≤◌}
use mathlib.Core.Path.{◌≡◌, refl, sym, ◌∙◌}
use mathlib.Core.List.{List}
use native.Mathlib.Decide.{dec_lt}
use native.Mathlib.Omega.{arith}
use lib.ListN.{length, take}
use lib.Seq.{length-take-le, take_all}
use borrow.Author.Tests.{le-leb}
use Rattle.convention.specs.Answers.{BuildingAnswer}
use Rattle.convention.specs.Answers.{Built}
use Rattle.convention.specs.Answers.{JudgingAnswer}
use Rattle.convention.specs.Answers.{Clean, Fault}
use Rattle.convention.specs.Numbers.{state_limit, or_else, judging_says}
use Rattle.convention.specs.Sheets.{sheet_of}
use Rattle.convention.specs.Tables.{table_no}
use Rattle.convention.specs.Built.{built_table}
use Rattle.convention.specs.Judged.{CleanTable, judge_room, judge_no, Judges}
use Rattle.convention.specs.Program.{input_limit, refused_line, line, Prints}
use Rattle.convention.proofs.Positions.{length_said}
use Rattle.building.proofs.Bytes.{built_readable}
use Rattle.judging.proofs.Unique.{first_unique}
use Rattle.judge_sheet.proofs.Answers.{long_prints}

-- With room enough, judging a table has the reader's number.
module _ (t : List ℕ) where
  table_number : (room : ℕ) → judge_room t ≤ room → judge_no state_limit t room ≡ or_else (table_no state_limit t) 0
  unfolding judge_no
  table_number room h = rw (le-leb _ _ h)

  -- So two verdicts are the same, with their lists, whatever memory they were found in.
  module _ (before before' after after' : List ℕ) (room : judge_room t ≤ length before) (room' : judge_room t ≤ length before') where
    same_number : judge_no state_limit t (length before) ≡ judge_no state_limit t (length before')
    same_number = table_number (length before) room ∙ sym (table_number (length before') room')

    same_verdict : (a b : JudgingAnswer) → Judges state_limit t before a after → Judges state_limit t before' b after'
        → (a ≡ b) × (take (judging_says a).count after ≡ take (judging_says b).count after')
    unfolding Judges CleanTable
    same_verdict Clean Clean x y = (refl, refl)
    same_verdict Clean (Fault f n) x y = absurd (x.1 _ y.2.faulty)
    same_verdict Clean (JudgingAnswer.Refused n) x y = absurd (omega (arith, same_number))
    same_verdict (Fault f n) Clean x y = absurd (y.1 _ x.2.faulty)
    same_verdict (Fault f n) (Fault f' n') x y =
        let list = first_unique t f f' (take n after) (take n' after') x.2 y.2 in
        let count : n ≡ n' = cc (list, length-take-le n after (omega arith), length-take-le n' after' (omega arith)) in
        (cc (x.2.says, y.2.says), list)
    same_verdict (Fault f n) (JudgingAnswer.Refused n') x y = absurd (omega (arith, same_number))
    same_verdict (JudgingAnswer.Refused n) Clean x y = absurd (omega (arith, same_number))
    same_verdict (JudgingAnswer.Refused n) (Fault f' n') x y = absurd (omega (arith, same_number))
    same_verdict (JudgingAnswer.Refused n) (JudgingAnswer.Refused n') x y = (cc same_number, refl)

-- One text for an input.
module _ (input a b : List ℕ) (p : Prints input a) (q : Prints input b) where
  same_building : p.building ≡ q.building
  same_building =
      elim (dec_lt input_limit (length input)) [
        | yes h ↦ p.long h ∙ sym (q.long h)
        | no h ↦ p.builds (omega arith) ∙ sym (q.builds (omega arith))
      ]

  same_line : (building : BuildingAnswer) → p.building ≡ building → q.building ≡ building
      → line p.building (sheet_of input).head.kinds p.verdict (take (judging_says p.verdict).count p.after)
      ≡ line q.building (sheet_of input).head.kinds q.verdict (take (judging_says q.verdict).count q.after)
  unfolding line
  same_line (Built n len) e f =
      let same = same_verdict _ _ _ _ _ (p.room n len e) (q.room n len f) _ _ (p.judges n len e) (q.judges n len f) in
      rw (e, f, same.1, same.0)
  same_line (BuildingAnswer.Refused number) e f = rw (e, f)

  pub one_text : a ≡ b
  one_text = p.prints ∙ same_line q.building same_building refl ∙ sym q.prints

-- 'read no further': the first 1,025 bytes of an input are enough.
pub read_enough : (input text : List ℕ) → Prints (take (input_limit + 1) input) text → Prints input text
unfolding line
read_enough input text p =
    elim (dec_lt input_limit (length input)) [
      | yes h ↦
          let refused = p.long (omega (arith, length-take-le (input_limit + 1) input (omega arith))) in
          let is : text ≡ refused_line 1 = p.prints ∙ rw refused in
          rw is (long_prints input h)
      | no h ↦ rw (take_all (input_limit + 1) input (omega arith)) at p
    ]

-- A table that was built is judged: the line never lacks a verdict.
pub always_judged : (input text : List ℕ) (p : Prints input text) (n len number : ℕ) → p.building ≡ Built n len
    → p.verdict ≡ JudgingAnswer.Refused number → ⊥
unfolding Judges
always_judged input text p n len number e v =
    elim (dec_lt input_limit (length input)) [
      | yes h ↦ let z : ◌≡◌ {A = ℕ} 0 1 = cc (p.long h) in omega arith
      | no h ↦
          let t = built_table state_limit (sheet_of input) in
          let right = built_readable state_limit input (length t) n len (sym (p.builds (omega arith)) ∙ e) length_said in
          let found : Judges state_limit t p.before (JudgingAnswer.Refused number) p.after = rw v at (p.judges n len e) in
          omega (arith, rw right at (table_number t (length p.before) (p.room n len e)), found.0, found.1)
    ]
