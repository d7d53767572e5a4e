-- Document 01, 'The program': the line that it prints.
use Rattle.std.specs.Prelude.{ℕ, zero, suc, ◌+◌, ◌/◌, ◌%◌, ◌≤◌, ◌<◌, ◌≡◌, true, false, List, [], ◌∷◌, ◌++◌, ltb, length, take}
use Rattle.convention.specs.Answers.{BuildingAnswer}
use Rattle.convention.specs.Answers.{Built}
use Rattle.convention.specs.Answers.{JudgingAnswer}
use Rattle.convention.specs.Answers.{Clean, Fault}
use Rattle.convention.specs.Numbers.{state_limit, judging_says}
use Rattle.convention.specs.Sheets.{sheet_of}
use Rattle.convention.specs.Built.{built_table, build}
use Rattle.convention.specs.Judged.{judge_room, Judges}

-- 'Input of more than 1,024 bytes is read no further and prints `refused 1`.'
abbrev pub input_limit : ℕ
input_limit = 1024

-- A number in decimal digits, by their ASCII codes; as many turns as the number are more than enough.
abbrev pub digit : ℕ → ℕ
digit n = 48 + n % 10

unfoldable pub digits_in : ℕ → ℕ → List ℕ
digits_in zero n = digit n ∷ []
digits_in (suc turns) n = elim (ltb n 10) [ true ↦ digit n ∷ [] | false ↦ digits_in turns (n / 10) ++ digit n ∷ [] ]

unfoldable pub decimal : ℕ → List ℕ
decimal n = digits_in n n

-- 'Fields have one space between them': a field after another.
abbrev pub further : List ℕ → List ℕ
further field = 32 ∷ field

-- The words `clean`, `fault` and `refused`, and the line feed.
abbrev pub clean_word : List ℕ
clean_word = 99 ∷ 108 ∷ 101 ∷ 97 ∷ 110 ∷ []

abbrev pub fault_word : List ℕ
fault_word = 102 ∷ 97 ∷ 117 ∷ 108 ∷ 116 ∷ []

abbrev pub refused_word : List ℕ
refused_word = 114 ∷ 101 ∷ 102 ∷ 117 ∷ 115 ∷ 101 ∷ 100 ∷ []

abbrev pub line_feed : List ℕ
line_feed = 10 ∷ []

-- The kinds of a list, each after a space.
unfoldable pub kind_fields : List ℕ → List ℕ
kind_fields [] = []
kind_fields (k ∷ ks) = further (decimal k) ++ kind_fields ks

-- 'A refusal prints `refused` and the number.'
unfoldable pub refused_line : ℕ → List ℕ
refused_line number = refused_word ++ (further (decimal number) ++ line_feed)

-- '`clean`, or `fault`, the fault number, the length and the kinds of the list'.
unfoldable pub verdict_fields : JudgingAnswer → List ℕ → List ℕ
verdict_fields Clean list = further clean_word
verdict_fields (Fault fault n) list = further fault_word ++ (further (decimal fault) ++ (further (decimal n) ++ kind_fields list))
verdict_fields (JudgingAnswer.Refused number) list = []

-- 'one line: states, kinds, then ..', from the answers of building and judging and the judge's list.
unfoldable pub line : BuildingAnswer → ℕ → JudgingAnswer → List ℕ → List ℕ
line (Built n len) m verdict list = decimal n ++ (further (decimal m) ++ (verdict_fields verdict list ++ line_feed))
line (BuildingAnswer.Refused number) m verdict list = refused_line number

-- 'It reads one sheet from standard input, builds its table, judges it and prints one line': the text that it prints for an input. Building and
-- judging have the room that they need: as many bytes as the table has, and in the judge's memory, which was `before` and is `after`, 2N.
pub record Prints (input text : List ℕ) : Type 0 where
  pub building : BuildingAnswer
  pub verdict : JudgingAnswer
  pub before : List ℕ
  pub after : List ℕ
  pub long : input_limit < length input → building ≡ BuildingAnswer.Refused 1
  pub builds : length input ≤ input_limit → building ≡ build state_limit input (length (built_table state_limit (sheet_of input)))
  pub room : (n len : ℕ) → building ≡ Built n len → judge_room (built_table state_limit (sheet_of input)) ≤ length before
  pub judges : (n len : ℕ) → building ≡ Built n len → Judges state_limit (built_table state_limit (sheet_of input)) before verdict after
  pub prints : text ≡ line building (sheet_of input).head.kinds verdict (take (judging_says verdict).count after)
