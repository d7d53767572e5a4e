-- What the parts of the program ask and promise. What the whole means is `Prints`, crates/convention/specs/Program.antt.
use Rattle.std.specs.Prelude.{ℕ, ◌*◌, ◌≤◌, ◌≡◌, List, length, take}
use Rattle.io.specs.Counts.{IsPrefixLen}
use Rattle.convention.specs.Answers.{Built}
use Rattle.convention.specs.Answers.{JudgingAnswer}
use Rattle.convention.specs.Numbers.{state_limit, judging_says}
use Rattle.convention.specs.Tables.{table_no, table_of}
use Rattle.convention.specs.Built.{built_most}
use Rattle.convention.specs.Judged.{judge_room, Judges}
use Rattle.convention.specs.Program.{line}
use Rattle.line.specs.Lengths.{line_most}

-- Room for every table; for the list of every verdict, 'judging, 2N bytes'; and for every
-- line that the program prints.
abbrev pub table_room : ℕ
table_room = built_most state_limit

abbrev pub list_room : ℕ
list_room = 2 * state_limit

abbrev pub line_room : ℕ
line_room = line_most state_limit list_room

-- The first n bytes of `out` are a text of which P holds.
pub record TextIs (P : List ℕ → Type 0) (n : ℕ) (out : List ℕ) : Type 0 where
  pub counts : IsPrefixLen n out
  pub holds : P (take n out)

-- A table that can be read, with its number of states and of kinds, and room for its line.
pub record TableLineAsks (states kinds : ℕ) (t out : List ℕ) : Type 0 where
  pub readable : table_no state_limit t ≡ 0
  pub rows : states ≡ (table_of t).states
  pub head : kinds ≡ (table_of t).head.kinds
  pub room : line_room ≤ length out

-- The line of a table, of a verdict on it, which was found in memory that was `before` and is `after`.
pub record TableLine (states kinds : ℕ) (t text : List ℕ) : Type 0 where
  pub verdict : JudgingAnswer
  pub before : List ℕ
  pub after : List ℕ
  pub room : judge_room t ≤ length before
  pub judges : Judges state_limit t before verdict after
  pub prints : text ≡ line (Built states (length t)) kinds verdict (take (judging_says verdict).count after)
