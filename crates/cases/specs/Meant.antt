-- The cases that judge, P8 to P12 among them, of the judge's contract itself: what is to hold of whatever the judge answers, and not of a verdict found by trying.
use Rattle.std.specs.Prelude.{ℕ, ◌≤◌, ◌≡◌, List, [], ◌∷◌, length, take}
use Rattle.convention.specs.Answers.{JudgingAnswer}
use Rattle.convention.specs.Numbers.{state_limit, judging_says}
use Rattle.convention.specs.Judged.{judge_room, Judges}
use Rattle.cases.specs.Cases.{Given, by_rules_in, by_table_in, judge, ask_row, Outcome, Case}

-- With the room that it needs, the judge says what the case says, and writes its list.
unfoldable pub JudgedAs : Given → Outcome → Type 0
JudgedAs (by_rules_in s ks lent) says = Unit {0}
JudgedAs (by_table_in t ks lent) says = Unit {0}
JudgedAs (judge t) says =
    (out : List ℕ) (answer : JudgingAnswer) (after : List ℕ) → judge_room t ≤ length out → Judges state_limit t out answer after
    → (judging_says answer ≡ says.said) × (take (length says.bytes) after ≡ says.bytes)
JudgedAs (ask_row t state) says = Unit {0}

unfoldable pub AllJudged : List Case → Type 0
AllJudged [] = Unit {0}
AllJudged (c ∷ cs) = JudgedAs c.given c.says × AllJudged cs
