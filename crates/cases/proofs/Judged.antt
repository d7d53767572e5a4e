-- The cases that judge, P8 to P12 among them, of the judge's contract: two verdicts that it allows are one, and the verdict by trying is allowed.
use Prim.Native.Nat.{ℕ, zero, suc}
use mathlib.Core.Path.{◌≡◌, refl, sym, ap}
use mathlib.Core.List.{List, [], ◌∷◌, ◌++◌, map}
use native.Mathlib.Omega.{arith}
use lib.ListN.{length}
use lib.Seq.{take-append_seam}
use Rattle.convention.specs.Answers.{JudgingAnswer}
use Rattle.convention.specs.Answers.{Clean, Fault}
use Rattle.convention.specs.Numbers.{state_limit, refusal}
use Rattle.convention.specs.Tables.{table_no}
use Rattle.convention.specs.Judged.{judge_no, Judges, verdict_by_trying}
use Rattle.judging.proofs.Unique.{judge_passes}
use Rattle.judging.proofs.Trying.{judges_trying}
use Rattle.cases.specs.Readings.{as_defined}
use Rattle.cases.specs.Cases.{Given, by_rules_in, by_table_in, judge, ask_row, judged, comes_of, Case, cases}
use Rattle.cases.specs.Settled.{settled}
use Rattle.cases.specs.Requested.{requested}
use Rattle.cases.specs.Meant.{JudgedAs, AllJudged}
use Rattle.cases.proofs.Hold.{cases_hold, settled_hold, as_defined_lem}

-- A table that can be read, which has its verdict by trying.
judged_as : (t : List ℕ) → table_no state_limit t ≡ 0 → JudgedAs (judge t) (judged 0 (verdict_by_trying t))
unfolding JudgedAs
judged_as t read out answer after room j =
    let same = judges_trying state_limit t out (judge_passes state_limit t (length out) read room) answer after j in
    rw (same.0, same.1) (refl, take-append_seam (verdict_by_trying t).list _)

-- A table that cannot be read, which is refused with its number.
refused_as : (t : List ℕ) (number : ℕ) → table_no state_limit t ≡ suc number → JudgedAs (judge t) (record { said = refusal (suc number); bytes = [] })
unfolding JudgedAs Judges judge_no
refused_as t number read out Clean after room j = absurd (omega (arith, rw read at j.0))
refused_as t number read out (Fault fault n) after room j = absurd (omega (arith, rw read at j.0))
refused_as t number read out (JudgingAnswer.Refused n) after room j = (ap refusal (sym (rw read at j.0)), refl)

-- So whatever comes of a case by the definitions, the judge's contract says of it.
one_judged : (g : Given) → JudgedAs g (comes_of as_defined g)
unfolding JudgedAs
one_judged (by_rules_in s ks lent) = tt
one_judged (by_table_in t ks lent) = tt
one_judged (judge t) = rw (as_defined_lem (judge t)) (go (table_no state_limit t) refl)
  where
    go : (number : ℕ) → table_no state_limit t ≡ number → JudgedAs (judge t) (judged number (verdict_by_trying t))
    go zero e = judged_as t e
    go (suc number) e = refused_as t number e
one_judged (ask_row t state) = tt

all_judged : (cs : List Case) → map (λ (c : Case). comes_of as_defined c.given) cs ≡ map (λ (c : Case). c.says) cs → AllJudged cs
unfolding AllJudged
all_judged [] e = tt
all_judged (c ∷ cs) e =
    let here : comes_of as_defined c.given ≡ c.says = cc in
    (rw (← here) (one_judged c.given), all_judged cs (cc))

pub judged_hold : AllJudged cases × AllJudged (settled ++ requested)
judged_hold = (all_judged cases cases_hold, all_judged (settled ++ requested) settled_hold)
