-- How long a line and its parts are, and how long they are at most.
use Prim.Native.Nat.{ℕ, zero, suc, ◌+◌, ◌*◌, ◌/◌, ◌^◌, ◌≤◌, ◌<◌}
use mathlib.Core.Path.{◌≡◌, refl}
use mathlib.Core.List.{List, [], ◌∷◌}
use native.Mathlib.Nat.{le_refl, pow-suc}
use native.Mathlib.Decide.{dec_lt}
use native.Mathlib.Omega.{arith}
use lib.ListN.{length, length-append}
use Rattle.convention.specs.Answers.{Built}
use Rattle.convention.specs.Answers.{JudgingAnswer}
use Rattle.convention.specs.Answers.{Clean, Fault}
use Rattle.convention.specs.Numbers.{judging_says}
use Rattle.convention.specs.Lists.{KindsBelow}
use Rattle.convention.specs.Program.{decimal, kind_fields, verdict_fields, refused_line, line}
use Rattle.line.specs.Lengths.{digits, line_most}
use Rattle.line.proofs.Digits.{decimal_one, decimal_more}

-- A line and its fields, part by part.
fault_long : (fault n : ℕ) (list : List ℕ)
    → length (verdict_fields (Fault fault n) list) ≡ 6 + (1 + length (decimal fault)) + (1 + length (decimal n)) + length (kind_fields list)
unfolding verdict_fields
fault_long fault n list = simp length-append (omega arith)

refused_long : (number : ℕ) → length (refused_line number) ≡ 7 + (1 + length (decimal number)) + 1
unfolding refused_line
refused_long number = simp length-append (omega arith)

built_long : (n len m : ℕ) (verdict : JudgingAnswer) (list : List ℕ)
    → length (line (Built n len) m verdict list) ≡ length (decimal n) + (1 + length (decimal m)) + length (verdict_fields verdict list) + 1
unfolding line
built_long n len m verdict list = simp length-append (omega arith)

-- A number from ten on has one digit more than its tenth.
tenth_digits : (n : ℕ) → 10 ≤ n → digits n ≡ digits (n / 10) + 1
tenth_digits n h = rw (decimal_more n h, length-append)

-- A number below 10 ^ d has at most d digits.
pub digits_below : (d n : ℕ) → 0 < d → n < 10 ^ d → digits n ≤ d
digits_below zero n some h = absurd (omega arith)
digits_below (suc zero) n some h = rw (decimal_one n (omega arith)) (omega arith)
digits_below (suc (suc d)) n some h =
    elim (dec_lt n 10) [
      | yes l ↦ rw (decimal_one n l) (omega arith)
      | no l ↦
          let less : n < 10 ^ suc d * 10 = rw (← pow-suc 10 (suc d)) h in
          omega (arith, tenth_digits n (omega arith), digits_below (suc d) (n / 10) (omega arith) (omega arith))
    ]

-- A number has no more digits than a larger one.
digits_most : (most n : ℕ) → n ≤ most → digits n ≤ digits most
digits_most most n h = go most most n (le_refl most) h
  where
    go : (turns most n : ℕ) → most ≤ turns → n ≤ most → digits n ≤ digits most
    go zero most n t h = rw (decimal_one n (omega arith), decimal_one most (omega arith)) (omega arith)
    go (suc turns) most n t h =
        elim (dec_lt most 10) [
          | yes l ↦ rw (decimal_one n (omega arith), decimal_one most l) (omega arith)
          | no l ↦
              elim (dec_lt n 10) [
                | yes k ↦ rw (decimal_one n k) (omega (arith, tenth_digits most (omega arith)))
                | no k ↦
                    omega (arith, tenth_digits n (omega arith), tenth_digits most (omega arith), go turns (most / 10) (n / 10) (omega arith) (omega arith))
              ]
        ]

-- Kinds of one digit.
kinds_long : (list : List ℕ) → KindsBelow 10 list → length (kind_fields list) ≡ 2 * length list
unfolding KindsBelow kind_fields
kinds_long [] below = refl
kinds_long (k ∷ list) below = rw (length-append, kinds_long list below.1, decimal_one k below.0) (omega arith)

-- So the line of a refusal, and that of a table, have at most so many bytes.
pub refused_most : (d number : ℕ) → 0 < d → number < 10 ^ d → length (refused_line number) ≤ 7 + (1 + d) + 1
refused_most d number some h = omega (arith, refused_long number, digits_below d number some h)

verdict_most : (most : ℕ) (verdict : JudgingAnswer) (list : List ℕ) → (judging_says verdict).fault < 10 → (judging_says verdict).count ≤ most
    → KindsBelow 10 list → length list ≤ most → length (verdict_fields verdict list) ≤ 6 + 2 + (1 + digits most) + 2 * most
unfolding verdict_fields
verdict_most most Clean list f c below few = omega arith
verdict_most most (Fault fault n) list f c below few =
    omega (arith, fault_long fault n list, digits_below 1 fault (omega arith) f, digits_most most n c, kinds_long list below)
verdict_most most (JudgingAnswer.Refused number) list f c below few = omega arith

pub line_most_lem : (limit most n len m : ℕ) (verdict : JudgingAnswer) (list : List ℕ) → n ≤ limit → m < 10
    → (judging_says verdict).fault < 10 → (judging_says verdict).count ≤ most → KindsBelow 10 list → length list ≤ most
    → length (line (Built n len) m verdict list) ≤ line_most limit most
line_most_lem limit most n len m verdict list hn hm f c below few =
    omega
    (arith, built_long n len m verdict list, digits_most limit n hn, digits_below 1 m (omega arith) hm, verdict_most most verdict list f c below few)
