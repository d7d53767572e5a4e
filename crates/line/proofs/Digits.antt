-- The decimal digits of a number: those of its tenth, then the last; and how many there are.
use Prim.Native.Nat.{ℕ, zero, suc, ◌/◌, ◌^◌, ◌≤◌, ◌<◌}
use mathlib.Core.Path.{◌≡◌, refl, sym, ap, ◌∙◌}
use mathlib.Core.List.{[], ◌∷◌, ◌++◌}
use native.Mathlib.Decide.{dec_lt}
use native.Mathlib.Omega.{arith}
use borrow.Author.Tests.{lt-ltb, le-ltb}
use Rattle.std.proofs.lemmas.Fmt.{AppendsLastDigit, decimal_from_appends, length-decimal-le_succ}
use Rattle.std.specs.Fmt.{decimal as printed}
use Rattle.convention.specs.Program.{digit, digits_in, decimal}

-- One turn: a number of one digit, and one of more.
one_digit : (turns n : ℕ) → n < 10 → digits_in turns n ≡ digit n ∷ []
unfolding digits_in
one_digit zero n h = refl
one_digit (suc turns) n h = rw (digits_in, lt-ltb n 10 h)

more_digits : (turns n : ℕ) → 10 ≤ n → digits_in (suc turns) n ≡ digits_in turns (n / 10) ++ digit n ∷ []
unfolding digits_in
more_digits turns n h = rw (digits_in, le-ltb n 10 h)

-- As many turns as the number are enough, and more make no difference.
enough : (turns more n : ℕ) → n ≤ turns → n ≤ more → digits_in turns n ≡ digits_in more n
enough zero more n h k = rw (one_digit zero n (omega arith), one_digit more n (omega arith))
enough (suc turns) zero n h k = rw (one_digit (suc turns) n (omega arith), one_digit zero n (omega arith))
enough (suc turns) (suc more) n h k =
    elim (dec_lt n 10) [
      | yes l ↦ rw (one_digit (suc turns) n l, one_digit (suc more) n l)
      | no l ↦
          rw (more_digits turns n (omega arith), more_digits more n (omega arith), enough turns more (n / 10) (omega arith) (omega arith))
    ]

-- So a number's digits are those of its tenth, then the last.
pub decimal_one : (n : ℕ) → n < 10 → decimal n ≡ digit n ∷ []
unfolding decimal
decimal_one n h = one_digit n n h

pub decimal_more : (n : ℕ) → 10 ≤ n → decimal n ≡ decimal (n / 10) ++ digit n ∷ []
unfolding decimal
decimal_more zero h = absurd (omega arith)
decimal_more (suc n) h = rw (more_digits n (suc n) h, enough n (suc n / 10) (suc n / 10) (omega arith) (omega arith))

-- They are what the library prints.
in_turn : AppendsLastDigit digits_in
in_turn = record { one = λ k n h. rw (one_digit (suc k) n h) (ap (λ d. d ∷ []) (omega arith)); more = λ k n h. more_digits k n h }

pub decimal_printed : (n : ℕ) → n < 2 ^ 64 → printed n ≡ decimal n
unfolding decimal
decimal_printed n h =
    sym (decimal_from_appends digits_in in_turn (suc n) n h (omega (arith, length-decimal-le_succ n h))) ∙ enough (suc n) n n (omega arith) (omega arith)
