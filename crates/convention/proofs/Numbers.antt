-- Laws of answer numbers: what a chain of tests, one test and one field tell of a number, and what a number tells of them.
use Prim.Native.Nat.{ℕ, zero, suc, ◌+◌, ◌≤◌, ◌<◌}
use mathlib.Core.Path.{◌≡◌, refl, sym, ◌∙◌}
use mathlib.Core.Logic.{◌↔◌}
use mathlib.Core.Bool.{Bool, true, false, true≢false}
use mathlib.Core.List.{List}
use native.Mathlib.Nat.{suc-ne-zero}
use native.Mathlib.Omega.{arith}
use lib.Dec.{leb}
use lib.ListN.{length}
use borrow.Author.Tests.{leb-true, le-leb, lt-leb}
use Rattle.convention.specs.Answers.{Reading}
use Rattle.convention.specs.Numbers.{or_else, unless, reading, reading_no}
use Rattle.convention.specs.Fields.{part_no, field_no}

-- Two tests in order: no number is given exactly where both pass; the first that fails gives the number.
pub or_zero : (a b : ℕ) → or_else a b ≡ 0 → (a ≡ 0) × (b ≡ 0)
or_zero zero b e = (refl, e)
or_zero (suc a) b e = absurd (suc-ne-zero a e)

pub or_here : (a b : ℕ) → 0 < a → or_else a b ≡ a
or_here zero b h = absurd (omega arith)
or_here (suc a) b h = refl

pub or_on : (a b : ℕ) → a ≡ 0 → or_else a b ≡ b
or_on a b e = rw e

pub or_assoc : (a b c : ℕ) → or_else (or_else a b) c ≡ or_else a (or_else b c)
or_assoc zero b c = refl
or_assoc (suc a) b c = refl

-- A number that the later test does not give is the first test's; one that the first test does not give is the later one's, where the first passes.
pub or_at : (a b n : ℕ) → 0 < n → (b ≡ n → ⊥) → or_else a b ≡ n ↔ a ≡ n
or_at zero b n h other = (λ e. absurd (other e), λ e. absurd (omega arith))
or_at (suc a) b n h other = (λ e. e, λ e. e)

pub or_past : (a b n : ℕ) → (a ≡ n → ⊥) → or_else a b ≡ n ↔ (a ≡ 0) × (b ≡ n)
or_past zero b n other = (λ e. (refl, e), λ e. e.1)
or_past (suc a) b n other = (λ e. absurd (other e), λ e. absurd (suc-ne-zero a e.0))

-- What holds of both numbers holds of the one that is given.
pub or_keeps : (P : ℕ → Type 0) (a b : ℕ) → P a → P b → P (or_else a b)
or_keeps P zero b p q = q
or_keeps P (suc a) b p q = p

-- What code answers that makes the second test only where the first finds nothing wrong.
pub or_first : (a b number : ℕ) → number ≡ a → (number ≡ 0 → ⊥) → number ≡ or_else a b
or_first a b number e nz = e ∙ sym (or_here a b (rw (← e) (omega (arith, nz))))

pub or_later : (a b number r : ℕ) → number ≡ a → number ≡ 0 → r ≡ b → r ≡ or_else a b
or_later a b number r e z er = er ∙ sym (or_on a b (sym e ∙ z))

-- One test: it passes exactly where it gives no number.
pub unless_zero : (b : Bool) (n : ℕ) → 0 < n → unless b n ≡ 0 → b ≡ true
unless_zero true n h e = refl
unless_zero false n h e = absurd (omega arith)

pub unless_true : (b : Bool) (n : ℕ) → b ≡ true → unless b n ≡ 0
unless_true b n e = rw e

pub unless_here : (b : Bool) (n : ℕ) → 0 < n → unless b n ≡ n ↔ b ≡ false
unless_here true n h = (λ e. absurd (omega arith), λ e. absurd (true≢false e))
unless_here false n h = (λ _. refl, λ _. refl)

-- A part of the bytes: 3 where it is missing, else what the test of its value gives; and so a field.
module _ (s : List ℕ) (at long : ℕ) (right : Bool) (wrong : ℕ) where
  pub part_zero : 0 < wrong → part_no s at long right wrong ≡ 0 → (at + long ≤ length s) × (right ≡ true)
  part_zero h e =
      let both = or_zero (unless (leb (at + long) (length s)) 3) (unless right wrong) e in
      (leb-true _ _ (unless_zero _ 3 (omega arith) both.0), unless_zero right wrong h both.1)

  pub part_here : at + long ≤ length s → part_no s at long right wrong ≡ unless right wrong
  part_here h = rw (le-leb _ _ h)

  pub part_pass : at + long ≤ length s → right ≡ true → part_no s at long right wrong ≡ 0
  part_pass h e = part_here h ∙ unless_true right wrong e

pub byte_there : (at n : ℕ) → at < n → leb (at + 1) n ≡ true
byte_there at n h = le-leb (at + 1) n (omega arith)

pub byte_missing : (at n : ℕ) → n ≤ at → leb (at + 1) n ≡ false
byte_missing at n h = lt-leb (at + 1) n (omega arith)

module _ (s : List ℕ) (at : ℕ) (right : Bool) (wrong : ℕ) where
  pub field_zero : 0 < wrong → field_no s at right wrong ≡ 0 → (at < length s) × (right ≡ true)
  field_zero h e = let part = part_zero s at 1 right wrong h e in (omega (arith, part.0), part.1)

  pub field_pass : at < length s → right ≡ true → field_no s at right wrong ≡ 0
  field_pass h e = part_pass s at 1 right wrong (omega arith) e

-- An answer of reading carries the number that it was made from.
pub reading_no_lem : (n : ℕ) → reading_no (reading n) ≡ n
reading_no_lem zero = refl
reading_no_lem (suc n) = refl

-- What an answer of reading tells of that number.
pub read_number : (n : ℕ) → reading n ≡ Reading.Read → n ≡ 0
read_number zero e = refl
read_number (suc n) e = cc

pub refused_number : (n number : ℕ) → reading n ≡ Reading.Refused number → n ≡ number
refused_number zero number e = cc
refused_number (suc n) number e = cc

pub refused_some : (n number : ℕ) → reading n ≡ Reading.Refused number → 0 < n
refused_some zero number e = let never : ◌≡◌ {A = ℕ} 0 1 = cc in absurd (omega arith)
refused_some (suc n) number e = omega arith
