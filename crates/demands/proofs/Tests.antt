-- What one test that gives a number says, and when.
use Prim.Native.Nat.{ℕ, ◌≤◌, ◌<◌}
use mathlib.Core.Path.{◌≡◌}
use mathlib.Core.Logic.Iff
use mathlib.Core.Logic.{◌↔◌}
use mathlib.Core.Bool.{Bool, true, false}
use native.Mathlib.Omega.{arith}
use lib.Dec.{leb}
use borrow.Author.Tests.{leb-true, leb-false, le-leb, lt-leb}
use Rattle.convention.specs.Numbers.{unless}
use Rattle.convention.proofs.Numbers.{unless_zero, unless_true, unless_here}

-- It passes, and gives 0; it fails, and gives its number; it gives no other.
pub test_passes : (a b n : ℕ) → 0 < n → unless (leb a b) n ≡ 0 ↔ a ≤ b
test_passes a b n h = (λ e. leb-true a b (unless_zero _ n h e), λ l. unless_true _ n (le-leb a b l))

pub test_fails : (a b n : ℕ) → 0 < n → unless (leb a b) n ≡ n ↔ b < a
test_fails a b n h = Iff.trans (unless_here (leb a b) n h) (leb-false a b, lt-leb a b)

pub test_other : (t : Bool) (n k : ℕ) → 0 < k → (n ≡ k → ⊥) → unless t n ≡ k → ⊥
test_other true n k h other e = omega arith
test_other false n k h other e = other e

-- What holds of 0 and of its number holds of what it gives.
pub test_keeps : (P : ℕ → Type 0) (b : Bool) (n : ℕ) → P 0 → P n → P (unless b n)
test_keeps P true n p q = p
test_keeps P false n p q = q
