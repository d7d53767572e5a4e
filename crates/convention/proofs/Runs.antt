-- Laws of runs of registers: a run is free where no register of it is taken, and marking it takes its registers and no other.
use Prim.Native.Nat.{ℕ, zero, suc, ◌+◌, ◌≤◌, ◌<◌}
use native.Mathlib.Nat.{eq-or-lt_of_le}
use native.Mathlib.Omega.{arith}
use mathlib.Core.Path.{◌≡◌, refl, ◌∙◌}
use mathlib.Core.Logic.{◌⊎◌, inl, inr}
use mathlib.Core.Bool.{Bool, true, false, false≢true, true≢false}
use mathlib.Core.List.{List}
use lib.ListN.{length, get_or, set, length-set, replicate}
use lib.Seq.{get_or-set_same, get_or-set_other}
use Rattle.convention.specs.Rules.{free_run, mark_run}

-- A test's value.
pub either : (b : Bool) → (b ≡ true) ⊎ (b ≡ false)
either true = inl refl
either false = inr refl

-- Of no registers none is taken.
pub none_taken : (n r : ℕ) → get_or (replicate n false) r false ≡ false
none_taken zero r = refl
none_taken (suc n) zero = refl
none_taken (suc n) (suc r) = none_taken n r

-- No register of a free run is taken.
pub free_each : (taken : List Bool) (first count : ℕ) → free_run taken first count ≡ true
    → (r : ℕ) → first ≤ r → r < first + count → get_or taken r false ≡ false
unfolding free_run
free_each taken first zero e r h k = absurd (omega arith)
free_each taken first (suc count) e r h k = elim (either (get_or taken first false)) [
  | inl t ↦ absurd (false≢true (rw (t, free_run) at e))
  | inr t ↦ elim (eq-or-lt_of_le h) [
    | inl q ↦ rw (← q) t
    | inr l ↦ free_each taken (first + 1) count (rw (t, free_run) at e) r (omega arith) (omega arith)
  ]
]

-- Of a run that is not free some register is taken.
pub free_some : (taken : List Bool) (first count : ℕ) → free_run taken first count ≡ false
    → (r : ℕ) × (first ≤ r) × (r < first + count) × (get_or taken r false ≡ true)
unfolding free_run
free_some taken first zero e = absurd (true≢false e)
free_some taken first (suc count) e = elim (either (get_or taken first false)) [
  | inl t ↦ (first, omega arith, omega arith, t)
  | inr t ↦ let s = free_some taken (first + 1) count (rw (t, free_run) at e) in (s.0, omega arith, omega arith, s.3)
]

-- Marking a run leaves what is outside, and takes what is inside.
pub mark_out : (taken : List Bool) (first count r : ℕ) → (first ≤ r → r < first + count → ⊥)
    → get_or (mark_run taken first count) r false ≡ get_or taken r false
mark_out taken first zero r o = refl
mark_out taken first (suc count) r o =
    mark_out (set taken first true) (suc first) count r (λ h k. o (omega arith) (omega arith))
    ∙ get_or-set_other taken first r true false (λ e. o (omega arith) (omega arith))

pub mark_in : (taken : List Bool) (first count r : ℕ) → first + count ≤ length taken → first ≤ r → r < first + count
    → get_or (mark_run taken first count) r false ≡ true
mark_in taken first zero r w h k = absurd (omega arith)
mark_in taken first (suc count) r w h k = elim (eq-or-lt_of_le h) [
  | inl q ↦ mark_out (set taken first true) (suc first) count r (omega arith) ∙ rw (← q) (get_or-set_same taken first true false (omega arith))
  | inr l ↦ mark_in (set taken first true) (suc first) count r (rw length-set (omega arith)) l (omega arith)
]
