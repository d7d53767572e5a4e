-- The cases of a place by the rules.
use Prim.Native.Nat.{ℕ, ◌<◌}
use mathlib.Core.Path.{◌≡◌, refl}
use mathlib.Core.Bool.{Bool, true, false, cond}
use mathlib.Core.List.{List}
use lib.ListN.{length}
use borrow.Author.Tests.{ltb-true}
use Rattle.convention.specs.declared.SheetKind.{SheetKind}
use Rattle.convention.specs.declared.Placement.{Placement}
use Rattle.convention.specs.declared.Placement.TheVariants.{Registers, Stack, Nowhere}
use Rattle.convention.specs.Shapes.{stack_bytes}
use Rattle.convention.specs.Sheets.{may_use_stack}
use Rattle.convention.specs.Rules.{skipped_of, starts_of, needed, fits, start_taken, stack_offset, rules_place}

-- What holds of registers from a start that fits, of the stack where it is allowed, and of nowhere holds of the place by the rules, which is a function of p here.
pub place_cases : (w : ℕ) (k : SheetKind) (taken : List Bool) (P : (ℕ → Placement) → Type 0)
    → (skipped_of w k taken < length (starts_of k) → P (λ p. Registers (record { 0 = start_taken w k taken }) (needed w k)))
    → (may_use_stack k ≡ true → P (λ p. Stack (record { 0 = stack_offset k p }) (stack_bytes k.shape)))
    → (may_use_stack k ≡ false → P (λ p. Nowhere))
    → P (λ p. rules_place w k (record { unavailable = taken; p = record { 0 = p } }))
unfolding rules_place
place_cases w k taken P registers stack nowhere = go (fits w k taken) (may_use_stack k) refl refl
  where
    go : (fit allowed : Bool) → fits w k taken ≡ fit → may_use_stack k ≡ allowed
        → P (λ p. cond fit (Registers (record { 0 = start_taken w k taken }) (needed w k))
        (cond allowed (Stack (record { 0 = stack_offset k p }) (stack_bytes k.shape)) Nowhere))
    go true allowed e f = registers (ltb-true _ _ e)
    go false true e f = stack f
    go false false e f = nowhere f
