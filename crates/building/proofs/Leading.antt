-- The rules' step from an allocation state, on plain values.
use Prim.Native.Nat.{ℕ}
use mathlib.Core.Path.{◌≡◌}
use lib.ListN.{length}
use Rattle.convention.specs.declared.Head.{Head}
use Rattle.convention.specs.declared.SheetKind.{SheetKind}
use Rattle.convention.specs.declared.Placement.{Placement}
use Rattle.convention.specs.declared.Allocation.{Allocation}
use Rattle.convention.specs.declared.ByRules.{ByRules}
use Rattle.convention.specs.Built.{allocation, from_allocation}
use Rattle.stepping.specs.Sets.{set_of}
use Rattle.placing.specs.RulesSteps.{RulesStepIs}
use Rattle.building.specs.Keys.{set_number}
use Rattle.building.specs.Holding.{LeadIs}
use Rattle.building.proofs.Keyed.{sixteen_back}

module _ (h : Head) (kind : SheetKind) (a : Allocation) where
  -- The step is taken from the bits of the flags; after it the rules stand in the next state.
  pub led : (number : ℕ) (place : Placement) (after : ByRules) (next : Allocation) → length a.unavailable ≡ 16 → number ≡ set_number a.unavailable
      → RulesStepIs h kind (record { unavailable = set_of 16 number; p = record { 0 = a.remainder } }) place after
      → next ≡ allocation h.modulus after → LeadIs h kind a place next
  led number place after next long en step e =
      let stepped : RulesStepIs h kind (from_allocation a) place after = rw (sixteen_back a.unavailable number long en) at step in
      record { placed = stepped.placed; after = rw (← stepped.reached) e }
