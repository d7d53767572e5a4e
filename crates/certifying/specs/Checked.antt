-- What the functions that check a certificate ask of one another.
use Rattle.std.specs.Prelude.{ℕ, ◌<◌, ◌≡◌, true, List, get_or}
use Rattle.convention.specs.declared.Table.{Table}
use Rattle.stepping.specs.Sets.{set_of, Among}
use Rattle.walking.specs.declared.step.Step.{Step}
use Rattle.certifying.specs.declared.checks.Checks.{Checks}
use Rattle.certifying.specs.Certified.{is_reached, TransitionHolds, RowHolds, StateHolds}

-- What was found stays found: each test that passes afterwards passed before, and each register is still there.
pub record Keeps (before after : Checks) : Type 0 where
  pub closed : after.closed ≡ true → before.closed ≡ true
  pub clean : after.clean ≡ true → before.clean ≡ true
  pub twice : Among (set_of 16 before.twice) (set_of 16 after.twice)

-- One more transition, the kinds below n at a state with the set `here`, or all kinds of a state, where so much was found before and so much is afterwards.
pub record TransitionIs (step : Step) (here next : ℕ) (before after : Checks) : Type 0 where
  pub keeps : Keeps before after
  pub holds : TransitionHolds step.head step.shape step.x here next after

pub record RowIs (table : Table) (t sets : List ℕ) (state here n : ℕ) (before after : Checks) : Type 0 where
  pub keeps : Keeps before after
  pub holds : RowHolds table t sets state here n after

pub record StateIs (table : Table) (t sets : List ℕ) (state : ℕ) (before after : Checks) : Type 0 where
  pub keeps : Keeps before after
  pub holds : StateHolds table t sets state after

-- Half way: the states below n hold.
pub record StatesHold (table : Table) (t sets : List ℕ) (n : ℕ) (c : Checks) : Type 0 where
  pub start : c.closed ≡ true → is_reached (get_or sets 0 0) ≡ true
  pub each : (state : ℕ) → state < n → StateHolds table t sets state c
