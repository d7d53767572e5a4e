-- What filling a certificate asks of a transition.
use Rattle.std.specs.Prelude.{◌+◌, ◌≤◌, ◌<◌, ◌≡◌}
use Rattle.convention.specs.declared.Transition.{Transition}
use Rattle.convention.specs.Numbers.{state_limit}

-- A transition of a table that was read.
pub record GrowAsks (x : Transition) : Type 0 where
  pub run : x.form ≡ 1 → x.a + x.b ≤ 16
  pub next : x.next < state_limit
