-- Document 01, 'The built table' and number 11: what lists of kinds reach.
use Rattle.std.specs.Prelude.{ℕ, ◌<◌, ◌≡◌, List, length, get_or}
use Rattle.convention.specs.declared.Sheet.{Sheet}
use Rattle.convention.specs.declared.Allocation.{Allocation}
use Rattle.convention.specs.Rules.{by_rules}
use Rattle.convention.specs.Lists.{fault_from, state_from, KindsBelow}
use Rattle.convention.specs.Built.{allocation, first_allocation}

-- 'states that some list of kinds reaches by the rules': every argument of the list has a place, and after the last the rules stand in the state.
pub record Reaches (sheet : Sheet) (ks : List ℕ) (a : Allocation) : Type 0 where
  pub known : KindsBelow sheet.head.kinds ks
  pub placed : fault_from (by_rules sheet) (by_rules sheet).begin ks ≡ 0
  pub stands : allocation sheet.head.modulus (state_from (by_rules sheet) (by_rules sheet).begin ks) ≡ a

-- 'lists of the sheet's kinds reach more than 200 allocation states': there are more than the limit that are all different and each reached.
pub record ReachMore (limit : ℕ) (sheet : Sheet) : Type 0 where
  pub states : List Allocation
  pub different : (i j : ℕ) → i < j → j < length states → get_or states i first_allocation ≡ get_or states j first_allocation → ⊥
  pub reached : (i : ℕ) → i < length states → (ks : List ℕ) × Reaches sheet ks (get_or states i first_allocation)
  pub more : limit < length states
