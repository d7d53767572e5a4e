-- What is found by one search, and the best of several.
use Rattle.std.specs.Prelude.{ℕ, ◌≤◌, ◌≡◌, List, length, Option, Some, None}
use Rattle.convention.specs.declared.Table.{Table}
use Rattle.convention.specs.Numbers.{state_limit}
use Rattle.convention.specs.Tables.{table_no, table_of}
use Rattle.judging.specs.Listed.{Better}
use Rattle.judging.specs.Watched.{Watch, nodes, FirstHit, NoHit, hit_list, NoHitBelow, LeastBelow}

-- The list of the first hit is found; nothing hits where there is none.
pub record FindIs (table : Table) (t : List ℕ) (watch : Watch) (r : Option (List ℕ)) : Type 0 where
  pub none : r ≡ None → NoHit table t watch
  pub some : (ks : List ℕ) → r ≡ Some ks → (i k : ℕ) × FirstHit table t watch i k × (ks ≡ hit_list table t watch i k)

-- The better of what is found and the best list is the best now.
pub record ImproveIs (table : Table) (t : List ℕ) (watch : Watch) (before after : Option (List ℕ)) : Type 0 where
  pub found : Option (List ℕ)
  pub find : FindIs table t watch found
  pub better : Better found before after

-- The best list, for the walks that watch nothing, or a register below `up_to`; none of them hits where there is none.
pub record BestIs (table : Table) (t : List ℕ) (up_to : ℕ) (best : Option (List ℕ)) : Type 0 where
  pub none : best ≡ None → NoHitBelow table t up_to
  pub some : (ks : List ℕ) → best ≡ Some ks → LeastBelow table t up_to ks

-- A table that was read from t, and room for its list.
pub record JudgeAsks (table : Table) (t out : List ℕ) : Type 0 where
  pub right : table_no state_limit t ≡ 0
  pub is : table ≡ table_of t
  pub fits : nodes table ≤ length out
