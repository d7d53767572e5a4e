-- Demand 3 in its own words: when a list of kinds goes right by a table. (The faults of 'Placing by a table' are 01's other way to say it; that they agree is `well_placed`, crates/walking.)
use Rattle.std.specs.Prelude.{ℕ, ◌+◌, ◌%◌, ◌≤◌, ◌<◌, ◌≡◌, true, ◌⊎◌, List, length, get_or}
use Rattle.convention.specs.declared.Head.{Head}
use Rattle.convention.specs.declared.Shape.{Shape}
use Rattle.convention.specs.declared.Placement.{Placement}
use Rattle.convention.specs.declared.Placement.TheVariants.{Registers, Stack, Nowhere}
use Rattle.convention.specs.Shapes.{right_count, stack_bytes}
use Rattle.convention.specs.Tables.{table_kind, table_of}
use Rattle.convention.specs.Lists.{place_by}
use Rattle.convention.specs.Walked.{by_table}

-- Register r is one of a place's.
abbrev pub HasRegister : Placement → ℕ → Type 0
HasRegister (Registers first count) r = (first.0 ≤ r) × (r < first.0 + count)
HasRegister (Stack offset count) r = ⊥
HasRegister Nowhere r = ⊥

-- Stack byte x is one of a place's.
abbrev pub HasByte : Placement → ℕ → Type 0
HasByte (Registers first count) x = ⊥
HasByte (Stack offset count) x = (offset.0 ≤ x) × (x < offset.0 + count)
HasByte Nowhere x = ⊥

-- Two places share a register or a stack byte.
abbrev pub Share : Placement → Placement → Type 0
Share a b = ((r : ℕ) × HasRegister a r × HasRegister b r) ⊎ ((x : ℕ) × HasByte a x × HasByte b x)

-- A place that is right for a kind: 'exactly the registers its size needs' (document 02, W-202), all of them below n; or exactly its size of stack bytes, at a multiple of its alignment.
unfoldable pub Right : Head → Shape → Placement → Type 0
Right h shape (Registers first count) = ((r : ℕ) → HasRegister (Registers first count) r → r < h.registers) × (right_count h.width count shape ≡ true)
Right h shape (Stack offset count) = (count ≡ stack_bytes shape) × (offset.0 % shape.alignment ≡ 0)
Right h shape Nowhere = ⊥

-- The place that the table t gives argument i of a list.
abbrev pub place_of : List ℕ → List ℕ → ℕ → Placement
place_of t ks i = place_by (by_table (table_of t) t) ks i

-- The list goes right: each argument finds a place that is right for its kind, and no two arguments share a register or a stack byte.
pub record WellPlaced (t ks : List ℕ) : Type 0 where
  pub right : (i : ℕ) → i < length ks → Right (table_of t).head (table_kind (table_of t) (get_or ks i 0)) (place_of t ks i)
  pub apart : (i j : ℕ) → i < j → j < length ks → Share (place_of t ks i) (place_of t ks j) → ⊥
