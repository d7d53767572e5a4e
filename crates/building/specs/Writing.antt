-- What the functions that write the parts of a table ask of one another.
use Rattle.std.specs.Prelude.{ℕ, ◌+◌, ◌-◌, ◌≤◌, ◌≡◌, List, [], ◌∷◌, ◌++◌, length}
use Rattle.convention.specs.declared.Head.{Head}
use Rattle.convention.specs.declared.Sheet.{Sheet}
use Rattle.convention.specs.Numbers.{state_limit}
use Rattle.convention.specs.Bytes.{two_bytes, written, blocks}
use Rattle.convention.specs.Layout.{length_bytes, states_at, rows_at, transition_length, table_length}
use Rattle.convention.specs.Fields.{state_bytes}
use Rattle.convention.specs.Promised.{SheetRead}
use Rattle.convention.specs.Built.{built_kind}
use Rattle.building.specs.Deciding.{rows_version}

-- One transition among the rows, from byte `at` on, to a state's number.
pub record MadeAsks (next : ℕ) (rows : List ℕ) (at : ℕ) : Type 0 where
  pub few : next ≤ state_limit
  pub there : at + transition_length rows_version ≤ length rows

-- The kinds.
pub record KindsAsk (v : ℕ) (sheet : Sheet) (out : List ℕ) : Type 0 where
  pub read : SheetRead sheet
  pub there : states_at v sheet.head ≤ length out

-- What stands before the kinds: how many bytes follow, the version, the head.
abbrev pub opening_bytes : ℕ → Head → ℕ → List ℕ
opening_bytes v h follow = two_bytes follow ++ v ∷ h.registers ∷ h.width ∷ h.modulus ∷ h.kinds ∷ []

-- What stands before the rows of so many states, in its room.
abbrev pub front_bytes : ℕ → Sheet → ℕ → List ℕ
front_bytes v sheet states =
    (opening_bytes v sheet.head (table_length v sheet.head states - length_bytes) ++ blocks (built_kind v sheet) sheet.head.kinds) ++ state_bytes v states

pub record FrontAsks (v : ℕ) (sheet : Sheet) (states : ℕ) (out : List ℕ) : Type 0 where
  pub read : SheetRead sheet
  pub room : states ≤ state_limit
  pub there : rows_at v sheet.head ≤ length out

-- The first so many bytes of the rows, in their room from byte `at` on.
pub record CopyAsks (rows : List ℕ) (len : ℕ) (out : List ℕ) (at : ℕ) : Type 0 where
  pub made : len ≤ length rows
  pub there : at + len ≤ length out

-- Half way through blocks that are written one after the other from byte `at` on: n of all are there.
pub record BlocksSoFar (block : ℕ → List ℕ) (at n all : ℕ) (before out : List ℕ) : Type 0 where
  pub within : n ≤ all
  pub there : out ≡ written before at (blocks block n)
  pub long : length out ≡ length before
