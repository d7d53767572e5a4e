-- What the functions of the exploration promise of the states met, which are a list of allocation states, and of the rows that are made.
use Rattle.std.specs.Prelude.{ℕ, suc, ◌+◌, ◌≤◌, ◌<◌, ◌≡◌, true, false, List, [], ◌∷◌, ◌++◌, ltb, map, length, get_or}
use Rattle.convention.specs.declared.Head.{Head}
use Rattle.convention.specs.declared.SheetKind.{SheetKind}
use Rattle.convention.specs.declared.Allocation.{Allocation}
use Rattle.convention.specs.declared.Sheet.{Sheet}
use Rattle.convention.specs.declared.Placement.{Placement}
use Rattle.convention.specs.declared.Refusal.{Refusal}
use Rattle.convention.specs.Numbers.{state_limit}
use Rattle.convention.specs.Promised.{HeadRead, SheetKindRead}
use Rattle.convention.specs.Rules.{place_fault, rules_place, rules_after, by_rules}
use Rattle.convention.specs.Explored.{Entry, met_from, met as met_before}
use Rattle.convention.specs.Bytes.{written}
use Rattle.convention.specs.Layout.{transition_length, rows_length}
use Rattle.convention.specs.Tables.{transition_bytes}
use Rattle.convention.specs.Built.{allocation, from_allocation, same_allocation, first_allocation, allocations, made, built_cell, built_row, built_states}
use Rattle.building.specs.Deciding.{rows_version, rows_most}
use Rattle.building.specs.Writing.{BlocksSoFar}

-- The states of the entries that the exploration meets.
abbrev pub nodes : (sheet : Sheet) → List (Entry (allocations sheet)) → List Allocation
nodes sheet l = map (λ e. e.node) l

-- A state's number among those met: its place, their count where it was not met.
unfoldable pub place_of : List Allocation → Allocation → ℕ
place_of [] a = 0
place_of (x ∷ states) a = elim (same_allocation x a) [ true ↦ 0 | false ↦ suc (place_of states a) ]

-- The states met with one more: what is new is appended.
unfoldable pub met_with : List Allocation → Allocation → List Allocation
met_with states a = elim (ltb (place_of states a) (length states)) [ true ↦ states | false ↦ states ++ a ∷ [] ]

-- One of them found: its number.
pub record Finds (states : List Allocation) (a : Allocation) (number : ℕ) : Type 0 where
  pub few : number < state_limit
  pub within : number < length states
  pub is : number ≡ place_of states a

-- One met, and its number.
pub record Meets (states : List Allocation) (a : Allocation) (number : ℕ) (after : List Allocation) : Type 0 where
  pub few : number ≤ state_limit
  pub met : after ≡ met_with states a
  pub is : number ≡ place_of after a

-- Number 11: these are more than a table may have.
pub record TooMany (states : List Allocation) (refusal : Refusal) : Type 0 where
  pub number : refusal ≡ Refusal.States
  pub more : state_limit < length states

-- A head and a kind that were read.
pub record LeadAsks (h : Head) (k : SheetKind) : Type 0 where
  pub head : HeadRead h
  pub kind : SheetKindRead h k

-- Where the kind leads from an allocation state: the place, and the state after it.
pub record LeadIs (h : Head) (k : SheetKind) (a : Allocation) (place : Placement) (next : Allocation) : Type 0 where
  pub placed : place ≡ rules_place h.width k (from_allocation a)
  pub after : next ≡ allocation h.modulus (rules_after h.width k (from_allocation a))

-- The state after a place met, where there is one; where there is none, no more is met, and the number says nothing.
pub record MeetsLed (place : Placement) (next : Allocation) (states : List Allocation) (number : ℕ) (after : List Allocation) : Type 0 where
  pub few : number ≤ state_limit
  pub on : place_fault place ≡ 0 → Meets states next number after
  pub nowhere : (place_fault place ≡ 0 → ⊥) → after ≡ states

-- The states met with that to which kind k leads from state a, if it leads on.
unfoldable pub met_by : Sheet → ℕ → Allocation → List Allocation → List Allocation
met_by sheet k a states =
    elim ((allocations sheet).goes a k) [ true ↦ met_with states ((allocations sheet).next a k) | false ↦ states ]

-- The transition of kind k at state a, by the numbers of the states met.
unfoldable pub cell_by : Sheet → ℕ → Allocation → List Allocation → List ℕ
cell_by sheet k a states =
    transition_bytes rows_version
    (made sheet.head.modulus ((by_rules sheet).place (from_allocation a) k) (place_of states ((allocations sheet).next a k)))

-- One kind of a sheet gone through at a state, and the transition's place among the rows.
pub record PassAsks (sheet : Sheet) (k : ℕ) (rows : List ℕ) (at : ℕ) : Type 0 where
  pub below : k < sheet.head.kinds
  pub there : at + transition_length rows_version ≤ length rows

-- What it leads to is met, and its transition is made.
pub record Passes (sheet : Sheet) (k : ℕ) (a : Allocation) (states : List Allocation) (rows : List ℕ) (at : ℕ) (after : List Allocation) (made : List ℕ) : Type 0 where
  pub met : after ≡ met_by sheet k a states
  pub cell : made ≡ written rows at (cell_by sheet k a after)

-- State i gone through: those before it were, and it was met.
pub record PassKindsAsks (sheet : Sheet) (i : ℕ) (a : Allocation) (states : List Allocation) (rows : List ℕ) : Type 0 where
  pub few : length states ≤ state_limit
  pub holds : states ≡ nodes sheet (met_before (allocations sheet) i)
  pub inside : i < length states
  pub is : a ≡ get_or states i first_allocation
  pub room : rows_most ≤ length rows

-- What it leads to is met, and its row is that of the built table.
pub record PassesKinds (sheet : Sheet) (i : ℕ) (rows : List ℕ) (after : List Allocation) (made : List ℕ) : Type 0 where
  pub holds : after ≡ nodes sheet (met_before (allocations sheet) (i + 1))
  pub row : made ≡ written rows (rows_length rows_version sheet.head i) (built_row rows_version sheet (built_states state_limit sheet) i)

-- Half way through it, before kind k.
pub record PassingKinds (sheet : Sheet) (a : Allocation) (i k : ℕ) (rows : List ℕ) (states : List Allocation) (made : List ℕ) : Type 0 where
  pub holds : states ≡ nodes sheet (met_from (allocations sheet) (met_before (allocations sheet) i) a i k)
  pub cells : BlocksSoFar (built_cell rows_version sheet (built_states state_limit sheet) a) (rows_length rows_version sheet.head i) k sheet.head.kinds rows made

-- Half way through the states, before state i.
pub record Exploring (sheet : Sheet) (i : ℕ) (rows : List ℕ) (states : List Allocation) (made : List ℕ) : Type 0 where
  pub holds : states ≡ nodes sheet (met_before (allocations sheet) i)
  pub passed : i ≤ length states
  pub done : BlocksSoFar (built_row rows_version sheet (built_states state_limit sheet)) 0 i state_limit rows made
