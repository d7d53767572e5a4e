-- One step by a table: how far it can take p, where its place ends, and what it asks.
use Prim.Native.Nat.{ℕ, ◌+◌, ◌≤◌, ◌<◌, ◌^◌}
use mathlib.Core.Logic.{inl, inr}
use mathlib.Core.Path.{◌≡◌}
use mathlib.Core.List.{List}
use native.Mathlib.Omega.{arith}
use lib.Dec.{lit<}
use Rattle.std.specs.Prelude.{Ok}
use Rattle.convention.specs.declared.Head.{Head}
use Rattle.convention.specs.declared.Shape.{Shape}
use Rattle.convention.specs.declared.Table.{Table}
use Rattle.convention.specs.declared.Transition.{Transition}
use Rattle.convention.specs.declared.ByTable.{ByTable}
use Rattle.convention.specs.declared.Offset.{Offset}
use Rattle.convention.specs.declared.Placement.{Placement}
use Rattle.convention.specs.Numbers.{state_limit}
use Rattle.convention.specs.Bytes.{written}
use Rattle.convention.specs.Lists.{record_of}
use Rattle.convention.specs.Rules.{place_taken, place_p}
use Rattle.convention.specs.Shapes.{step_most}
use Rattle.convention.specs.Tables.{table_kind, transition}
use Rattle.convention.specs.Walked.{table_place, table_fault, table_after}
use Rattle.convention.specs.Promised.{HeadRead, ShapeRead, TableRead}
use Rattle.convention.proofs.Shapes.{stack_most}
use Rattle.convention.proofs.Offsets.{least_lt, modulus_pos, modulus_most}
use Rattle.convention.proofs.Promised.{known_sixteen}
use Rattle.convention.proofs.Walked.{step_cases, stack_clean}
use Rattle.table.specs.Within.{InTable}
use Rattle.stepping.specs.Ends.{run_end, stack_end}
use Rattle.stepping.specs.Sets.{set_of}
use Rattle.walking.specs.declared.TableAt.{TableAt}
use Rattle.walking.specs.declared.step.Step.{Step}
use Rattle.walking.specs.TableSteps.{FaultAsks, as_table}
use Rattle.walking.specs.Steps.{ArgumentAsks, ArgumentIs}

-- A step without a fault takes p at most `step_most` bytes further: less than 16 are skipped, and a kind has at most 64.
pub reach : (h : Head) (shape : Shape) (x : Transition) (s : ByTable) → HeadRead h → ShapeRead h shape → table_fault h shape x s.given ≡ 0
    → (table_after h x s).p.0 ≤ s.p.0 + step_most
unfolding table_after
reach h shape x s head read e = elim (step_cases h x) [
  | inl r ↦ rw (r.place s.p.0) (omega arith)
  | inr (inl r) ↦
      rw (r.place s.p.0) (omega (arith, (stack_clean h shape x s.given e r).0, stack_most h shape read, least_lt h.modulus x.a s.p.0 (modulus_pos h.modulus head.modulus), modulus_most h.modulus head.modulus))
  | inr (inr r) ↦ rw (r.place s.p.0) (omega arith)
]

-- Where a place by a transition ends.
pub step_ends : (h : Head) (x : Transition) (p : ℕ) → (x.form ≡ 1 → x.a + x.b ≤ 16) → run_end (table_place h x p) ≤ 16
step_ends h x p within = elim (step_cases h x) [
  | inl r ↦ rw (r.place p) (within r.form)
  | inr (inl r) ↦ rw (r.place p) (omega arith)
  | inr (inr r) ↦ rw (r.place p) (omega arith)
]

-- One argument: where its place ends; and what it is without a fault.
module _ (step : Step) (s : TableAt) (records : List ℕ) (at : ℕ) (asks : ArgumentAsks step (as_table s) records at) where
  module _ (place : Placement) (ep : place ≡ table_place step.head step.x s.p.0) where
    pub stack_ends : step.x.b ≤ 255 → stack_end place < 2 ^ 32
    stack_ends b = elim (step_cases step.head step.x) [
      | inl r ↦ rw (ep, r.place s.p.0) (lit< tt)
      | inr (inl r) ↦
          let below = least_lt step.head.modulus step.x.a s.p.0 (modulus_pos step.head.modulus asks.placed.modulus) in
          rw (ep, r.place s.p.0) (omega (arith, below, modulus_most step.head.modulus asks.placed.modulus, asks.placed.room))
      | inr (inr r) ↦ rw (ep, r.place s.p.0) (lit< tt)
    ]

  pub argument_on : (place : Placement) (given : ℕ) (p : Offset) (after : List ℕ) → 0 ≡ table_fault step.head step.shape step.x (set_of 16 s.given)
      → place ≡ table_place step.head step.x s.p.0 → after ≡ written records at (record_of place) → set_of 16 given ≡ place_taken place (set_of 16 s.given)
      → p ≡ place_p place s.p → ArgumentIs step (as_table s) records at (Ok (record { state = step.x.next; given = given; p = p })) after
  unfolding table_after
  argument_on place given p after clean ep ea eg epp = record { found = clean; reached = rw (eg, epp, ep); makes = rw (← ep) ea }

-- What the fault of an argument asks, of a table that was read.
pub fault_asks : (table : Table) (t : List ℕ) (state k : ℕ) → TableRead state_limit table t → InTable table state k
    → (shape : Shape) (x : Transition) → shape ≡ table_kind table k → x ≡ transition table t state k → FaultAsks table.head shape x
fault_asks table t state k read inside shape x ek ex =
    let run = known_sixteen state_limit table t read k inside.kind state inside.state in
    rw (ek, ex) (record { wide = read.head.width; run = run; aligned = (read.kind k inside.kind).alignment })
