-- No fault's number is above 4.
use Prim.Native.Nat.{ℕ, ◌%◌, ◌≤◌}
use mathlib.Core.Logic.{inl, inr}
use mathlib.Core.Bool.{Bool, true, false}
use mathlib.Core.List.{List}
use native.Mathlib.Omega.{arith}
use lib.Dec.{eqb}
use Rattle.convention.specs.declared.Head.{Head}
use Rattle.convention.specs.declared.Shape.{Shape}
use Rattle.convention.specs.declared.Table.{Table}
use Rattle.convention.specs.declared.Transition.{Transition}
use Rattle.convention.specs.declared.ByTable.{ByTable}
use Rattle.convention.specs.Numbers.{or_else, unless}
use Rattle.convention.specs.Shapes.{right_count, stack_bytes}
use Rattle.convention.specs.Rules.{free_run}
use Rattle.convention.specs.Lists.{fault_from, KindsBelow}
use Rattle.convention.specs.Walked.{table_fault, by_table}
use Rattle.convention.proofs.Numbers.{or_keeps}
use Rattle.convention.proofs.Lists.{faults_keep}
use Rattle.convention.proofs.Walked.{step_cases}

-- Of two tests in order, whichever pass.
tests_most : (first later : Bool) (a b : ℕ) → a ≤ 4 → b ≤ 4 → or_else (unless first a) (unless later b) ≤ 4
tests_most first later a b h k = or_keeps (λ n. n ≤ 4) (unless first a) (unless later b) (test_most first a h) (test_most later b k)
  where
    test_most : (passes : Bool) (n : ℕ) → n ≤ 4 → unless passes n ≤ 4
    test_most true n h = omega arith
    test_most false n h = h

-- The fault of a step.
step_most_lem : (h : Head) (shape : Shape) (x : Transition) (given : List Bool) → table_fault h shape x given ≤ 4
step_most_lem h shape x given = elim (step_cases h x) [
  | inl r ↦ rw (r.fault shape given) (tests_most (free_run given x.a x.b) (right_count h.width x.b shape) 2 3 (omega arith) (omega arith))
  | inr (inl r) ↦ rw (r.fault shape given) (tests_most (eqb x.b (stack_bytes shape)) (eqb (x.a % shape.alignment) 0) 3 4 (omega arith) (omega arith))
  | inr (inr r) ↦ rw (r.fault shape given) (omega arith)
]

-- The fault of a list.
pub fault_most : (table : Table) (t : List ℕ) (s : ByTable) (ks : List ℕ) → KindsBelow table.head.kinds ks → fault_from (by_table table t) s ks ≤ 4
fault_most table t = faults_keep (by_table table t) (λ f. f ≤ 4) _ (omega arith) (λ s k b. step_most_lem _ _ _ _)
