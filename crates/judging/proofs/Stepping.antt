-- One step of the watched walk, as the code takes it: by the fault of a step before which nothing was given, and from what the reader promises.
use Prim.Native.Nat.{ℕ, ◌+◌, ◌≤◌, ◌<◌}
use native.Mathlib.Omega.{arith}
use mathlib.Core.Path.{◌≡◌, refl, ◌∙◌}
use mathlib.Core.Logic.{inl, inr}
use mathlib.Core.Bool.{Bool, true, false, not, not-not, ◌&&◌}
use mathlib.Core.List.{List}
use lib.Dec.{eqb}
use lib.Bits.{bit_and, and_zero_r}
use lib.ListN.{get_or}
use borrow.Author.Tests.{eqb-true}
use Rattle.convention.specs.declared.Head.{Head}
use Rattle.convention.specs.declared.Reg.{Reg}
use Rattle.convention.specs.declared.Shape.{Shape}
use Rattle.convention.specs.declared.Table.{Table}
use Rattle.convention.specs.declared.Transition.{Transition}
use Rattle.convention.specs.declared.Fault.{Fault}
use Rattle.convention.specs.Results.{fault_of}
use Rattle.convention.specs.Rules.{free_run, no_registers}
use Rattle.convention.specs.Walked.{table_fault}
use Rattle.convention.proofs.Runs.{either, none_taken}
use Rattle.stepping.specs.Sets.{set_of, run_bits}
use Rattle.stepping.proofs.Sets.{set_none, free_set}
use Rattle.walking.specs.declared.step.Step.{Step}
use Rattle.walking.specs.TableSteps.{given_after}
use Rattle.walking.specs.Steps.{StepOf}
use Rattle.judging.specs.Watched.{Watch}
use Rattle.std.specs.Prelude.{Some, None, Result, Ok}
use Rattle.judging.specs.Watched.{node_state, node_flag, covers, watched_bits, gives_watched, watched_fault, node_fault, node_after}
use Rattle.judging.specs.Searched.{WatchedStepIs}
use Rattle.judging.proofs.Runs.{mark_at}

-- What is watched is given exactly where the registers that a transition gives share a bit with it.
one_free : (taken : List Bool) (r : ℕ) → free_run taken r 1 ≡ not (get_or taken r false)
unfolding free_run
one_free taken r = elim (either (get_or taken r false)) [ inl t ↦ rw (t, free_run) | inr t ↦ rw (t, free_run) ]

module _ (x : Transition) (run : x.form ≡ 1 → x.a + x.b ≤ 16) where
  new : (r : Reg) → get_or (given_after x no_registers) r.0 false ≡ eqb x.form 1 && covers x.a x.b r
  new r = elim (either (eqb x.form 1)) [
    | inl f ↦ rw f (mark_at no_registers x.a x.b r (run (eqb-true _ 1 f)) ∙ rw (none_taken 16 r.0))
    | inr f ↦ rw f (none_taken 16 r.0)
  ]

  pub gives_is : (watch : Watch) (bits gives : ℕ) → ((r : Reg) → watch ≡ Some r → r.0 < 16) → bits ≡ watched_bits watch → set_of 16 gives ≡ given_after x (set_of 16 0)
      → not (eqb (bit_and gives bits) 0) ≡ gives_watched x watch
  unfolding watched_bits gives_watched
  gives_is None bits gives below eb e = rw (eb, and_zero_r gives)
  gives_is (Some r) bits gives below eb e =
      let free : eqb (bit_and gives (run_bits r.0 1)) 0 ≡ not (eqb x.form 1 && covers x.a x.b r)
      = free_set 16 gives r.0 1 (omega (arith, below r refl)) ∙ (one_free (set_of 16 gives) r.0 ∙ rw (e, set_none 16, new r)) in
      rw (eb, free) (not-not (eqb x.form 1 && covers x.a x.b r))

-- What is watched is fault 2 where it is given once more; any other fault is there where nothing was given, too.
module _ (h : Head) (shape : Shape) (x : Transition) (again : Bool) where
  pub fault_again : again ≡ true → 2 ≡ watched_fault h shape x again
  unfolding watched_fault
  fault_again e = rw e

  pub fault_else : (fault : ℕ) → again ≡ false → fault ≡ table_fault h shape x (set_of 16 0) → fault ≡ watched_fault h shape x again
  unfolding watched_fault
  fault_else fault e q = rw (e, ← set_none 16) q

-- One of a table, from a node: its fault, or the node that it leads to.
module _ (table : Table) (t : List ℕ) (node k : ℕ) (step : Step) (of : StepOf table t (node_state node) k step)
    (watch : Watch) (r : Result ℕ Fault) (is : WatchedStepIs step watch (node_flag node) r) where
  pub step_fault : fault_of r ≡ node_fault table t watch node k
  unfolding node_fault
  step_fault = is.faults ∙ rw (of.head, of.shape, of.x)

  pub step_after : (next : ℕ) → r ≡ Ok next → next ≡ node_after table t watch node k
  unfolding node_after
  step_after next e = is.after next e ∙ rw of.x
