-- Going through a list for its fault alone, by the state and the given registers: before the first argument, at the next one, at one with a fault, after one without, and
-- after the last.
use Prim.Native.Nat.{ℕ, ◌+◌, ◌≤◌, ◌<◌}
use mathlib.Core.Path.{◌≡◌, refl, sym, ◌∙◌}
use mathlib.Core.Bool.{Bool}
use mathlib.Core.List.{List}
use lib.ListN.{length, get_or, drop}
use Rattle.convention.specs.declared.Table.{Table}
use Rattle.convention.specs.declared.ByTable.{ByTable}
use Rattle.convention.specs.declared.Fault.{Fault}
use Rattle.convention.specs.Results.{fault_number}
use Rattle.convention.proofs.Results.{fault_some}
use Rattle.stepping.specs.Sets.{set_of}
use Rattle.stepping.proofs.Sets.{set_none}
use Rattle.convention.specs.Lists.{fault_from, unknown_at}
use Rattle.convention.specs.Tables.{transition}
use Rattle.convention.specs.Walked.{table_fault, by_table, walk_begin}
use Rattle.convention.proofs.Lists.{known, fault_turn, fault_hit, fault_end}
use Rattle.table.specs.Within.{InTable}
use Rattle.convention.proofs.Walked.{step_next, step_gives, fault_any_p}
use Rattle.walking.specs.declared.step.Step.{Step}
use Rattle.walking.specs.TableSteps.{Faulting, given_after}
use Rattle.walking.specs.Steps.{StepOf}

module _ (table : Table) (t ks : List ℕ) where
  pub faulting_begin : 1 ≤ table.states → Faulting table t ks 0 (set_of 16 0) 0
  faulting_begin some = rw (set_none 16) (record { inside = some; fault = refl })

  module _ (state : ℕ) (given : List Bool) (i : ℕ) (faulting : Faulting table t ks state given i) where
    pub faulting_inside : unknown_at table.head.kinds ks ≡ length ks → i < length ks → InTable table state (get_or ks i 0)
    faulting_inside listed h = record { state = faulting.inside; kind = known table.head.kinds ks listed i h }

    module _ (h : i < length ks) (step : Step) (of : StepOf table t state (get_or ks i 0) step) where
      abbrev here : ByTable
      here = record { state = state; given = given; p = record { 0 = 0 } }

      found : (n : ℕ) → n ≡ table_fault step.head step.shape step.x given → n ≡ (by_table table t).fault here (get_or ks i 0)
      found n e = rw (of.x, of.shape, of.head) at e

      pub faulting_hit : (fault : Fault) → fault_number fault ≡ table_fault step.head step.shape step.x given → fault_number fault ≡ fault_from (by_table table t) walk_begin ks
      faulting_hit fault e =
          let first = found (fault_number fault) e in
          first ∙ (sym (fault_hit (by_table table t) here ks i h (rw (← first) (fault_some fault))) ∙ faulting.fault)

      next : step.x.next ≡ ((by_table table t).after here (get_or ks i 0)).state
      next = rw (step_next, of.x)

      gives : given_after step.x given ≡ ((by_table table t).after here (get_or ks i 0)).given
      gives = rw of.x (sym (step_gives table.head (transition table t state (get_or ks i 0)) here))

      pub faulting_on : (more : List Bool) → 0 ≡ table_fault step.head step.shape step.x given → more ≡ given_after step.x given → Faulting table t ks step.x.next more (i + 1)
      faulting_on more e em = record {
        inside = of.allowed.next;
        fault = rw em (
            fault_any_p table t _ ((by_table table t).after here (get_or ks i 0)) (drop (i + 1) ks) next gives
            ∙ (sym (fault_turn (by_table table t) here ks i h (sym (found 0 e))) ∙ faulting.fault)
            );
      }

    pub faulting_end : length ks ≤ i → 0 ≡ fault_from (by_table table t) walk_begin ks
    faulting_end h = sym (fault_end (by_table table t) _ ks i h) ∙ faulting.fault
