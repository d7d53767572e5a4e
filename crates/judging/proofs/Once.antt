-- Why a register that is never given twice need not be watched: a list that ends faulty where it is watched ends faulty where nothing is.
use Prim.Native.Nat.{ℕ}
use mathlib.Core.Path.{◌≡◌, refl, sym, ◌∙◌}
use mathlib.Core.Logic.{inl, inr}
use mathlib.Core.Bool.{Bool, true, false, not, ◌&&◌, and-eq-true_iff}
use mathlib.Core.List.{List, [], ◌∷◌}
use lib.ListN.{get_or}
use borrow.Author.Tests.{eqb-true, eq-eqb}
use Rattle.convention.specs.declared.Head.{Head}
use Rattle.convention.specs.declared.Reg.{Reg}
use Rattle.convention.specs.declared.Shape.{Shape}
use Rattle.convention.specs.declared.Table.{Table}
use Rattle.convention.specs.declared.Transition.{Transition}
use Rattle.convention.specs.declared.ByTable.{ByTable}
use Rattle.convention.specs.Numbers.{unless}
use Rattle.convention.specs.Tables.{table_kind, transition}
use Rattle.convention.specs.Lists.{fault_from, state_from, KindsBelow}
use Rattle.convention.specs.Walked.{by_table, walk_begin}
use Rattle.convention.specs.Explored.{Leads}
use Rattle.convention.specs.Promised.{TableRead}
use Rattle.convention.proofs.Numbers.{or_zero}
use Rattle.convention.proofs.Runs.{either}
use Rattle.convention.proofs.Leading.{leads_below}
use Rattle.walking.proofs.Given.{Walking, begin_walking, step_walking}
use Rattle.certifying.specs.Certified.{own_fault, by_itself, Gives, NeverTwice}
use Rattle.judging.specs.Watched.{Watch}
use Rattle.std.specs.Prelude.{Some, None}
use Rattle.judging.specs.Watched.{gives_watched, watched_fault, watched}
use Rattle.judging.proofs.Runs.{run_in}
use Rattle.judging.proofs.Watched.{node_at, node_fault_lem, none_among, step_tied, EndsFaulty}

-- A step that is clean where something is watched has no fault by itself.
own_clean : (h : Head) (shape : Shape) (x : Transition) (again : Bool) → watched_fault h shape x again ≡ 0 → own_fault h shape x ≡ 0
unfolding watched_fault
own_clean h shape x again e = (or_zero (unless (not again) 2) _ e).1

-- A transition that gives what is watched gives that register.
gives_run : (x : Transition) (r : Reg) → gives_watched x (Some r) ≡ true → Gives x r.0
unfolding gives_watched
gives_run x r e =
    let (form, covered) = (and-eq-true_iff _ _).0 e in
    let (from, to) = run_in x.a x.b r covered in
    (eqb-true _ 1 form, from, to)

module _ (limit : ℕ) (table : Table) (t : List ℕ) (read : TableRead limit table t) where
  -- A list that leads somewhere in a watched walk has no fault by itself at any step, and leads to the node of the state after it.
  own_along : (watch : Watch) (s : ByTable) (ks : List ℕ) (node : ℕ) → Walking table s → Leads (watched table t watch) (node_at watch s) ks node
      → (fault_from (by_itself table t) s ks ≡ 0) × (node_at watch (state_from (by_itself table t) s ks) ≡ node)
  unfolding Leads fault_from state_from
  own_along watch s [] node w leads = (refl, leads)
  own_along watch s (k ∷ ks) node w (below, goes, leads) =
      let own = own_clean table.head (table_kind table k) (transition table t s.state k) _ (sym (node_fault_lem table t watch s k) ∙ eqb-true _ 0 goes) in
      let (e, there) = own_along watch ((by_table table t).after s k) ks node (step_walking limit table t read s k w below)
      (rw (step_tied limit table t read s w k below watch) at leads) in
      (rw own e, there)

  -- A list without a fault by itself at any step leads there where nothing is watched.
  own_leads : (s : ByTable) (ks : List ℕ) → Walking table s → KindsBelow table.head.kinds ks → fault_from (by_itself table t) s ks ≡ 0
      → Leads (watched table t None) (node_at None s) ks (node_at None (state_from (by_itself table t) s ks))
  unfolding Leads KindsBelow fault_from state_from watched_fault
  own_leads s [] w known e = refl
  own_leads s (k ∷ ks) w known e =
      let both = or_zero _ _ e in
      let later = own_leads ((by_table table t).after s k) ks (step_walking limit table t read s k w known.0) known.1 both.1 in
      (known.0, eq-eqb _ 0 (node_fault_lem table t None s k ∙ both.0), rw (step_tied limit table t read s w k known.0 None) later)

  module _ (r : Reg) (once : NeverTwice table t r.0) (ks : List ℕ) (k : ℕ) (f : EndsFaulty table t (Some r) ks k) where
    abbrev s : ByTable
    s = state_from (by_itself table t) walk_begin ks

    abbrev x : Transition
    x = transition table t s.state k

    known : KindsBelow table.head.kinds ks
    known = leads_below (watched table t (Some r)) 0 ks f.node f.leads

    along : (fault_from (by_itself table t) walk_begin ks ≡ 0) × (node_at (Some r) s ≡ f.node)
    along = own_along (Some r) walk_begin ks f.node (begin_walking limit table t read) (rw (none_among (Some r)) f.leads)

    new : get_or s.given r.0 false && gives_watched x (Some r) ≡ false
    unfolding NeverTwice
    new = elim (either (get_or s.given r.0 false && gives_watched x (Some r))) [
      | inl y ↦
          let (given, gives) = (and-eq-true_iff _ _).0 y in
          absurd (once ks k known f.below along.0 given (gives_run x r gives))
      | inr n ↦ n
    ]

    pub once_ends : EndsFaulty table t None ks k
    once_ends = record {
      node = node_at None s;
      leads = own_leads walk_begin ks (begin_walking limit table t read) known along.0;
      below = f.below;
      faulty = rw (node_fault_lem table t None s k) (rw (← along.1, node_fault_lem table t (Some r) s k, new) at f.faulty);
    }
