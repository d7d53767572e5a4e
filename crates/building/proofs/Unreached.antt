-- Every state of a built table is reached in the table, since its allocation state was met from one with a lower number, by a kind.
use Prim.Native.Nat.{ℕ, ◌<◌}
use mathlib.Core.Path.{◌≡◌, refl, sym, ap, subst, ◌∙◌}
use mathlib.Core.Bool.{true}
use mathlib.Core.List.{List, [], ◌∷◌, ◌++◌}
use native.Mathlib.Omega.{arith}
use lib.Dec.{ltb}
use lib.ListN.{length}
use borrow.Author.Tests.{eqb-true, lt-ltb}
use Rattle.convention.specs.declared.Head.{Head}
use Rattle.convention.specs.declared.Sheet.{Sheet}
use Rattle.convention.specs.declared.Placement.{Placement}
use Rattle.convention.specs.Tables.{table_of}
use Rattle.convention.specs.Rules.{by_rules}
use Rattle.convention.specs.Explored.{Automaton, Entry, entry, number, Leads}
use Rattle.convention.specs.Built.{from_allocation, allocations, built_states, built_table}
use Rattle.convention.specs.Reached.{Reached, table_states}
use Rattle.convention.proofs.Leading.{leads_snoc}
use Rattle.convention.specs.Scanned.{Tree}
use Rattle.convention.proofs.Scanning.{met_scanned}
use Rattle.convention.proofs.Exploring.{number_entry, by_parents}
use Rattle.building.proofs.Allocations.{allocations_decide}
use Rattle.building.proofs.Readable.{made_form, made_next, built_head, built_states_lem, built_transition_lem}

module _ (limit : ℕ) (sheet : Sheet) where
  abbrev X : Automaton
  X = allocations sheet

  abbrev Y : Automaton
  Y = table_states (built_table limit sheet)

  abbrev l : List (Entry X)
  l = built_states limit sheet

  -- Where a kind leads from one allocation state to another, its transition leads from the one's number to the other's.
  module _ (i k : ℕ) (h : i < length l) (b : k < sheet.head.kinds) (g : X.goes (entry X l i).node k ≡ true) where
    abbrev place : Placement
    place = (by_rules sheet).place (from_allocation (entry X l i).node) k

    abbrev next : ℕ
    next = number X l (X.next (entry X l i).node k)

    table_goes : Y.goes i k ≡ true
    table_goes =
        ap (λ x. ltb 0 x.form) (built_transition_lem _ sheet l i k h b)
        ∙ lt-ltb 0 _ (made_form sheet.head.modulus place next (eqb-true _ 0 g))

    table_next : Y.next i k ≡ next
    table_next = ap (λ x. x.next) (built_transition_lem _ sheet l i k h b) ∙ made_next sheet.head.modulus place next (eqb-true _ 0 g)

  tree : Tree X l
  tree = (met_scanned X (allocations_decide sheet) limit).tree

  -- So a state is reached where the one is from which it was met.
  child_reached : (i : ℕ) → 0 < i → i < length l → Reached Y (entry X l i).parent → Reached Y i
  child_reached i o h r =
      let c = tree.child i h o in
      let p = (entry X l i).parent in
      let k = (entry X l i).kind in
      let inside : p < length l = omega (arith, c.lower) in
      let below = subst (λ (x : Head). k < x.kinds) (sym (built_head _ sheet l)) c.kind_below in
      let leads = leads_snoc Y 0 r.0 p k r.1 below (table_goes p k inside c.kind_below c.goes) in
      let numbered = ap (number X l) (sym c.next) ∙ number_entry X l tree (allocations_decide sheet) i h in
      let there : Y.next p k ≡ i = table_next p k inside c.kind_below c.goes ∙ numbered in
      (r.0 ++ k ∷ [], subst (λ (j : ℕ). Leads Y 0 (r.0 ++ k ∷ []) j) there leads)

  -- A built table has no state that no list of its kinds reaches.
  pub no_unreached : (i : ℕ) → i < (table_of (built_table limit sheet)).states → Reached (table_states (built_table limit sheet)) i
  unfolding Leads
  no_unreached i h = by_parents X l tree (Reached Y) ([], refl) child_reached i (rw (built_states_lem _ sheet l) at h)
