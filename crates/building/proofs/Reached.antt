-- What the exploration meets is what lists of the sheet's kinds reach by the rules: so number 11 is given exactly when those are more states than the limit.
use Prim.Native.Nat.{ℕ, ◌<◌}
use mathlib.Core.Path.{◌≡◌, refl, sym, subst, ◌∙◌}
use mathlib.Core.Logic.{◌↔◌}
use mathlib.Core.List.{List, [], ◌∷◌}
use native.Mathlib.Nat.{zero-mod}
use lib.ListN.{length}
use Rattle.convention.specs.declared.Sheet.{Sheet}
use Rattle.convention.specs.declared.Allocation.{Allocation}
use Rattle.convention.specs.declared.ByRules.{ByRules}
use Rattle.convention.specs.Lists.{fault_from, state_from, KindsBelow}
use Rattle.convention.specs.Rules.{by_rules}
use Rattle.convention.specs.Explored.{Automaton, Leads}
use Rattle.convention.specs.Built.{allocation, allocations, built_states}
use Rattle.convention.specs.Promised.{SheetRead}
use Rattle.convention.proofs.Numbers.{or_zero, or_on}
use Rattle.convention.proofs.Reaching.{more_than}
use Rattle.building.specs.Reached.{Reaches, ReachMore}
use Rattle.building.proofs.Allocations.{allocations_decide, goes_placed, next_after}

module _ (sheet : Sheet) (R : SheetRead sheet) where
  abbrev X : Automaton
  X = allocations sheet

  abbrev stands : ByRules → Allocation
  stands = allocation sheet.head.modulus

  -- A list leads from the allocation state of s to a exactly where the rules place it from s, and then stand in a.
  leads_placed : (s : ByRules) (ks : List ℕ) (a : Allocation) → Leads X (stands s) ks a
      → KindsBelow sheet.head.kinds ks × (fault_from (by_rules sheet) s ks ≡ 0) × (stands (state_from (by_rules sheet) s ks) ≡ a)
  unfolding Leads KindsBelow fault_from state_from
  leads_placed s [] a h = (tt, refl, h)
  leads_placed s (k ∷ ks) a h =
      let rest = leads_placed ((by_rules sheet).after s k) ks a (rw (next_after sheet R s k h.0) at h.2) in
      ((h.0, rest.0), or_on _ _ ((goes_placed sheet R s k h.0).0 h.1) ∙ rest.1, rest.2)

  placed_leads : (s : ByRules) (ks : List ℕ) (a : Allocation) → KindsBelow sheet.head.kinds ks → fault_from (by_rules sheet) s ks ≡ 0
      → stands (state_from (by_rules sheet) s ks) ≡ a → Leads X (stands s) ks a
  unfolding Leads KindsBelow fault_from state_from
  placed_leads s [] a b f e = e
  placed_leads s (k ∷ ks) a b f e =
      let both = or_zero ((by_rules sheet).fault s k) _ f in
      let rest = placed_leads ((by_rules sheet).after s k) ks a b.1 both.1 e in
      (b.0, (goes_placed sheet R s k b.0).1 both.0, rw (next_after sheet R s k b.0) rest)

  -- So what a list leads to from the first allocation state is what it reaches.
  first : X.start ≡ stands (by_rules sheet).begin
  first = rw zero-mod

  leads_reaches : (ks : List ℕ) (a : Allocation) → Leads X X.start ks a → Reaches sheet ks a
  leads_reaches ks a h =
      let all = leads_placed (by_rules sheet).begin ks a (subst (λ (x : Allocation). Leads X x ks a) first h) in
      record { known = all.0; placed = all.1; stands = all.2 }

  reaches_leads : (ks : List ℕ) (a : Allocation) → Reaches sheet ks a → Leads X X.start ks a
  reaches_leads ks a r =
      subst (λ (x : Allocation). Leads X x ks a) (sym first) (placed_leads (by_rules sheet).begin ks a r.known r.placed r.stands)

  -- Number 11: the states met are more than the limit exactly when lists reach more.
  pub eleven : (limit : ℕ) → limit < length (built_states limit sheet) ↔ ReachMore limit sheet
  eleven limit = (there, back)
    where
      there : limit < length (built_states limit sheet) → ReachMore limit sheet
      there h =
          let r = (more_than X (allocations_decide sheet) limit).0 h in
          record {
            states = r.nodes;
            different = r.different;
            reached = λ i o. let q = r.reached i o in (q.0, leads_reaches q.0 _ q.1);
            more = r.more;
          }

      back : ReachMore limit sheet → limit < length (built_states limit sheet)
      back r = (more_than X (allocations_decide sheet) limit).1 (record {
        nodes = r.states;
        different = r.different;
        reached = λ i o. let q = r.reached i o in (q.0, reaches_leads q.0 _ q.1);
        more = r.more;
      })
