-- A transition that was made stays right: what was met keeps its number, so the number at the time of meeting is that in the built table.
use Prim.Native.Nat.{ℕ, suc, ◌<◌}
use mathlib.Core.Path.{◌≡◌, refl, sym, ap, ◌∙◌}
use mathlib.Core.Logic.{inl, inr}
use mathlib.Core.Bool.{true}
use mathlib.Core.List.{List}
use native.Mathlib.Omega.{arith}
use lib.ListN.{length}
use borrow.Author.Tests.{eqb-false}
use Rattle.convention.specs.declared.Sheet.{Sheet}
use Rattle.convention.specs.declared.Allocation.{Allocation}
use Rattle.convention.specs.declared.Placement.{Placement}
use Rattle.convention.specs.declared.Placement.TheVariants.{Registers, Stack, Nowhere}
use Rattle.convention.specs.Tables.{transition_bytes}
use Rattle.convention.specs.Rules.{place_fault, by_rules}
use Rattle.convention.specs.Explored.{Automaton, Entry, entry, number, met_from, met, met_up_to}
use Rattle.convention.specs.Scanned.{Tree}
use Rattle.convention.specs.Built.{from_allocation, allocations, made, built_cell}
use Rattle.convention.proofs.Runs.{either}
use Rattle.convention.proofs.Numbering.{Decides, node_number, number_of, Grows, met_from_grows, up_to_there, up_to_grows}
use Rattle.convention.proofs.Scanning.{met_scanned, up_to_scanned}
use Rattle.convention.proofs.Exploring.{number_entry}
use Rattle.building.proofs.Allocations.{allocations_decide}

module _ (X : Automaton) (D : Decides X) where
  -- A node that was met keeps its number where more is met.
  number_stays : (l l' : List (Entry X)) (s : X.Node) → Tree X l' → Grows X l l' → number X l s < length l → number X l s ≡ number X l' s
  number_stays l l' s tree g h =
      let r = number X l s in
      let there : (entry X l' r).node ≡ s = ap (λ (e : Entry X). e.node) (g.entry_stays r h) ∙ node_number X D l s h in
      sym (number_entry X l' tree D r (omega (arith, g.longer))) ∙ ap (number X l') there

  -- What kind k leads to from entry i was met once kind k was gone through.
  module _ (i k : ℕ) (h : i < length (met X i)) (b : k < X.kinds) where
    abbrev node : X.Node
    node = (entry X (met X i) i).node

    next_met : X.goes node k ≡ true → number X (met_up_to X i (suc k)) (X.next node k) < length (met_up_to X i (suc k))
    unfolding met_from
    next_met w =
        let l = met_up_to X i (suc k) in
        let same : (entry X l i).node ≡ node = ap (λ (e : Entry X). e.node) ((met_from_grows X (met X i) node i 0 (suc k) (omega arith)).entry_stays i h) in
        let m = (up_to_scanned X D i (suc k) h b).all i k (inr (refl, omega arith)) (up_to_there X i h (suc k)) b (rw same w) in
        omega (arith, m.inside, number_of X D l (X.next node k) m.place m.inside (sym (rw same at m.node)))

    -- So it has the number that it has in the end.
    pub next_stays : (n : ℕ) → i < n → X.goes node k ≡ true → number X (met_up_to X i (suc k)) (X.next node k) ≡ number X (met X n) (X.next node k)
    next_stays n o w =
        number_stays (met_up_to X i (suc k)) (met X n) (X.next node k) (met_scanned X D n).tree (up_to_grows X i h (suc k) n b o) (next_met w)

-- Where there is no place, no number counts.
pub nowhere_made : (modulus : ℕ) (place : Placement) (next next' : ℕ) → (place_fault place ≡ 0 → ⊥) → made modulus place next ≡ made modulus place next'
nowhere_made modulus (Registers first count) next next' f = absurd (f refl)
nowhere_made modulus (Stack offset count) next next' f = absurd (f refl)
nowhere_made modulus Nowhere next next' f = refl

-- The transition of kind k at entry i, which is a, is that of the built table.
pub cell_stays : (v : ℕ) (sheet : Sheet) (i k n : ℕ) (a : Allocation) → i < length (met (allocations sheet) i) → k < sheet.head.kinds → i < n
    → (entry (allocations sheet) (met (allocations sheet) i) i).node ≡ a
    → built_cell v sheet (met_from (allocations sheet) (met (allocations sheet) i) a i (suc k)) a k ≡ built_cell v sheet (met (allocations sheet) n) a k
unfolding built_cell
cell_stays v sheet i k n a h b o e = rw (← e) (elim (either ((allocations sheet).goes here k)) [
  | inl w ↦ ap (λ next. transition_bytes v (made sheet.head.modulus place next)) (next_stays (allocations sheet) (allocations_decide sheet) i k h b n o w)
  | inr f ↦ ap (transition_bytes v) (nowhere_made sheet.head.modulus place _ _ (eqb-false _ 0 f))
])
  where
    here : Allocation
    here = (entry (allocations sheet) (met (allocations sheet) i) i).node

    place : Placement
    place = (by_rules sheet).place (from_allocation here) k
