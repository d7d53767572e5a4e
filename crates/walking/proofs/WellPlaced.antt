-- A list goes right exactly where no step of it has a fault. Where no step has one, the walk's places are right and share nothing (proofs/Given.antt). For the other
-- way, a register that is marked as given belongs to an earlier argument's place, so a step whose place is right and shares nothing with those has no fault.
use Prim.Native.Nat.{ℕ, suc, ◌+◌, ◌<◌}
use mathlib.Core.Path.{◌≡◌, refl, sym, ◌∙◌}
use mathlib.Core.Logic.{◌⊎◌, inl, inr, ◌↔◌}
use mathlib.Core.Bool.{Bool, true, false, true≢false}
use mathlib.Core.List.{List, [], ◌∷◌}
use native.Mathlib.Decide.{dec_le, dec_lt}
use native.Mathlib.Omega.{arith}
use lib.ListN.{length, get_or}
use borrow.Author.Tests.{eq-eqb}
use Rattle.convention.specs.declared.Table.{Table}
use Rattle.convention.specs.declared.Shape.{Shape}
use Rattle.convention.specs.declared.Transition.{Transition}
use Rattle.convention.specs.declared.ByTable.{ByTable}
use Rattle.convention.specs.declared.Placement.{Placement}
use Rattle.convention.specs.declared.Placement.TheVariants.{Registers, Stack, Nowhere}
use Rattle.convention.specs.Tables.{table_kind, table_of, transition}
use Rattle.convention.specs.Rules.{free_run, place_taken}
use Rattle.convention.specs.Lists.{fault_from, places_from, KindsBelow}
use Rattle.convention.specs.Walked.{table_after, by_table}
use Rattle.convention.specs.Judged.{list_fault}
use Rattle.convention.specs.WellPlaced.{HasRegister, Share, Right, WellPlaced}
use Rattle.convention.specs.Promised.{TableRead}
use Rattle.convention.proofs.Numbers.{or_on, unless_true}
use Rattle.convention.proofs.Offsets.{offset_residue}
use Rattle.convention.proofs.Promised.{known_divides, known_residue}
use Rattle.convention.proofs.Walked.{step_cases}
use Rattle.convention.proofs.Runs.{either, none_taken, free_some, mark_out}
use Rattle.walking.proofs.Given.{Walking, begin_walking, step_walking, places_right, table_apart}

-- What is taken once a place was given out is the place's, or was taken before.
taken_whose : (place : Placement) (taken : List Bool) (r : ℕ) → get_or (place_taken place taken) r false ≡ true
    → HasRegister place r ⊎ (get_or taken r false ≡ true)
taken_whose (Registers first count) taken r e = elim (dec_le first.0 r) [
  | yes l ↦ elim (dec_lt r (first.0 + count)) [
    | yes u ↦ inl (l, u)
    | no u ↦ inr (sym (mark_out taken first.0 count r (λ _ o. u o)) ∙ e)
  ]
  | no l ↦ inr (sym (mark_out taken first.0 count r (λ o _. l o)) ∙ e)
]
taken_whose (Stack offset count) taken r e = inr e
taken_whose Nowhere taken r e = inr e

module _ (limit : ℕ) (table : Table) (t : List ℕ) (read : TableRead limit table t) where
  -- A step whose place is right and has no register that was given before has no fault.
  module _ (s : ByTable) (k : ℕ) (good : Walking table s) (below : k < table.head.kinds) where
    abbrev x : Transition
    x = transition table t s.state k

    abbrev kind : Shape
    kind = table_kind table k

    right_faultless : Right table.head kind ((by_table table t).place s k)
        → ((r : ℕ) → HasRegister ((by_table table t).place s k) r → get_or s.given r false ≡ true → ⊥) → (by_table table t).fault s k ≡ 0
    unfolding Right
    right_faultless fit free = elim (step_cases table.head x) [
      | inl r ↦ rw (r.fault kind s.given) (elim (either (free_run s.given x.a x.b)) [
        | inl o ↦ or_on _ _ (unless_true _ 2 o) ∙ unless_true _ 3 (rw (r.place s.p.0) at fit).1
        | inr o ↦ let (q, l, u, given) = free_some s.given x.a x.b o in absurd ((rw (r.place s.p.0) at free) q (l, u) given)
      ])
      | inr (inl r) ↦
          let (size, multiple) = rw (r.place s.p.0) at fit in
          let residue = known_residue limit table t read k below s.state good.known r.form in
          let stored = offset_residue kind.alignment table.head.modulus x.a s.p.0 residue (known_divides limit table t read k below) in
          rw (r.fault kind s.given) (or_on _ _ (unless_true _ 3 (eq-eqb _ _ size)) ∙ unless_true _ 4 (eq-eqb _ 0 (sym stored ∙ multiple)))
      | inr (inr r) ↦ absurd (rw (r.place s.p.0) at fit)
    ]

  -- From a state in which the given registers belong to the places of earlier arguments, a list whose places are right and share nothing with those, nor with one
  -- another, has no fault.
  faultless : (Earlier : Placement → Type 0) (s : ByTable) (ks : List ℕ) → Walking table s → KindsBelow table.head.kinds ks
      → ((r : ℕ) → get_or s.given r false ≡ true → (a : Placement) × Earlier a × HasRegister a r)
      → ((i : ℕ) → i < length ks → Right table.head (table_kind table (get_or ks i 0)) (get_or (places_from (by_table table t) s ks) i Nowhere))
      → ((a : Placement) → Earlier a → (i : ℕ) → i < length ks → Share a (get_or (places_from (by_table table t) s ks) i Nowhere) → ⊥)
      → ((i j : ℕ) → i < j → j < length ks
      → Share (get_or (places_from (by_table table t) s ks) i Nowhere) (get_or (places_from (by_table table t) s ks) j Nowhere) → ⊥)
      → fault_from (by_table table t) s ks ≡ 0
  unfolding KindsBelow fault_from places_from table_after
  faultless Earlier s [] good below whose fit old new = refl
  faultless Earlier s (k ∷ ks) good below whose fit old new =
      or_on _ _ (right_faultless s k good below.0 (fit 0 (omega arith)) (λ r has given. let (a, earlier, had) = whose r given in old a earlier 0 (omega arith) (inl (r, had, has))))
      ∙ faultless (λ a. Earlier a ⊎ (a ≡ (by_table table t).place s k)) ((by_table table t).after s k) ks (step_walking limit table t read s k good below.0) below.1
      whose'
      (λ i h. fit (suc i) (omega arith))
      (λ a earlier i h. elim earlier [ inl e ↦ old a e (suc i) (omega arith) | inr e ↦ rw e (new 0 (suc i) (omega arith) (omega arith)) ])
      (λ i j l h. new (suc i) (suc j) (omega arith) (omega arith))
    where
      whose' : (r : ℕ) → get_or (place_taken ((by_table table t).place s k) s.given) r false ≡ true
          → (a : Placement) × (Earlier a ⊎ (a ≡ (by_table table t).place s k)) × HasRegister a r
      whose' r e = elim (taken_whose ((by_table table t).place s k) s.given r e) [
        | inl has ↦ ((by_table table t).place s k, inr refl, has)
        | inr given ↦ let (a, earlier, had) = whose r given in (a, inl earlier, had)
      ]

-- A list of known kinds has no faulty step exactly where it goes right.
pub well_placed : (limit : ℕ) (t ks : List ℕ) → TableRead limit (table_of t) t → KindsBelow (table_of t).head.kinds ks
    → (list_fault t ks ≡ 0) ↔ WellPlaced t ks
well_placed limit t ks read below = (
  λ e. record { right = places_right limit (table_of t) t read ks below e; apart = table_apart limit (table_of t) t read ks below e },
  λ w. faultless limit (table_of t) t read (λ a. ⊥) _ ks (begin_walking limit (table_of t) t read) below
      (λ r e. absurd (true≢false (sym e ∙ none_taken 16 r))) w.right (λ a never. absurd never) w.apart,
)
