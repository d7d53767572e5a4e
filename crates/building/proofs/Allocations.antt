-- Allocation states: when two are the same, and why the rules go on from one as from every state that stands in it.
use Prim.Native.Nat.{ℕ, ◌%◌, ◌<◌, ◌∣◌}
use mathlib.Core.Path.{◌≡◌, refl, sym, ap, ◌∙◌}
use mathlib.Core.Logic.{◌↔◌}
use mathlib.Core.Bool.{Bool, true, false, false≢true, and-eq-true_iff}
use mathlib.Core.List.{List, [], ◌∷◌}
use native.Mathlib.Nat.{mod-mod}
use lib.Dec.{eqb}
use borrow.Author.Tests.{eqb-true, eq-eqb}
use Rattle.convention.specs.declared.Head.{Head}
use Rattle.convention.specs.declared.Sheet.{Sheet}
use Rattle.convention.specs.declared.SheetKind.{SheetKind}
use Rattle.convention.specs.declared.Allocation.{Allocation}
use Rattle.convention.specs.declared.Placement.{Placement}
use Rattle.convention.specs.declared.Transition.{Transition}
use Rattle.convention.specs.declared.ByRules.{ByRules}
use Rattle.convention.specs.Shapes.{stack_bytes}
use Rattle.convention.specs.Sheets.{sheet_kind}
use Rattle.convention.specs.Rules.{rules_place, rules_after, place_fault, place_taken, place_p, by_rules}
use Rattle.convention.specs.Explored.{Entry, number}
use Rattle.convention.specs.Built.{allocation, from_allocation, same_flags, same_allocation, allocations, made, built_transition}
use Rattle.convention.specs.Promised.{HeadRead, SheetKindRead, SheetRead}
use Rattle.convention.proofs.Offsets.{divides, shift_mod, shift_mod_size}
use Rattle.convention.proofs.Rules.{place_cases}
use Rattle.convention.proofs.Numbering.{Decides}

-- Flags that are the same one by one are the same list.
flags_eq : (xs ys : List Bool) → same_flags xs ys ≡ true → xs ≡ ys
unfolding same_flags
flags_eq [] [] e = refl
flags_eq [] (true ∷ ys) e = absurd (false≢true e)
flags_eq [] (false ∷ ys) e = absurd (false≢true e)
flags_eq (true ∷ xs) [] e = absurd (false≢true e)
flags_eq (false ∷ xs) [] e = absurd (false≢true e)
flags_eq (true ∷ xs) (true ∷ ys) e = ap (λ (l : List Bool). true ∷ l) (flags_eq xs ys e)
flags_eq (true ∷ xs) (false ∷ ys) e = absurd (false≢true e)
flags_eq (false ∷ xs) (true ∷ ys) e = absurd (false≢true e)
flags_eq (false ∷ xs) (false ∷ ys) e = ap (λ (l : List Bool). false ∷ l) (flags_eq xs ys e)

flags_refl : (xs : List Bool) → same_flags xs xs ≡ true
unfolding same_flags
flags_refl [] = refl
flags_refl (true ∷ xs) = flags_refl xs
flags_refl (false ∷ xs) = flags_refl xs

-- The test of two allocation states decides their equality.
pub same_equal : (a b : Allocation) → same_allocation a b ≡ true → a ≡ b
same_equal a b e =
    let both = (and-eq-true_iff (eqb a.remainder b.remainder) (same_flags a.unavailable b.unavailable)).0 e in
    let flags = flags_eq a.unavailable b.unavailable both.1 in
    let rest = eqb-true a.remainder b.remainder both.0 in
    λ i. record { unavailable = flags i; remainder = rest i }

pub same_own : (a : Allocation) → same_allocation a a ≡ true
same_own a = rw (eq-eqb a.remainder a.remainder refl, flags_refl)

pub allocations_decide : (sheet : Sheet) → Decides (allocations sheet)
allocations_decide sheet = record { same_eq = same_equal; same_refl = same_own }

-- One step from s and from its allocation state.
module _ (w A : ℕ) (kind : SheetKind) (s : ByRules) (h : kind.shape.alignment ∣ A) where
  abbrev same : (X : Type 0) → (Placement → ℕ → X) → (ℕ → Placement) → Type 0
  same X f at = f (at (s.p.0 % A)) (s.p.0 % A) ≡ f (at s.p.0) s.p.0

  -- It has the same fault.
  pub same_fault : place_fault (rules_place w kind (from_allocation (allocation A s))) ≡ place_fault (rules_place w kind s)
  same_fault = place_cases w kind s.unavailable (same ℕ (λ place p. place_fault place)) (λ _. refl) (λ _. refl) (λ _. refl)

  -- The transition made of its place is the same.
  pub same_made : (next : ℕ) → made A (rules_place w kind (from_allocation (allocation A s))) next ≡ made A (rules_place w kind s) next
  same_made next =
      place_cases w kind s.unavailable (same Transition (λ place p. made A place next)) (λ _. refl) (λ _. rw (shift_mod kind.shape.alignment A s.p.0 h)) (λ _. refl)

  -- The allocation state after it is the same: so are what it takes, and the remainder of the p after it.
  same_taken : place_taken (rules_place w kind (from_allocation (allocation A s))) s.unavailable ≡ place_taken (rules_place w kind s) s.unavailable
  same_taken = place_cases w kind s.unavailable (same (List Bool) (λ place p. place_taken place s.unavailable)) (λ _. refl) (λ _. refl) (λ _. refl)

  same_remainder : (place_p (rules_place w kind (from_allocation (allocation A s))) (record { 0 = s.p.0 % A })).0 % A ≡ (place_p (rules_place w kind s) s.p).0 % A
  same_remainder =
      place_cases w kind s.unavailable (same ℕ (λ place p. (place_p place (record { 0 = p })).0 % A))
      (λ _. rw mod-mod) (λ _. rw (shift_mod_size kind.shape.alignment A s.p.0 (stack_bytes kind.shape) h)) (λ _. rw mod-mod)

  pub same_after : allocation A (rules_after w kind (from_allocation (allocation A s))) ≡ allocation A (rules_after w kind s)
  unfolding rules_after
  same_after = rw (same_taken, same_remainder)

-- A kind's alignment divides A.
pub alignment_divides : {h : Head} {kind : SheetKind} → HeadRead h → SheetKindRead h kind → kind.shape.alignment ∣ h.modulus
alignment_divides {h} {kind} H K = divides kind.shape.alignment h.modulus K.shape.alignment H.modulus K.shape.within

-- So of a kind of a sheet that was read.
module _ (sheet : Sheet) (R : SheetRead sheet) (s : ByRules) (k : ℕ) (b : k < sheet.head.kinds) where
  abbrev A : ℕ
  A = sheet.head.modulus

  divided : (sheet_kind sheet k).shape.alignment ∣ A
  divided = alignment_divides R.head (R.kind k b)

  -- It leads on from the allocation state of s exactly where the rules find a place in s.
  pub goes_placed : (allocations sheet).goes (allocation A s) k ≡ true ↔ (by_rules sheet).fault s k ≡ 0
  goes_placed =
      let same = same_fault sheet.head.width A (sheet_kind sheet k) s divided in
      (λ g. sym same ∙ eqb-true _ 0 g, λ f. eq-eqb _ 0 (same ∙ f))

  -- It leads to the allocation state after that step.
  pub next_after : (allocations sheet).next (allocation A s) k ≡ allocation A ((by_rules sheet).after s k)
  next_after = same_after sheet.head.width A (sheet_kind sheet k) s divided

  -- Its transition is made of that place.
  pub made_here : (l : List (Entry (allocations sheet)))
      → built_transition sheet l (allocation A s) k
      ≡ made A ((by_rules sheet).place s k) (number (allocations sheet) l (allocation A ((by_rules sheet).after s k)))
  made_here l =
      ap (λ a. made A ((by_rules sheet).place (from_allocation (allocation A s)) k) (number (allocations sheet) l a)) next_after
      ∙ same_made sheet.head.width A (sheet_kind sheet k) s divided _
