-- Laws of a list's fronts: a faulty list has its first fault at the last kind of a front of it, and no front of a list is after the list.
use Prim.Native.Nat.{ℕ, suc, ◌≤◌, ◌<◌}
use native.Mathlib.Nat.{eq-zero-or-pos, suc-pred-eq_of_pos, eq-or-lt_of_le}
use native.Mathlib.Omega.{arith}
use mathlib.Core.Path.{◌≡◌, refl}
use mathlib.Core.Logic.{inl, inr}
use mathlib.Core.List.{List, [], ◌∷◌, ◌++◌}
use lib.ListN.{length, get_or, take}
use lib.Seq.{take-suc, take-length, length-take-le}
use Rattle.convention.specs.Lists.{Steps, fault_from, stop_from, state_from}
use Rattle.convention.specs.Orders.{Before, NotAfter}
use Rattle.convention.proofs.Numbers.{or_here}
use Rattle.convention.proofs.Lists.{fault_append}

-- A front is before the list, or the whole of it.
pub front_before : (n : ℕ) (ks : List ℕ) → n < length ks → Before (take n ks) ks
unfolding Before
front_before n ks h = inl (rw (length-take-le n ks (omega arith)) h)

pub front_not_after : (n : ℕ) (ks : List ℕ) → n ≤ length ks → NotAfter (take n ks) ks
front_not_after n ks h = elim (eq-or-lt_of_le h) [ inl e ↦ inl (rw (e, take-length)) | inr l ↦ inr (front_before n ks l) ]

-- A list whose last step is faulty, where nothing before it is, is faulty.
pub snoc_faulty : (M : Steps) (s : M.State) (ks : List ℕ) (k : ℕ) → (fault_from M s ks ≡ 0 → 0 < M.fault (state_from M s ks) k)
    → 0 < fault_from M s (ks ++ k ∷ [])
unfolding fault_from
snoc_faulty M s ks k f = rw (fault_append M s ks (k ∷ [])) (elim (eq-zero-or-pos (fault_from M s ks)) [
  | inl e ↦ rw (e, or_here (M.fault (state_from M s ks) k) 0 (f e)) (f e)
  | inr p ↦ rw (or_here (fault_from M s ks) _ p) p
])

-- The first n kinds of a list have no fault, and kind n, counted from 0, has one.
pub record FaultAt (M : Steps) (s : M.State) (ks : List ℕ) (n : ℕ) : Type 0 where
  pub inside : n < length ks
  pub clean : fault_from M s (take n ks) ≡ 0
  pub faulty : 0 < M.fault (state_from M s (take n ks)) (get_or ks n 0)

-- The walk over a faulty list stops at such a kind.
pub stops : (M : Steps) (s : M.State) (ks : List ℕ) → 0 < fault_from M s ks → FaultAt M s ks (stop_from M s ks)
unfolding fault_from stop_from state_from
stops M s [] f = absurd (omega arith)
stops M s (k ∷ ks) f = elim (eq-zero-or-pos (M.fault s k)) [
  | inl e ↦
      let later = stops M (M.after s k) ks (rw e at f) in
      rw (e, stop_from) (record { inside = omega (arith, later.inside); clean = rw e later.clean; faulty = later.faulty })
  | inr p ↦ rw (← suc-pred-eq_of_pos p, stop_from) (record { inside = omega arith; clean = refl; faulty = p })
]

-- The front that ends with that kind is faulty.
pub stop_faulty : (M : Steps) (s : M.State) (ks : List ℕ) → 0 < fault_from M s ks → 0 < fault_from M s (take (suc (stop_from M s ks)) ks)
stop_faulty M s ks f = let i = stops M s ks f in rw (take-suc ks _ 0 i.inside) (snoc_faulty M s _ _ (λ _. i.faulty))
