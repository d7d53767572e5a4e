-- Two ways of placing that walk in step give the same answers: the same fault at the same argument, the same places before it, and the same p after a list
-- that has none.
use Prim.Native.Nat.{ℕ, zero, suc, ◌*◌, ◌<◌}
use mathlib.Core.Path.{◌≡◌, refl, sym, ap, ◌∙◌}
use mathlib.Core.Logic.{inl, inr}
use mathlib.Core.List.{List, [], ◌∷◌}
use native.Mathlib.Nat.{eq-zero-or-pos, suc-pred-eq_of_pos}
use native.Mathlib.Omega.{arith}
use lib.Dec.{ltb, leb}
use lib.ListN.{length, take}
use borrow.Author.Tests.{ltb-false}
use Rattle.convention.specs.Answers.{PlacingAnswer}
use Rattle.convention.specs.Numbers.{or_else, unless}
use Rattle.convention.specs.Lists.{Steps, fault_from, stop_from, state_from, places_from, record_length, unknown_at, KindsBelow}
use Rattle.convention.specs.Lists.{walk_answer, placed_or_refused, placing, placing_memory}
use Rattle.convention.proofs.Numbers.{or_zero, or_here}
use Rattle.convention.proofs.Lists.{unknown_le, known_below}
use Rattle.convention.proofs.Runs.{either}

-- N walks in step with M over kinds below m: from states that stand together a kind has the same fault and the same place in both, and where it has no fault it
-- leads to states that stand together; and such states have the same p.
pub record InStep (M N : Steps) (m : ℕ) (Together : M.State → N.State → Type 0) : Type 0 where
  pub fault : (s : M.State) (u : N.State) (k : ℕ) → Together s u → k < m → N.fault u k ≡ M.fault s k
  pub place : (s : M.State) (u : N.State) (k : ℕ) → Together s u → k < m → N.place u k ≡ M.place s k
  pub after : (s : M.State) (u : N.State) (k : ℕ) → Together s u → k < m → M.fault s k ≡ 0 → Together (M.after s k) (N.after u k)
  pub p : (s : M.State) (u : N.State) → Together s u → N.p u ≡ M.p s

module _ (M N : Steps) (m : ℕ) (Together : M.State → N.State → Type 0) (S : InStep M N m Together) where
  -- Over a list both have the same fault.
  pub step_fault : (s : M.State) (u : N.State) (ks : List ℕ) → Together s u → KindsBelow m ks → fault_from N u ks ≡ fault_from M s ks
  unfolding fault_from KindsBelow
  step_fault s u [] t b = refl
  step_fault s u (k ∷ ks) t b = rw (S.fault s u k t b.0) (elim (eq-zero-or-pos (M.fault s k)) [
    | inl e ↦ ap (or_else (M.fault s k)) (step_fault (M.after s k) (N.after u k) ks (S.after s u k t b.0 e) b.1)
    | inr f ↦ or_here _ _ f ∙ sym (or_here _ _ f)
  ])

  -- Both walks stop at the same argument.
  pub step_stop : (s : M.State) (u : N.State) (ks : List ℕ) → Together s u → KindsBelow m ks → stop_from N u ks ≡ stop_from M s ks
  unfolding stop_from KindsBelow
  step_stop s u [] t b = refl
  step_stop s u (k ∷ ks) t b = elim (eq-zero-or-pos (M.fault s k)) [
    | inl e ↦ rw (stop_from, S.fault s u k t b.0, e) (ap suc (step_stop (M.after s k) (N.after u k) ks (S.after s u k t b.0 e) b.1))
    | inr f ↦ rw (stop_from, S.fault s u k t b.0, ← suc-pred-eq_of_pos f)
  ]

  -- The places before it are the same.
  pub step_before : (s : M.State) (u : N.State) (ks : List ℕ) → Together s u → KindsBelow m ks
      → take (stop_from N u ks) (places_from N u ks) ≡ take (stop_from M s ks) (places_from M s ks)
  unfolding stop_from places_from KindsBelow
  step_before s u [] t b = refl
  step_before s u (k ∷ ks) t b = elim (eq-zero-or-pos (M.fault s k)) [
    | inl e ↦ rw (stop_from, S.fault s u k t b.0, e, S.place s u k t b.0, step_before (M.after s k) (N.after u k) ks (S.after s u k t b.0 e) b.1)
    | inr f ↦ rw (stop_from, S.fault s u k t b.0, ← suc-pred-eq_of_pos f)
  ]

  -- Over a list without a fault all places are the same.
  pub step_places : (s : M.State) (u : N.State) (ks : List ℕ) → Together s u → KindsBelow m ks → fault_from M s ks ≡ 0
      → places_from N u ks ≡ places_from M s ks
  unfolding fault_from places_from KindsBelow
  step_places s u [] t b e = refl
  step_places s u (k ∷ ks) t b e =
      let both = or_zero (M.fault s k) _ e in
      rw (S.place s u k t b.0, step_places (M.after s k) (N.after u k) ks (S.after s u k t b.0 both.0) b.1 both.1)

  -- After it they stand together.
  pub step_state : (s : M.State) (u : N.State) (ks : List ℕ) → Together s u → KindsBelow m ks → fault_from M s ks ≡ 0
      → Together (state_from M s ks) (state_from N u ks)
  unfolding fault_from state_from KindsBelow
  step_state s u [] t b e = t
  step_state s u (k ∷ ks) t b e =
      let both = or_zero (M.fault s k) _ e in
      step_state (M.after s k) (N.after u k) ks (S.after s u k t b.0 both.0) b.1 both.1

  -- So of a call. Answers that are the same and leave the same memory.
  module _ (t : Together M.begin N.begin) (ks : List ℕ) where
    abbrev Same : PlacingAnswer → PlacingAnswer → Type 0
    Same x y = (y ≡ x) × ((out : List ℕ) → placing_memory y N ks out ≡ placing_memory x M ks out)

    -- Where the kinds are known, the walk decides.
    same_walk : KindsBelow m ks → (fault stop : ℕ) → fault_from M M.begin ks ≡ fault
        → Same (walk_answer fault stop (length ks) (M.p (state_from M M.begin ks)))
        (walk_answer fault stop (length ks) (N.p (state_from N N.begin ks)))
    unfolding placing_memory
    same_walk b zero stop e = (rw (S.p _ _ (step_state _ _ ks t b e)), λ out. rw (step_places _ _ ks t b e))
    same_walk b (suc fault) stop e = (refl, λ out. refl)

    -- Where no number stands before it, unknown kinds are looked for first.
    same_answer : (number : ℕ) → Same (placed_or_refused number m M ks) (placed_or_refused number m N ks)
    unfolding placing_memory
    same_answer zero = elim (either (ltb (unknown_at m ks) (length ks))) [
      | inl o ↦ rw o (refl, λ out. refl)
      | inr o ↦
          let b = known_below m ks (omega (arith, unknown_le m ks, ltb-false (unknown_at m ks) (length ks) o)) in
          rw (o, step_fault M.begin N.begin ks t b, step_stop M.begin N.begin ks t b) (same_walk b _ _ refl)
    ]
    same_answer (suc number) = (refl, λ out. refl)

    same_placing : (limit number room : ℕ) → Same (placing limit number m M ks room) (placing limit number m N ks room)
    unfolding placing
    same_placing limit number room =
        same_answer (or_else number (or_else (unless (leb (length ks) limit) 8) (unless (leb (record_length * length ks) room) 12)))

    -- Both calls give the same answer.
    pub step_answer : (limit number room : ℕ) → placing limit number m N ks room ≡ placing limit number m M ks room
    step_answer limit number room = (same_placing limit number room).0

    -- Both leave the same memory.
    pub step_memory : (limit number room : ℕ) (out : List ℕ)
        → placing_memory (placing limit number m N ks room) N ks out ≡ placing_memory (placing limit number m M ks room) M ks out
    step_memory limit number room = (same_placing limit number room).1
