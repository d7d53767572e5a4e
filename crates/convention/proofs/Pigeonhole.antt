-- The pigeonhole: of numbers below B that are pairwise different there are at most B.
-- Without the last of them, and with its value wherever B - 1 stood, the others are pairwise different and below B - 1.
use Prim.Native.Nat.{ℕ, zero, suc, ◌≤◌, ◌<◌, suc-le-suc}
use native.Mathlib.Decide.{ℕ_discrete}
use native.Mathlib.Omega.{arith}
use mathlib.Core.Path.{◌≡◌, refl}
use mathlib.Core.Logic.{◌⊎◌, inl, inr, ◌≢◌}

-- A number, and v instead of it where it is B.
instead : (B v x : ℕ) → (y : ℕ) × (((x ≡ B) × (y ≡ v)) ⊎ ((x ≢ B) × (y ≡ x)))
instead B v x = elim (ℕ_discrete x B) [ yes e ↦ (v, inl (e, refl)) | no d ↦ (x, inr (d, refl)) ]

-- Of n numbers below B no two of which are the same, n is at most B.
pub pigeonhole : (f : ℕ → ℕ) (n B : ℕ) → ((i : ℕ) → i < n → f i < B) → ((i j : ℕ) → i < j → j < n → f i ≡ f j → ⊥) → n ≤ B
pigeonhole f zero B below apart = omega arith
pigeonhole f (suc n) zero below apart = absurd (omega (arith, below n (omega arith)))
pigeonhole f (suc n) (suc B) below apart = suc-le-suc (pigeonhole (λ i. (instead B (f n) (f i)).0) n B lower differ)
  where
    lower : (i : ℕ) → i < n → (instead B (f n) (f i)).0 < B
    lower i h =
        let d : f i ≢ f n = apart i n h (omega arith) in
        elim (instead B (f n) (f i)).1 [ inl e ↦ omega (arith, below n (omega arith)) | inr e ↦ omega (arith, below i (omega arith)) ]

    differ : (i j : ℕ) → i < j → j < n → (instead B (f n) (f i)).0 ≡ (instead B (f n) (f j)).0 → ⊥
    differ i j h k e =
        let d : f i ≢ f j = apart i j h (omega arith) in
        let d₁ : f i ≢ f n = apart i n (omega arith) (omega arith) in
        let d₂ : f j ≢ f n = apart j n k (omega arith) in
        elim (instead B (f n) (f i)).1 [
          | inl p ↦ elim (instead B (f n) (f j)).1 [ inl q ↦ omega arith | inr q ↦ omega arith ]
          | inr p ↦ elim (instead B (f n) (f j)).1 [ inl q ↦ omega arith | inr q ↦ omega arith ]
        ]
