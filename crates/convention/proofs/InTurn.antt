-- Tests of things that stand one after the other, each where the one before it ends: the readers' loops over kinds, starts and transitions.
use Prim.Native.Nat.{ℕ, zero, suc, ◌+◌, ◌-◌, ◌*◌, ◌≤◌, ◌<◌}
use mathlib.Core.Path.{◌≡◌, sym, ◌∙◌}
use native.Mathlib.Nat.{add-zero, mul-zero}
use native.Mathlib.Omega.{arith}
use Rattle.convention.specs.Numbers.{or_else}
use Rattle.convention.proofs.Numbers.{or_on, or_first}

-- The thing at byte `at` has `long at` bytes; `one at` is its number, and `all at left` that of so many from there on.
pub record Things : Type 0 where
  pub long : ℕ → ℕ
  pub one : ℕ → ℕ
  pub all : ℕ → ℕ → ℕ

-- They are tested in turn.
pub record InTurn (X : Things) : Type 0 where
  pub none : (at : ℕ) → X.all at 0 ≡ 0
  pub more : (at left : ℕ) → X.all at (suc left) ≡ or_else (X.one at) (X.all (at + X.long at) left)

-- Half way through, before the thing at byte `at`: those that are left give the number of all.
module _ (X : Things) (turns : InTurn X) (number at : ℕ) where
  -- One that is right leaves it to the others.
  pub turn_right : (left this : ℕ) → X.all at left ≡ number → 0 < left → this ≡ X.one at → this ≡ 0 → X.all (at + X.long at) (left - 1) ≡ number
  turn_right zero this inv h e z = absurd (omega arith)
  turn_right (suc left) this inv h e z =
      let less : suc left - 1 ≡ left = omega arith in
      rw less (sym (or_on _ _ (sym e ∙ z)) ∙ sym (turns.more at left) ∙ inv)

  -- One that is wrong gives its own.
  pub turn_wrong : (left this : ℕ) → X.all at left ≡ number → 0 < left → this ≡ X.one at → (this ≡ 0 → ⊥) → this ≡ number
  turn_wrong zero this inv h e nz = absurd (omega arith)
  turn_wrong (suc left) this inv h e nz = or_first (X.one at) _ this e nz ∙ sym (turns.more at left) ∙ inv

  -- Nothing was wrong where none is left.
  pub turn_end : (left : ℕ) → X.all at left ≡ number → left ≤ 0 → 0 ≡ number
  turn_end zero inv h = sym (turns.none at) ∙ inv
  turn_end (suc left) inv h = absurd (omega arith)

-- Things of w bytes each: where each is right, nothing is wrong with all.
pub turns_pass : (X : Things) (w : ℕ) → InTurn X → ((at : ℕ) → X.long at ≡ w)
    → (at left : ℕ) → ((i : ℕ) → i < left → X.one (at + w * i) ≡ 0) → X.all at left ≡ 0
turns_pass X w turns long at zero each = turns.none at
turns_pass X w turns long at (suc left) each =
    turns.more at left ∙ or_on (X.one at) _ (rw (mul-zero, add-zero) at (each 0 (omega arith)))
    ∙ rw (long at) (turns_pass X w turns long (at + w) left later)
  where
    later : (i : ℕ) → i < left → X.one (at + w + w * i) ≡ 0
    later i h = let place : at + w + w * i ≡ at + w * suc i = omega arith in rw place (each (suc i) (omega arith))
