-- What success of a call that places a list means, over either way of placing: nothing was refused.
use Prim.Native.Nat.{ℕ, zero, suc, ◌≤◌}
use mathlib.Core.Path.{◌≡◌, refl}
use mathlib.Core.Bool.{Bool, true, false, cond}
use mathlib.Core.List.{List}
use native.Mathlib.Omega.{arith}
use lib.Dec.{ltb}
use lib.ListN.{length}
use borrow.Author.Tests.{leb-true, ltb-false}
use Rattle.convention.specs.declared.Offset.{Offset}
use Rattle.convention.specs.Answers.{PlacingAnswer}
use Rattle.convention.specs.Answers.{Placed, Unknown}
use Rattle.convention.specs.Lists.{Steps, fault_from, stop_from, state_from, unknown_at, walk_answer, placed_or_refused, placing, KindsBelow}
use Rattle.convention.proofs.Numbers.{or_zero, unless_zero}
use Rattle.convention.proofs.Lists.{known_below, unknown_le}

-- The file was read, the list is short enough and of known kinds, no step is faulty, n is its length and p the walk's.
pub record Accepted (limit number m : ℕ) (M : Steps) (ks : List ℕ) (n : ℕ) (p : Offset) : Type 0 where
  pub read : number ≡ 0
  pub short : length ks ≤ limit
  pub below : KindsBelow m ks
  pub clean : fault_from M M.begin ks ≡ 0
  pub count : length ks ≡ n
  pub final : M.p (state_from M M.begin ks) ≡ p

-- What it says of the number, of unknown kinds and of the walk; and so of all.
module _ (n : ℕ) (p : Offset) where
  no_number : (number m : ℕ) (M : Steps) (ks : List ℕ) → placed_or_refused number m M ks ≡ Placed n p → number ≡ 0
  no_number zero m M ks e = refl
  no_number (suc number) m M ks e = absurd (let z : ◌≡◌ {A = ℕ} 0 1 = cc in omega arith)

  none_unknown : (unknown : Bool) (at : ℕ) (walked : PlacingAnswer) → cond unknown (Unknown at) walked ≡ Placed n p
      → (unknown ≡ false) × (walked ≡ Placed n p)
  none_unknown true at walked e = absurd (let z : ◌≡◌ {A = ℕ} 0 1 = cc in omega arith)
  none_unknown false at walked e = (refl, e)

  no_fault : (fault stop count : ℕ) (p' : Offset) → walk_answer fault stop count p' ≡ Placed n p → (fault ≡ 0) × (count ≡ n) × (p' ≡ p)
  no_fault zero stop count p' e = (refl, cc, cc)
  no_fault (suc fault) stop count p' e = absurd (let z : ◌≡◌ {A = ℕ} 0 1 = cc in omega arith)

  pub accepted : (limit number m : ℕ) (M : Steps) (ks : List ℕ) (room : ℕ) → placing limit number m M ks room ≡ Placed n p
      → Accepted limit number m M ks n p
  unfolding placing
  accepted limit number m M ks room e =
      let none = no_number _ m M ks e in
      let both = or_zero number _ none in
      let known = none_unknown (ltb (unknown_at m ks) (length ks)) (unknown_at m ks) _ (rw none at e) in
      let walked = no_fault (fault_from M M.begin ks) (stop_from M M.begin ks) (length ks) (M.p (state_from M M.begin ks)) known.1 in
      record {
        read = both.0;
        short = leb-true (length ks) limit (unless_zero _ 8 (omega arith) (or_zero _ _ both.1).0);
        below = known_below m ks (omega (arith, unknown_le m ks, ltb-false (unknown_at m ks) (length ks) known.0));
        clean = walked.0;
        count = walked.1;
        final = walked.2;
      }
