-- Two arguments of one list share no register and no stack byte, and p stays small, over any way of placing that gives out only what is free and marks what
-- it gives out.
use Prim.Native.Nat.{ℕ, zero, suc, ◌+◌, ◌*◌, ◌≤◌, ◌<◌}
use mathlib.Core.Path.{◌≡◌, refl}
use mathlib.Core.Logic.{inl, inr}
use mathlib.Core.Bool.{Bool, true, false}
use mathlib.Core.List.{List, [], ◌∷◌}
use native.Mathlib.Nat.{le_of_suc-le-suc}
use native.Mathlib.Omega.{arith}
use lib.ListN.{length, get_or, set}
use Rattle.convention.specs.declared.Offset.{Offset}
use Rattle.convention.specs.declared.Placement.{Placement}
use Rattle.convention.specs.declared.Placement.TheVariants.{Registers, Stack, Nowhere}
use Rattle.convention.specs.Shapes.{step_most}
use Rattle.convention.specs.Lists.{Steps, fault_from, state_from, places_from, KindsBelow}
use Rattle.convention.specs.Rules.{free_run, mark_run, place_taken, place_p}
use Rattle.convention.specs.WellPlaced.{HasRegister, HasByte, Share}
use Rattle.convention.proofs.Numbers.{or_zero}
use Rattle.convention.proofs.Runs.{free_each, mark_in}
use Rattle.stepping.specs.Ends.{run_end}
use Rattle.stepping.proofs.Runs.{length_mark}

-- A place's registers are free, and its stack bytes do not begin before p.
abbrev pub FreeIn : List Bool → Placement → Type 0
FreeIn taken (Registers first count) = free_run taken first.0 count ≡ true
FreeIn taken (Stack offset count) = Unit {0}
FreeIn taken Nowhere = Unit {0}

abbrev pub FromP : Offset → Placement → Type 0
FromP p (Registers first count) = Unit {0}
FromP p (Stack offset count) = p.0 ≤ offset.0
FromP p Nowhere = Unit {0}

-- What a step gives out was free, and is marked from then on, and p moves by no more than a step can take; `taken` says which registers a state has marked, and Good is what every state keeps.
pub record StepGives (M : Steps) (taken : M.State → List Bool) (Good : M.State → Type 0) (s : M.State) (k : ℕ) : Type 0 where
  pub keeps : Good (M.after s k)
  pub within : run_end (M.place s k) ≤ length (taken s)
  pub free : FreeIn (taken s) (M.place s k)
  pub marks : (r : ℕ) → get_or (place_taken (M.place s k) (taken s)) r false ≡ true → get_or (taken (M.after s k)) r false ≡ true
  pub above : FromP (M.p s) (M.place s k)
  pub moves : M.p (M.after s k) ≡ place_p (M.place s k) (M.p s)
  pub most : (M.p (M.after s k)).0 ≤ (M.p s).0 + step_most

-- A register stays taken where others are marked.
set_stays : (taken : List Bool) (i r : ℕ) → get_or taken r false ≡ true → get_or (set taken i true) r false ≡ true
set_stays [] i r e = e
set_stays (x ∷ taken) zero zero e = refl
set_stays (x ∷ taken) zero (suc r) e = e
set_stays (x ∷ taken) (suc i) zero e = e
set_stays (x ∷ taken) (suc i) (suc r) e = set_stays taken i r e

pub mark_stays : (taken : List Bool) (first count r : ℕ) → get_or taken r false ≡ true → get_or (mark_run taken first count) r false ≡ true
mark_stays taken first zero r e = e
mark_stays taken first (suc count) r e = mark_stays (set taken first true) (suc first) count r (set_stays taken first r e)

-- Giving out a place keeps the number of registers.
pub place_length : (place : Placement) (taken : List Bool) → length (place_taken place taken) ≡ length taken
place_length (Registers first count) taken = length_mark taken first.0 count
place_length (Stack offset count) taken = refl
place_length Nowhere taken = refl

-- A register stays taken whatever place is given out, and p never falls where stack bytes are given out from p on.
place_stays : (place : Placement) (taken : List Bool) (r : ℕ) → get_or taken r false ≡ true → get_or (place_taken place taken) r false ≡ true
place_stays (Registers first count) taken r e = mark_stays taken first.0 count r e
place_stays (Stack offset count) taken r e = e
place_stays Nowhere taken r e = e

place_rises : (place : Placement) (p : Offset) → FromP p place → p.0 ≤ (place_p place p).0
place_rises (Registers first count) p above = omega arith
place_rises (Stack offset count) p above = omega arith
place_rises Nowhere p above = omega arith

-- A register of a place was free before, and is taken once the place is given out; a stack byte of it does not lie before p, and ends at or before the p that follows it.
has_free : (place : Placement) (taken : List Bool) (r : ℕ) → FreeIn taken place → HasRegister place r → get_or taken r false ≡ false
has_free (Registers first count) taken r free has = free_each taken first.0 count free r has.0 has.1
has_free (Stack offset count) taken r free has = absurd has
has_free Nowhere taken r free has = absurd has

has_taken : (place : Placement) (taken : List Bool) (r : ℕ) → run_end place ≤ length taken → HasRegister place r
    → get_or (place_taken place taken) r false ≡ true
has_taken (Registers first count) taken r within has = mark_in taken first.0 count r within has.0 has.1
has_taken (Stack offset count) taken r within has = absurd has
has_taken Nowhere taken r within has = absurd has

has_from : (place : Placement) (p : Offset) (x : ℕ) → FromP p place → HasByte place x → p.0 ≤ x
has_from (Registers first count) p x above has = absurd has
has_from (Stack offset count) p x above has = omega arith
has_from Nowhere p x above has = absurd has

has_before : (place : Placement) (p : Offset) (x : ℕ) → HasByte place x → x < (place_p place p).0
has_before (Registers first count) p x has = absurd has
has_before (Stack offset count) p x has = omega arith
has_before Nowhere p x has = absurd has

module _ (M : Steps) (taken : M.State → List Bool) (Good : M.State → Type 0) (m : ℕ)
    (step : (s : M.State) (k : ℕ) → Good s → k < m → M.fault s k ≡ 0 → StepGives M taken Good s k) where
  -- A place that was given out before state t: its registers are taken in t, and its stack bytes lie before p.
  record Given (a : Placement) (t : M.State) : Type 0 where
    registers : (r : ℕ) → HasRegister a r → get_or (taken t) r false ≡ true
    bytes : (x : ℕ) → HasByte a x → x < (M.p t).0

  module _ (s : M.State) (k : ℕ) (gives : StepGives M taken Good s k) where
    -- A step gives out its place, and what was given out before stays so.
    given_here : Given (M.place s k) (M.after s k)
    given_here = record {
      registers = λ r has. gives.marks r (has_taken (M.place s k) (taken s) r gives.within has);
      bytes = λ x has. rw gives.moves (has_before (M.place s k) (M.p s) x has);
    }

    given_on : (a : Placement) → Given a s → Given a (M.after s k)
    given_on a given = record {
      registers = λ r has. gives.marks r (place_stays (M.place s k) (taken s) r (given.registers r has));
      bytes = λ x has. rw gives.moves (omega (arith, given.bytes x has, place_rises (M.place s k) (M.p s) gives.above));
    }

    -- Its stack bytes lie after those given out before.
    given_after_lem : (a : Placement) → Given a s → (x y : ℕ) → HasByte a x → HasByte (M.place s k) y → x < y
    given_after_lem a given x y has here = omega (arith, given.bytes x has, has_from (M.place s k) (M.p s) y gives.above here)

    -- So it shares nothing with what was given out before.
    given_apart : (a : Placement) → Given a s → Share a (M.place s k) → ⊥
    given_apart a given (inl (r, has, here)) =
        let marked = given.registers r has in
        let free = has_free (M.place s k) (taken s) r gives.free here in
        let z : ◌≡◌ {A = ℕ} 0 1 = cc in
        omega arith
    given_apart a given (inr (x, has, here)) = omega (arith, given_after_lem a given x x has here)

  -- What was given out before shares nothing with any later place.
  later_apart : (a : Placement) (s : M.State) (ks : List ℕ) → Good s → KindsBelow m ks → fault_from M s ks ≡ 0 → Given a s
      → (j : ℕ) → j < length ks → Share a (get_or (places_from M s ks) j Nowhere) → ⊥
  unfolding fault_from places_from KindsBelow
  later_apart a s [] good below e given j h = absurd (omega arith)
  later_apart a s (k ∷ ks) good below e given zero h =
      given_apart s k (step s k good below.0 (or_zero (M.fault s k) _ e).0) a given
  later_apart a s (k ∷ ks) good below e given (suc j) h =
      let both = or_zero (M.fault s k) _ e in
      let gives = step s k good below.0 both.0 in
      later_apart a (M.after s k) ks gives.keeps below.1 both.1 (given_on s k gives a given) j (le_of_suc-le-suc h)

  -- Two arguments of one list without a fault share nothing.
  pub apart : (s : M.State) (ks : List ℕ) → Good s → KindsBelow m ks → fault_from M s ks ≡ 0
      → (i j : ℕ) → i < j → j < length ks → Share (get_or (places_from M s ks) i Nowhere) (get_or (places_from M s ks) j Nowhere) → ⊥
  unfolding fault_from places_from KindsBelow
  apart s [] good below e i j l h = absurd (omega arith)
  apart s (k ∷ ks) good below e i zero l h = absurd (omega arith)
  apart s (k ∷ ks) good below e zero (suc j) l h =
      let both = or_zero (M.fault s k) _ e in
      let gives = step s k good below.0 both.0 in
      later_apart (M.place s k) (M.after s k) ks gives.keeps below.1 both.1 (given_here s k gives) j (le_of_suc-le-suc h)
  apart s (k ∷ ks) good below e (suc i) (suc j) l h =
      let both = or_zero (M.fault s k) _ e in
      apart (M.after s k) ks (step s k good below.0 both.0).keeps below.1 both.1 i j (le_of_suc-le-suc l) (le_of_suc-le-suc h)

  -- A list without a fault takes p no further than each argument can.
  pub p_most_lem : (s : M.State) (ks : List ℕ) → Good s → KindsBelow m ks → fault_from M s ks ≡ 0 → (M.p (state_from M s ks)).0 ≤ (M.p s).0 + step_most * length ks
  unfolding fault_from state_from KindsBelow
  p_most_lem s [] good below e = omega arith
  p_most_lem s (k ∷ ks) good below e =
      let both = or_zero (M.fault s k) _ e in
      let gives = step s k good below.0 both.0 in
      omega (arith, gives.most, p_most_lem (M.after s k) ks gives.keeps below.1 both.1)
