-- Laws of lists of kinds: a walk position by position, as a loop takes it; where it stops; two lists one after the other; records; known kinds.
use Prim.Native.Nat.{ℕ, zero, suc, ◌+◌, ◌*◌, ◌≤◌, ◌<◌}
use mathlib.Core.Path.{◌≡◌, refl, sym, ap}
use mathlib.Core.Logic.{inl, inr}
use mathlib.Core.List.{List, [], ◌∷◌, ◌++◌}
use native.Mathlib.Nat.{suc-pred-eq_of_pos, le_of_suc-le-suc, eq-zero-or-pos, zero-add}
use native.Mathlib.Decide.{dec_lt}
use native.Mathlib.Numerals.{add-one}
use native.Mathlib.Omega.{arith}
use lib.ListN.{length, get_or, take, drop, drop_of_length-le}
use lib.Seq.{drop-cons, drop-drop}
use borrow.Author.Tests.{lt-ltb, le-ltb}
use Rattle.convention.specs.declared.Placement.{Placement}
use Rattle.convention.specs.declared.Placement.TheVariants.{Nowhere}
use Rattle.convention.specs.Numbers.{or_else}
use Rattle.convention.specs.Lists.{Steps, fault_from, stop_from, state_from, places_from, record_length, record_of, records_of, unknown_at, KindsBelow}
use Rattle.convention.proofs.Numbers.{or_zero, or_here, or_assoc, or_keeps}

-- What is left of a list at a position of it.
rest : (ks : List ℕ) (i : ℕ) → i < length ks → drop i ks ≡ get_or ks i 0 ∷ drop (i + 1) ks
rest ks i h = rw (add-one, drop-cons ks i 0)

-- A walk that has come to position i in state s.
module _ (M : Steps) (s : M.State) (ks : List ℕ) (i : ℕ) where
  -- After the last argument nothing is left of it.
  pub fault_end : length ks ≤ i → fault_from M s (drop i ks) ≡ 0
  unfolding fault_from
  fault_end h = rw (drop_of_length-le ks h)

  pub stop_end : length ks ≤ i → stop_from M s (drop i ks) ≡ 0
  unfolding stop_from
  stop_end h = rw (drop_of_length-le ks h)

  pub state_end : length ks ≤ i → state_from M s (drop i ks) ≡ s
  unfolding state_from
  state_end h = rw (drop_of_length-le ks h)

  -- An argument without a fault: fault and stop are those of the walk after it.
  pub fault_turn : i < length ks → M.fault s (get_or ks i 0) ≡ 0
      → fault_from M s (drop i ks) ≡ fault_from M (M.after s (get_or ks i 0)) (drop (i + 1) ks)
  unfolding fault_from
  fault_turn h e = rw (rest ks i h, e)

  pub stop_turn : i < length ks → M.fault s (get_or ks i 0) ≡ 0
      → i + stop_from M s (drop i ks) ≡ (i + 1) + stop_from M (M.after s (get_or ks i 0)) (drop (i + 1) ks)
  unfolding stop_from
  stop_turn h e = rw (rest ks i h, stop_from, e) (omega arith)

  -- An argument with a fault: the walk stops there.
  pub fault_hit : i < length ks → 0 < M.fault s (get_or ks i 0) → fault_from M s (drop i ks) ≡ M.fault s (get_or ks i 0)
  unfolding fault_from
  fault_hit h f = rw (rest ks i h) (or_here _ _ f)

  pub stop_hit : i < length ks → 0 < M.fault s (get_or ks i 0) → stop_from M s (drop i ks) ≡ 0
  unfolding stop_from
  stop_hit h f = rw (rest ks i h, stop_from, ← suc-pred-eq_of_pos f)

  -- The state and the records take an argument as it is.
  pub state_turn : i < length ks → state_from M s (drop i ks) ≡ state_from M (M.after s (get_or ks i 0)) (drop (i + 1) ks)
  unfolding state_from
  state_turn h = rw (rest ks i h)

  pub records_turn : i < length ks
      → records_of (places_from M s (drop i ks))
      ≡ record_of (M.place s (get_or ks i 0)) ++ records_of (places_from M (M.after s (get_or ks i 0)) (drop (i + 1) ks))
  unfolding places_from records_of
  records_turn h = rw (rest ks i h)

module _ (M : Steps) where
  -- A walk stops within the list.
  pub stop_le : (s : M.State) (ks : List ℕ) → stop_from M s ks ≤ length ks
  unfolding stop_from
  stop_le s [] = omega arith
  stop_le s (k ∷ ks) =
      elim (eq-zero-or-pos (M.fault s k)) [
        | inl e ↦ omega (arith, stop_turn M s (k ∷ ks) 0 (omega arith) e, stop_le (M.after s k) ks)
        | inr f ↦ omega (arith, stop_hit M s (k ∷ ks) 0 (omega arith) f)
      ]

  -- What every step without a fault keeps holds after a list without a fault.
  pub holds_along : (P : M.State → Type 0) (m : ℕ) → ((s : M.State) (k : ℕ) → P s → k < m → M.fault s k ≡ 0 → P (M.after s k))
      → (s : M.State) (ks : List ℕ) → P s → KindsBelow m ks → fault_from M s ks ≡ 0 → P (state_from M s ks)
  unfolding fault_from state_from KindsBelow
  holds_along P m step s [] p below e = p
  holds_along P m step s (k ∷ ks) p below e =
      let both = or_zero (M.fault s k) _ e in
      holds_along P m step (M.after s k) ks (step s k p below.0 both.0) below.1 both.1

  -- What holds of no fault and of every step's holds of a list's.
  pub faults_keep : (P : ℕ → Type 0) (m : ℕ) → P 0 → ((s : M.State) (k : ℕ) → k < m → P (M.fault s k))
      → (s : M.State) (ks : List ℕ) → KindsBelow m ks → P (fault_from M s ks)
  unfolding fault_from KindsBelow
  faults_keep P m none each s [] below = none
  faults_keep P m none each s (k ∷ ks) below = or_keeps P (M.fault s k) _ (each s k below.0) (faults_keep P m none each (M.after s k) ks below.1)

  -- A walk over one list and then another.
  pub fault_append : (s : M.State) (a b : List ℕ) → fault_from M s (a ++ b) ≡ or_else (fault_from M s a) (fault_from M (state_from M s a) b)
  unfolding fault_from state_from
  fault_append s [] b = refl
  fault_append s (k ∷ a) b = rw (fault_append (M.after s k) a b, or_assoc)

  pub stop_append : (s : M.State) (a b : List ℕ) → fault_from M s a ≡ 0 → stop_from M s (a ++ b) ≡ length a + stop_from M (state_from M s a) b
  unfolding fault_from stop_from state_from
  stop_append s [] b e = sym (zero-add _)
  stop_append s (k ∷ a) b e =
      let both = or_zero (M.fault s k) _ e in
      omega (arith, stop_turn M s (k ∷ (a ++ b)) 0 (omega arith) both.0, stop_append (M.after s k) a b both.1)

  -- A place an argument, and a record of six bytes a place.
  pub places_length : (s : M.State) (ks : List ℕ) → length (places_from M s ks) ≡ length ks
  unfolding places_from
  places_length s [] = refl
  places_length s (k ∷ ks) = ap suc (places_length (M.after s k) ks)

pub records_length : (places : List Placement) → length (records_of places) ≡ record_length * length places
unfolding records_of
records_length [] = refl
records_length (place ∷ places) = rw (records_length places) (omega arith)

-- The record of place i stands after those of the places before it.
pub record_at : (places : List Placement) (others : List ℕ) (i : ℕ) → i < length places
    → take record_length (drop (record_length * i) (records_of places ++ others)) ≡ record_of (get_or places i Nowhere)
unfolding records_of
record_at [] others i h = absurd (omega arith)
record_at (place ∷ places) others zero h = refl
record_at (place ∷ places) others (suc i) h =
    let more : record_length * suc i ≡ record_length + record_length * i = omega arith in
    rw (more, ← drop-drop (record_length * i) record_length (record_of place ++ (records_of places ++ others))) (record_at places others i (le_of_suc-le-suc h))

-- Looking for a kind of m or more, from position i on: nothing is left; kind i is known; kind i is not.
module _ (m : ℕ) (ks : List ℕ) (i : ℕ) where
  pub unknown_end : length ks ≤ i → unknown_at m (drop i ks) ≡ 0
  unfolding unknown_at
  unknown_end h = rw (drop_of_length-le ks h)

  pub unknown_turn : i < length ks → get_or ks i 0 < m → i + unknown_at m (drop i ks) ≡ (i + 1) + unknown_at m (drop (i + 1) ks)
  unfolding unknown_at
  unknown_turn h k = rw (rest ks i h, unknown_at, lt-ltb _ _ k) (omega arith)

  pub unknown_hit : i < length ks → m ≤ get_or ks i 0 → unknown_at m (drop i ks) ≡ 0
  unfolding unknown_at
  unknown_hit h k = rw (rest ks i h, unknown_at, le-ltb _ _ k)

-- It is found within the list, and not at all exactly where every kind is below m, one by one.
pub unknown_le : (m : ℕ) (ks : List ℕ) → unknown_at m ks ≤ length ks
unfolding unknown_at
unknown_le m [] = omega arith
unknown_le m (k ∷ ks) =
    elim (dec_lt k m) [
      | yes h ↦ omega (arith, unknown_turn m (k ∷ ks) 0 (omega arith) h, unknown_le m ks)
      | no h ↦ omega (arith, unknown_hit m (k ∷ ks) 0 (omega arith) (omega arith))
    ]

pub known_below : (m : ℕ) (ks : List ℕ) → unknown_at m ks ≡ length ks → KindsBelow m ks
unfolding unknown_at KindsBelow
known_below m [] e = tt
known_below m (k ∷ ks) e =
    elim (dec_lt k m) [
      | yes h ↦ (h, known_below m ks (omega (arith, unknown_turn m (k ∷ ks) 0 (omega arith) h)))
      | no h ↦ absurd (omega (arith, unknown_hit m (k ∷ ks) 0 (omega arith) (omega arith)))
    ]

pub below_known : (m : ℕ) (ks : List ℕ) → KindsBelow m ks → unknown_at m ks ≡ length ks
unfolding unknown_at KindsBelow
below_known m [] below = refl
below_known m (k ∷ ks) below = omega (arith, unknown_turn m (k ∷ ks) 0 (omega arith) below.0, below_known m ks below.1)

pub below_at : (m : ℕ) (ks : List ℕ) → KindsBelow m ks → (i : ℕ) → i < length ks → get_or ks i 0 < m
unfolding KindsBelow
below_at m [] below i h = absurd (omega arith)
below_at m (k ∷ ks) below zero h = below.0
below_at m (k ∷ ks) below (suc i) h = below_at m ks below.1 i (le_of_suc-le-suc h)

pub at_below : (m : ℕ) (ks : List ℕ) → ((i : ℕ) → i < length ks → get_or ks i 0 < m) → KindsBelow m ks
unfolding KindsBelow
at_below m [] each = tt
at_below m (k ∷ ks) each = (each 0 (omega arith), at_below m ks (λ i h. each (suc i) (omega arith)))

-- A list of known kinds stays one where a known kind is appended, and so do its fronts.
pub below_snoc : (m : ℕ) (ks : List ℕ) (k : ℕ) → KindsBelow m ks → k < m → KindsBelow m (ks ++ k ∷ [])
unfolding KindsBelow
below_snoc m [] k known below = (below, tt)
below_snoc m (j ∷ ks) k known below = (known.0, below_snoc m ks k known.1 below)

pub below_take : (m n : ℕ) (ks : List ℕ) → KindsBelow m ks → KindsBelow m (take n ks)
unfolding KindsBelow
below_take m zero ks known = tt
below_take m (suc n) [] known = tt
below_take m (suc n) (k ∷ ks) known = (known.0, below_take m n ks known.1)

-- The kind at a position of a list of known kinds.
pub known : (m : ℕ) (ks : List ℕ) → unknown_at m ks ≡ length ks → (i : ℕ) → i < length ks → get_or ks i 0 < m
known m ks e = below_at m ks (known_below m ks e)
