-- Laws of the states met, as a list and as the keys that stand for them: the number that is found is a state's own, and what is kept is appended.
use Prim.Native.Nat.{ℕ, zero, suc, ◌+◌, ◌≤◌, ◌<◌}
use mathlib.Core.Path.{◌≡◌, refl, sym, ap, ◌∙◌}
use mathlib.Core.Logic.{inl, inr}
use mathlib.Core.List.{List, [], ◌∷◌, ◌++◌}
use native.Mathlib.Omega.{arith}
use lib.ListN.{length, get_or, set, take, length-append}
use borrow.Author.Tests.{lt-ltb, le-ltb}
use Rattle.std.proofs.Common.{map}
use Rattle.std.proofs.lemmas.List.{get_or-map, get_or-take, length-map, map-append, take_more_set}
use lib.Seq.{length-take-le}
use Rattle.convention.specs.declared.Allocation.{Allocation}
use Rattle.convention.specs.declared.Refusal.{Refusal}
use Rattle.convention.specs.Numbers.{state_limit}
use Rattle.convention.specs.Built.{same_allocation, first_allocation}
use Rattle.convention.proofs.Runs.{either}
use Rattle.building.specs.Keys.{state_of, states_of, key_limit}
use Rattle.building.specs.Links.{Linked}
use Rattle.building.specs.Holding.{place_of, met_with, Finds, Meets, TooMany}
use Rattle.building.proofs.Allocations.{same_equal, same_own}
use Rattle.building.proofs.Keyed.{key_same}

-- The place of the first that is the same is the number.
place_first : (states : List Allocation) (a : Allocation) (r : ℕ) → r ≤ length states
    → ((j : ℕ) → j < r → get_or states j first_allocation ≡ a → ⊥) → (r < length states → get_or states r first_allocation ≡ a) → place_of states a ≡ r
unfolding place_of
place_first [] a r h others there = omega arith
place_first (x ∷ states) a zero h others there = rw (there (omega arith), same_own a, place_of)
place_first (x ∷ states) a (suc r) h others there = elim (either (same_allocation x a)) [
  | inl t ↦ absurd (others 0 (omega arith) (same_equal x a t))
  | inr f ↦ rw (f, place_of) (ap suc (place_first states a r (omega arith) (λ j o. others (suc j) (omega arith)) (λ o. there (omega arith))))
]

pub place_within : (states : List Allocation) (a : Allocation) → place_of states a ≤ length states
unfolding place_of
place_within [] a = omega arith
place_within (x ∷ states) a = elim (either (same_allocation x a)) [
  | inl t ↦ rw (t, place_of) (omega arith)
  | inr f ↦ rw (f, place_of) (omega (arith, place_within states a))
]

-- One that is new has the next place once it is appended.
place_own : (states : List Allocation) (a : Allocation) → place_of states a ≡ length states → place_of (states ++ a ∷ []) a ≡ length states
unfolding place_of
place_own [] a h = rw (same_own a, place_of)
place_own (x ∷ states) a h = elim (either (same_allocation x a)) [
  | inl t ↦ absurd (omega (arith, rw (t, place_of) at h))
  | inr f ↦ rw (f, place_of) (ap suc (place_own states a (omega (arith, rw (f, place_of) at h))))
]

-- What is met with one more.
pub known_met : (states : List Allocation) (a : Allocation) → place_of states a < length states → met_with states a ≡ states
unfolding met_with
known_met states a h = rw (lt-ltb _ _ h, met_with)

pub new_met : (states : List Allocation) (a : Allocation) → place_of states a ≡ length states → met_with states a ≡ states ++ a ∷ []
unfolding met_with
new_met states a e = rw (le-ltb (place_of states a) (length states) (omega arith), met_with)

-- The states that keys stand for.
module _ (keys links slots : List ℕ) (count : ℕ) (linked : Linked keys links slots count) (long : length keys ≡ state_limit) where
  pub kept_many : length (states_of keys count) ≡ count
  kept_many = length-map (take count keys) state_of ∙ length-take-le count keys (omega (arith, linked.few))

  pub kept_there : (i : ℕ) → i < count → get_or (states_of keys count) i first_allocation ≡ state_of (get_or keys i 0)
  kept_there i h =
      get_or-map state_of (take count keys) i 0 first_allocation (omega (arith, length-take-le count keys (omega (arith, linked.few))))
      ∙ ap state_of (get_or-take count keys i 0 h)

  -- A state is at the place of its key.
  module _ (key : ℕ) (small : key < key_limit) where
    other : (j : ℕ) → j < count → (get_or keys j 0 ≡ key → ⊥) → get_or (states_of keys count) j first_allocation ≡ state_of key → ⊥
    other j h ne e = ne (key_same (get_or keys j 0) key (linked.small j h) small (sym (kept_there j h) ∙ e))

    pub found : (r : ℕ) → r < count → get_or keys r 0 ≡ key → Finds (states_of keys count) (state_of key) r
    found r h e = record {
      few = omega (arith, linked.few);
      within = rw kept_many h;
      is = sym (place_first (states_of keys count) (state_of key) r (rw kept_many (omega arith))
          (λ j o. other j (omega arith) (λ q. linked.apart j r o h (q ∙ sym e))) (λ _. kept_there r h ∙ ap state_of e));
    }

    pub not_found : ((j : ℕ) → j < count → get_or keys j 0 ≡ key → ⊥) → place_of (states_of keys count) (state_of key) ≡ length (states_of keys count)
    not_found others =
        rw kept_many (place_first (states_of keys count) (state_of key) count (rw kept_many (omega arith)) (λ j o. other j o (others j o))
        (λ o. absurd (omega (arith, kept_many))))

    -- No key is that of a state that is not there.
    pub no_key : place_of (states_of keys count) (state_of key) ≡ length (states_of keys count) → (j : ℕ) → j < count → get_or keys j 0 ≡ key → ⊥
    no_key e j h q = omega (arith, (found j h q).is, (found j h q).within)

    -- It is kept after the others.
    pub kept_more : count < state_limit → states_of (set keys count key) (count + 1) ≡ states_of keys count ++ state_of key ∷ []
    kept_more room = ap (map state_of) (take_more_set keys count key (omega (arith, long))) ∙ map-append state_of (take count keys) (key ∷ [])

-- A state met: it was there, or is appended.
pub meets_known : (states : List Allocation) (a : Allocation) (number : ℕ) → Finds states a number → Meets states a number states
meets_known states a number finds = record { few = omega (arith, finds.few); met = sym (known_met states a (omega (arith, finds.is, finds.within))); is = finds.is }

pub meets_new : (states after : List Allocation) (a : Allocation) (number : ℕ) → number < state_limit → place_of states a ≡ length states → number ≡ length states
    → after ≡ states ++ a ∷ [] → Meets states a number after
meets_new states after a number few new e more = record {
  few = omega arith;
  met = more ∙ sym (new_met states a new);
  is = rw more (e ∙ sym (place_own states a new));
}

-- There is no room for one that is new.
pub meets_over : (states : List Allocation) (a : Allocation) → place_of states a ≡ length states → state_limit ≤ length states → TooMany (met_with states a) Refusal.States
meets_over states a new full = record { number = refl; more = rw (new_met states a new, length-append) (omega arith) }
