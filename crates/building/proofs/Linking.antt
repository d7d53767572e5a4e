-- Laws of the links, on plain values: the search along them finds the only state that has a key, and one state more is linked in.
use Prim.Native.Nat.{ℕ, ◌+◌, ◌-◌, ◌≤◌, ◌<◌}
use mathlib.Core.Path.{◌≡◌, sym, ◌∙◌}
use mathlib.Core.Logic.{◌⊎◌, inl, inr}
use mathlib.Core.List.{List}
use native.Mathlib.Decide.{ℕ_discrete}
use native.Mathlib.Nat.{eq-or-lt_of_le}
use native.Mathlib.Omega.{arith}
use lib.ListN.{length, get_or, set, replicate, get_or-replicate}
use lib.Seq.{get_or-set_same, get_or-set_other}
use Rattle.convention.specs.Numbers.{state_limit}
use Rattle.building.specs.Keys.{key_limit}
use Rattle.building.specs.Links.{slot_count, slot_of, Link, Linked}

-- No state yet, and no link.
pub nothing_linked : Linked (replicate state_limit 0) (replicate state_limit 0) (replicate slot_count 0) 0
nothing_linked = record {
  few = omega arith;
  small = λ i h. absurd (omega arith);
  apart = λ i j o h. absurd (omega arith);
  before = λ i h. absurd (omega arith);
  first = λ slot h.
      let none : get_or (replicate {A = ℕ} slot_count 0) slot 0 ≡ 0 = get_or-replicate slot_count slot 0 0 (omega arith) in
      rw none (record { within = omega arith; there = λ o. absurd (omega arith); last = λ j o h. absurd (omega arith) });
}

-- A new key is kept after the others, and is the last of its slot.
module _ (keys links slots : List ℕ) (count key slot : ℕ) (linked : Linked keys links slots count) (room : count < state_limit)
    (long : length keys ≡ state_limit) (each : length links ≡ state_limit) (wide : length slots ≡ slot_count)
    (small : key < key_limit) (new : (j : ℕ) → j < count → get_or keys j 0 ≡ key → ⊥) (es : slot ≡ slot_of key) (inside : slot < slot_count) where
  abbrev after : List ℕ
  after = set keys count key

  here : get_or after count 0 ≡ key
  here = get_or-set_same keys count key 0 (omega (arith, long, room))

  stays : (j : ℕ) → j < count → get_or after j 0 ≡ get_or keys j 0
  stays j h = get_or-set_other keys count j key 0 (λ e. omega arith)

  old_or_new : (j : ℕ) → j < count + 1 → (j ≡ count) ⊎ (j < count)
  old_or_new j h = eq-or-lt_of_le (omega arith)

  -- A link among the states before it stays one.
  still : (s n link : ℕ) → n ≤ count → Link keys s n link → Link after s n link
  still s n link h l = record {
    within = l.within;
    there = λ o. rw (stays (link - 1) (omega (arith, l.within))) (l.there o);
    last = λ j o b q. l.last j o b (rw (stays j (omega arith)) at q);
  }

  pub one_linked : Linked (set keys count key) (set links count (get_or slots slot 0)) (set slots slot (count + 1)) (count + 1)
  one_linked = record {
    few = omega (arith, room);
    small = λ i h. elim (old_or_new i h) [ inl p ↦ rw (p, here) small | inr p ↦ rw (stays i p) (linked.small i p) ];
    apart = apart;
    before = before_each;
    first = first_each;
  }
    where
      apart : (i j : ℕ) → i < j → j < count + 1 → get_or after i 0 ≡ get_or after j 0 → ⊥
      apart i j o h e = elim (old_or_new j h) [
        | inl p ↦ new i (omega arith) (sym (stays i (omega arith)) ∙ e ∙ rw (p, here))
        | inr p ↦ linked.apart i j o p (sym (stays i (omega arith)) ∙ e ∙ stays j p)
      ]

      before_each : (i : ℕ) → i < count + 1 → Link after (slot_of (get_or after i 0)) i (get_or (set links count (get_or slots slot 0)) i 0)
      before_each i h = elim (old_or_new i h) [
        | inl p ↦
            let own = get_or-set_same links count (get_or slots slot 0) 0 (omega (arith, each, room)) in
            rw (p, here, own, ← es) (still slot count (get_or slots slot 0) (omega arith) (linked.first slot inside))
        | inr p ↦
            let same = get_or-set_other links count i (get_or slots slot 0) 0 (λ e. omega arith) in
            rw (stays i p, same) (still _ i _ (omega arith) (linked.before i p))
      ]

      first_each : (s : ℕ) → s < slot_count → Link after s (count + 1) (get_or (set slots slot (count + 1)) s 0)
      first_each s h = elim (ℕ_discrete s slot) [
        | yes p ↦
            let own = get_or-set_same slots slot (count + 1) 0 (omega (arith, wide)) in
            rw (p, own) (record {
              within = omega arith;
              there = λ o. let last : count + 1 - 1 ≡ count = omega arith in rw (last, here, es);
              last = λ j o b. absurd (omega arith);
            })
        | no p ↦
            let same = get_or-set_other slots slot s (count + 1) 0 (λ e. p e) in
            let link = still s count _ (omega arith) (linked.first s h) in
            rw same (record {
              within = omega (arith, link.within);
              there = link.there;
              last = λ j o b q. elim (old_or_new j b) [
                | inl e ↦ p (sym (rw (e, here) at q) ∙ sym es)
                | inr e ↦ link.last j o e q
              ];
            })
      ]
