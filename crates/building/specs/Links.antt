-- How the memory of the states met finds one: each has a slot, by its key, and links lead through the states of a slot from the last one met to the first.
use Rattle.std.specs.Prelude.{ℕ, ◌-◌, ◌*◌, ◌/◌, ◌%◌, ◌≤◌, ◌<◌, ◌^◌, ◌≡◌, List, get_or}
use Rattle.convention.specs.Numbers.{state_limit}
use Rattle.building.specs.Keys.{key_limit}

-- How many slots there are.
abbrev pub slot_count : ℕ
slot_count = 512

-- The slot of a key. Any function serves: nothing but speed rests on it.
unfoldable pub slot_of : ℕ → ℕ
slot_of key = key * 2654435769 / 2 ^ 23 % slot_count

-- A link to the last state of a slot among the first so many: its number plus 1, or 0 where there is none.
pub record Link (keys : List ℕ) (slot count link : ℕ) : Type 0 where
  pub within : link ≤ count
  pub there : 0 < link → slot_of (get_or keys (link - 1) 0) ≡ slot
  pub last : (j : ℕ) → link ≤ j → j < count → slot_of (get_or keys j 0) ≡ slot → ⊥

-- So many keys, all different, in the room for as many states as a table may have: from each a link to one before it, and from each slot a link to one of all.
pub record Linked (keys links slots : List ℕ) (count : ℕ) : Type 0 where
  pub few : count ≤ state_limit
  pub small : (i : ℕ) → i < count → get_or keys i 0 < key_limit
  pub apart : (i j : ℕ) → i < j → j < count → get_or keys i 0 ≡ get_or keys j 0 → ⊥
  pub before : (i : ℕ) → i < count → Link keys (slot_of (get_or keys i 0)) i (get_or links i 0)
  pub first : (slot : ℕ) → slot < slot_count → Link keys slot count (get_or slots slot 0)

-- Half way along the links of a key's slot: none of the keys from number `at` on is it.
pub record Seeking (keys : List ℕ) (count key at : ℕ) : Type 0 where
  pub within : at ≤ count
  pub there : 0 < at → slot_of (get_or keys (at - 1) 0) ≡ slot_of key
  pub others : (j : ℕ) → at ≤ j → j < count → get_or keys j 0 ≡ key → ⊥
