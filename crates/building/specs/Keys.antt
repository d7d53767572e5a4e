-- The key by which the memory of the states met keeps an allocation state: one number that stands for its sixteen flags and its remainder.
use Rattle.std.specs.Prelude.{ℕ, ◌+◌, ◌-◌, ◌*◌, ◌/◌, ◌%◌, ◌^◌, ◌<◌, ◌≡◌, Bool, List, [], ◌∷◌, ◌++◌, take, drop, map}
use mir.Val.{bool_byte}
use Rattle.convention.specs.declared.Allocation.{Allocation}
use Rattle.stepping.specs.Sets.{set_of}

-- The number of a set of registers: the first counts 1, and each other twice what the one before it counts.
unfoldable pub set_number : List Bool → ℕ
set_number [] = 0
set_number (f ∷ fs) = bool_byte f + 2 * set_number fs

-- There are 65536 sets of sixteen registers; the remainder, a byte, counts as many for each.
abbrev pub key_of : Allocation → ℕ
key_of a = set_number a.unavailable + 65536 * a.remainder

abbrev pub state_of : ℕ → Allocation
state_of key = record { unavailable = set_of 16 (key % 65536); remainder = key / 65536 % 256 }

-- The states that the first so many keys stand for.
abbrev pub states_of : List ℕ → ℕ → List Allocation
states_of keys count = map state_of (take count keys)

-- There are 2 ^ 24 keys.
abbrev pub key_limit : ℕ
key_limit = 2 ^ 24

-- The key is that of the state, and the state can be had back from it: so two states are the same exactly where their keys are.
pub record KeyIs (key : ℕ) (a : Allocation) : Type 0 where
  pub number : key ≡ key_of a
  pub state : state_of key ≡ a
  pub small : key < key_limit

-- Half way down the registers of a set: the number is that of register i and those after it.
pub record NumberFrom (flags : List Bool) (i number : ℕ) : Type 0 where
  pub is : number ≡ set_number (drop i flags)
  pub small : number < 65536

-- Half way up the registers of the set that has a number: the flags before register i, and those that the rest of the number stands for.
pub record SetUpTo (number i rest : ℕ) (flags : List Bool) : Type 0 where
  pub is : take i flags ++ set_of (16 - i) rest ≡ set_of 16 number
