-- Sets of registers as numbers, a bit for each: what the code keeps where a definition has flags.
use Rattle.std.specs.Prelude.{ℕ, zero, suc, ◌-◌, ◌*◌, ◌/◌, ◌%◌, ◌^◌, ◌≡◌, Bool, true, false, List, [], ◌∷◌, eqb, get_or}

-- The flags of the first n registers, of the set that has a number: the first register is its last bit.
unfoldable pub set_of : ℕ → ℕ → List Bool
set_of zero number = []
set_of (suc n) number = eqb (number % 2) 1 ∷ set_of n (number / 2)

-- The number of the set of the `count` registers from `first` on.
abbrev pub run_bits : ℕ → ℕ → ℕ
run_bits first count = (2 ^ count - 1) * 2 ^ first

-- Each register of the first set is one of the second.
abbrev pub Among : List Bool → List Bool → Type 0
Among a b = (r : ℕ) → get_or a r false ≡ true → get_or b r false ≡ true
