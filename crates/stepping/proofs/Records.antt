-- Laws of writing a placement's record: its six stores, and the case that the placement is known to be.
use Prim.Native.Nat.{ℕ, ◌+◌, ◌/◌, ◌%◌, ◌≤◌}
use mathlib.Core.Path.{◌≡◌}
use mathlib.Core.List.{List, [], ◌∷◌}
use native.Mathlib.Numerals.{add-one, add-two, add-three, add-four, add_five}
use lib.ListN.{length, set}
use Rattle.convention.specs.declared.Placement.{Placement}
use Rattle.convention.specs.declared.PlacementParts.{PlacementParts}
use Rattle.convention.specs.Bytes.{written}
use Rattle.convention.specs.Lists.{record_length, parts_of, record_of}
use Rattle.convention.proofs.Bytes.{written_sets}

-- Six bytes stored one after the other are the six bytes written.
pub stored_six : (d : List ℕ) (at a b c x y z : ℕ) → at + record_length ≤ length d
    → set (set (set (set (set (set d at a) (at + 1) b) (at + 2) c) (at + 3) x) (at + 4) y) (at + 5) z ≡ written d at (a ∷ b ∷ c ∷ x ∷ y ∷ z ∷ [])
stored_six d at a b c x y z h = rw (add-one, add-two, add-three, add-four, add_five) (written_sets d at (a ∷ b ∷ c ∷ x ∷ y ∷ z ∷ []) h)

-- So a placement's record is written by the bytes of what it is made of.
pub record_stored : (place : Placement) (parts : PlacementParts) (d : List ℕ) (at : ℕ) → parts ≡ parts_of place → at + record_length ≤ length d
    → set (set (set (set (set (set d at parts.form) (at + 1) (parts.number / 16777216 % 256)) (at + 2) (parts.number / 65536 % 256)) (at + 3)
    (parts.number / 256 % 256)) (at + 4) (parts.number % 256)) (at + 5) parts.count
    ≡ written d at (record_of place)
record_stored place parts d at e h = rw e (stored_six d at _ _ _ _ _ _ h)
