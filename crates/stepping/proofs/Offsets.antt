-- The least offset as the code works it out: x is p's remainder, and y the remainder of what p lacks to the residue.
use Prim.Native.Nat.{ℕ, ◌+◌, ◌-◌, ◌%◌, ◌<◌}
use mathlib.Core.Path.{◌≡◌}
use Rattle.convention.specs.Offsets.{IsLeast, least_offset}
use Rattle.convention.proofs.Offsets.{least_is}

-- The sum is the definition's.
pub sum_is : (m r p x y : ℕ) → x ≡ p % m → y ≡ (m + r - x) % m → p + y ≡ least_offset m r p
unfolding least_offset
sum_is m r p x y ex ey = rw (ey, ex)

-- So it is the least offset, in 01's words.
pub sum_least : (m r p x y : ℕ) → x ≡ p % m → y ≡ (m + r - x) % m → r < m → IsLeast m r p (p + y)
sum_least m r p x y ex ey h = rw (sum_is m r p x y ex ey) (least_is m r p h)
