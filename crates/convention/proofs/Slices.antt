-- The part of a slice that code hands on as `&s[at..]`, in the words of the definitions.
use Prim.Native.Nat.{ℕ, ◌-◌}
use mathlib.Core.Path.{◌≡◌}
use mathlib.Core.List.{List}
use native.Mathlib.Omega.{arith}
use lib.ListN.{length, take, drop, length-drop}
use lib.Seq.{take_all}

-- The part of a slice from `at` on.
pub rest_of : (s : List ℕ) (at : ℕ) → take (length s - at) (drop at s) ≡ drop at s
rest_of s at = take_all (length s - at) (drop at s) (rw length-drop (omega arith))
