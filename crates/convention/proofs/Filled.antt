-- A loop that fills an array from the front, over any element: after i turns it holds the first i values and the blank after them.
use Prim.Native.Nat.{ℕ, suc, ◌+◌, ◌-◌, ◌≤◌, ◌<◌}
use mathlib.Core.Path.{◌≡◌}
use mathlib.Core.List.{List, ◌++◌, append_assoc}
use native.Mathlib.Omega.{arith}
use native.Mathlib.Numerals.{add-one}
use lib.ListN.{length, get_or, take, set, replicate}
use lib.Seq.{take-suc, set_at, length-take-le}

module _ {A : Type 0} (l : List A) (n : ℕ) (z : A) where
  -- The first i of l, and the blank z after them, n in all.
  abbrev pub filled : ℕ → List A
  filled i = take i l ++ replicate (n - i) z

  -- One more value stored.
  pub fill_turn : (a : List A) (i : ℕ) (d v : A) → a ≡ filled i → i < n → i < length l → get_or l i d ≡ v → set a i v ≡ filled (i + 1)
  fill_turn a i d v inv hn hl e =
      let left : n - i ≡ suc (n - (i + 1)) = omega arith in
      rw (inv, left, set_at (take i l) z (replicate (n - (i + 1)) z) v i (length-take-le i l (omega arith)), add-one, take-suc l i d hl, e, append_assoc)

  -- The last value was stored.
  pub fill_done : (a : List A) (i m : ℕ) → a ≡ filled i → i ≤ m → m ≤ i → a ≡ filled m
  fill_done a i m inv h h' =
      let same : m ≡ i = omega arith in
      rw same inv
