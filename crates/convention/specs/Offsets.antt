-- Document 01, 'Placing by the rules' 2 and 'Placing by a table': the least offset.
use Rattle.std.specs.Prelude.{ℕ, ◌+◌, ◌-◌, ◌%◌, ◌≤◌, ◌≡◌}

-- 'the least offset, at least p, whose remainder by A is the residue'; a multiple of the alignment has remainder 0 by it.
pub record IsLeast (m r p o : ℕ) : Type 0 where
  pub at_least : p ≤ o
  pub remainder : o % m ≡ r
  pub least : (x : ℕ) → p ≤ x → x % m ≡ r → o ≤ x

-- That offset, worked out from p's remainder.
unfoldable pub least_offset : ℕ → ℕ → ℕ → ℕ
least_offset m r p = p + (m + r - p % m) % m
