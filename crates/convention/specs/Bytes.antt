-- Document 01: big-endian bytes, bytes laid one after the other, and what lent memory holds once they were written.
use Rattle.std.specs.Prelude.{ℕ, zero, suc, ◌+◌, ◌/◌, ◌%◌, ◌^◌, List, [], ◌∷◌, ◌++◌, length, take, drop}

-- 'two bytes, big-endian'.
abbrev pub two_bytes : ℕ → List ℕ
two_bytes x = x / 256 % 256 ∷ x % 256 ∷ []

-- 'in four bytes, big-endian'.
abbrev pub four_bytes : ℕ → List ℕ
four_bytes x = x / 2 ^ 24 % 256 ∷ x / 2 ^ 16 % 256 ∷ x / 256 % 256 ∷ x % 256 ∷ []

-- What d holds once bs was written from byte `at` on: the bytes before it and after it are untouched.
abbrev pub written : List ℕ → ℕ → List ℕ → List ℕ
written d at bs = take at d ++ (bs ++ drop (at + length bs) d)

-- The blocks of 0 to n - 1, one after the other.
unfoldable pub blocks : (ℕ → List ℕ) → ℕ → List ℕ
blocks block zero = []
blocks block (suc n) = blocks block n ++ block n
