-- Document 01, 'Placing by a table': kind order, and the order of lists in which the judge's list is the first: shorter first, one length in kind order.
use Rattle.std.specs.Prelude.{ℕ, ◌<◌, ◌≡◌, ◌⊎◌, List, [], ◌∷◌, length}

-- 'Kind order compares two lists of one length by the kind number at the first position where they differ.'
unfoldable pub Earlier : List ℕ → List ℕ → Type 0
Earlier [] l = ⊥
Earlier (k ∷ ks) [] = ⊥
Earlier (k ∷ ks) (j ∷ js) = (k < j) ⊎ ((k ≡ j) × Earlier ks js)

-- Shorter, or as long and earlier in kind order.
unfoldable pub Before : List ℕ → List ℕ → Type 0
Before l l' = (length l < length l') ⊎ ((length l ≡ length l') × Earlier l l')

-- Before, or the same.
abbrev pub NotAfter : List ℕ → List ℕ → Type 0
NotAfter l l' = (l ≡ l') ⊎ Before l l'
