-- The order of lists in which the judge's list is the first: strict, total, and kept by appending.
-- Lists of two lengths are ordered by length alone, and lists of one length by the first position where they differ, which no appending moves.
use Prim.Native.Nat.{ℕ, zero, suc, ◌<◌, suc-le-suc}
use native.Mathlib.Nat.{suc_inj}
use native.Mathlib.Omega.{arith}
use mathlib.Core.Path.{◌≡◌, refl, sym, ap, ap₂}
use mathlib.Core.Logic.{◌⊎◌, inl, inr, ⊎_map}
use mathlib.Core.List.{List, [], ◌∷◌, ◌++◌}
use lib.ListN.{length, length-append}
use Rattle.convention.specs.Orders.{Earlier, Before, NotAfter}

-- Two numbers are in order, the same, or in the other order.
compared : (m n : ℕ) → (m < n) ⊎ ((m ≡ n) ⊎ (n < m))
compared zero zero = inr (inl refl)
compared zero (suc n) = inl (omega arith)
compared (suc m) zero = inr (inr (omega arith))
compared (suc m) (suc n) = ⊎_map suc-le-suc (⊎_map (ap suc) suc-le-suc) (compared m n)

-- No list is earlier than itself in kind order.
earlier_irrefl : (l : List ℕ) → Earlier l l → ⊥
unfolding Earlier
earlier_irrefl [] e = e
earlier_irrefl (k ∷ ks) (inl h) = omega arith
earlier_irrefl (k ∷ ks) (inr e) = earlier_irrefl ks e.1

-- Earlier than what is earlier.
earlier_trans : (a b c : List ℕ) → Earlier a b → Earlier b c → Earlier a c
unfolding Earlier
earlier_trans [] b c e f = absurd e
earlier_trans (x ∷ a) [] c e f = absurd e
earlier_trans (x ∷ a) (y ∷ b) [] e f = absurd f
earlier_trans (x ∷ a) (y ∷ b) (z ∷ c) (inl h) (inl g) = inl (omega arith)
earlier_trans (x ∷ a) (y ∷ b) (z ∷ c) (inl h) (inr f) = inl (omega arith)
earlier_trans (x ∷ a) (y ∷ b) (z ∷ c) (inr e) (inl g) = inl (omega arith)
earlier_trans (x ∷ a) (y ∷ b) (z ∷ c) (inr e) (inr f) = inr (omega arith, earlier_trans a b c e.1 f.1)

-- Of two lists of one length that differ, one is earlier.
earlier_total : (a b : List ℕ) → length a ≡ length b → Earlier a b ⊎ ((a ≡ b) ⊎ Earlier b a)
unfolding Earlier
earlier_total [] [] e = inr (inl refl)
earlier_total [] (y ∷ b) e = absurd (omega arith)
earlier_total (x ∷ a) [] e = absurd (omega arith)
earlier_total (x ∷ a) (y ∷ b) e = elim (compared x y) [
  | inl h ↦ inl (inl h)
  | inr (inl q) ↦ ⊎_map (λ f. inr (q, f)) (⊎_map (ap₂ ◌∷◌ q) (λ f. inr (sym q, f))) (earlier_total a b (suc_inj e))
  | inr (inr h) ↦ inr (inr (inl h))
]

-- What is appended comes after the position where the two differ.
earlier_append : (a b c d : List ℕ) → Earlier a b → Earlier (a ++ c) (b ++ d)
unfolding Earlier
earlier_append [] b c d e = absurd e
earlier_append (x ∷ a) [] c d e = absurd e
earlier_append (x ∷ a) (y ∷ b) c d (inl h) = inl h
earlier_append (x ∷ a) (y ∷ b) c d (inr e) = inr (e.0, earlier_append a b c d e.1)

-- Lists that differ in the last kind alone.
earlier_last : (a : List ℕ) (k j : ℕ) → k < j → Earlier (a ++ k ∷ []) (a ++ j ∷ [])
unfolding Earlier
earlier_last [] k j h = inl h
earlier_last (x ∷ a) k j h = inr (refl, earlier_last a k j h)

-- No list is before itself.
pub before_irrefl : (l : List ℕ) → Before l l → ⊥
unfolding Before
before_irrefl l (inl h) = omega arith
before_irrefl l (inr e) = earlier_irrefl l e.1

-- Before what is before.
pub before_trans : (a b c : List ℕ) → Before a b → Before b c → Before a c
unfolding Before
before_trans a b c (inl h) (inl g) = inl (omega arith)
before_trans a b c (inl h) (inr f) = inl (omega arith)
before_trans a b c (inr e) (inl g) = inl (omega arith)
before_trans a b c (inr e) (inr f) = inr (omega arith, earlier_trans a b c e.1 f.1)

-- The empty list is before every other.
pub nil_before : (a : List ℕ) (k : ℕ) → Before [] (a ++ k ∷ [])
unfolding Before
nil_before a k = inl (simp length-append (omega arith))

-- Of two lists that differ, one is before the other.
pub before_total : (a b : List ℕ) → Before a b ⊎ ((a ≡ b) ⊎ Before b a)
unfolding Before
before_total a b = elim (compared (length a) (length b)) [
  | inl h ↦ inl (inl h)
  | inr (inl e) ↦ ⊎_map (λ f. inr (e, f)) (⊎_map (λ q. q) (λ f. inr (sym e, f))) (earlier_total a b e)
  | inr (inr h) ↦ inr (inr (inl h))
]

-- Appending lists of one length keeps the order.
pub before_append : (a b c d : List ℕ) → length c ≡ length d → Before a b → Before (a ++ c) (b ++ d)
unfolding Before
before_append a b c d e (inl h) = inl (simp length-append (omega arith))
before_append a b c d e (inr f) = inr (simp length-append (omega arith), earlier_append a b c d f.1)

-- Appending a kind to each keeps the order.
pub before_snoc : (a b : List ℕ) (k j : ℕ) → Before a b → Before (a ++ k ∷ []) (b ++ j ∷ [])
before_snoc a b k j h = before_append a b (k ∷ []) (j ∷ []) refl h

-- Appended to one list, the lower kind comes first.
pub snoc_earlier : (a : List ℕ) (k j : ℕ) → k < j → Before (a ++ k ∷ []) (a ++ j ∷ [])
unfolding Before
snoc_earlier a k j h = inr (simp length-append, earlier_last a k j h)

-- Not after what is before is before.
pub not_after_before : (a b c : List ℕ) → NotAfter a b → Before b c → Before a c
not_after_before a b c (inl e) h = rw e h
not_after_before a b c (inr g) h = before_trans a b c g h

-- Before what is not after is before.
pub before_not_after : (a b c : List ℕ) → Before a b → NotAfter b c → Before a c
before_not_after a b c g (inl e) = rw e at g
before_not_after a b c g (inr h) = before_trans a b c g h

-- Not after what is not after is not after.
pub not_after_trans : (a b c : List ℕ) → NotAfter a b → NotAfter b c → NotAfter a c
not_after_trans a b c (inl e) h = rw e h
not_after_trans a b c (inr g) h = inr (before_not_after a b c g h)

-- What is not after another has that other not before it.
pub not_after_strict : (a b : List ℕ) → NotAfter a b → Before b a → ⊥
not_after_strict a b n h = before_irrefl a (not_after_before a b a n h)

-- The same kind at both ends keeps it, too.
pub not_after_snoc : (a b : List ℕ) (k : ℕ) → NotAfter a b → NotAfter (a ++ k ∷ []) (b ++ k ∷ [])
not_after_snoc a b k (inl e) = inl (rw e)
not_after_snoc a b k (inr h) = inr (before_snoc a b k k h)
