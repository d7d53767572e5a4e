-- The lists that trying goes through: what holds of each of them is what holds of every list of at most n known kinds, and they are in order.
use Prim.Native.Nat.{ℕ, zero, suc, ◌≤◌, ◌<◌}
use native.Mathlib.Nat.{eq-or-lt_of_le, le_of_eq}
use native.Mathlib.Omega.{arith}
use mathlib.Core.Path.{◌≡◌, refl, sym, ap, ◌∙◌}
use mathlib.Core.Logic.{inl, inr}
use mathlib.Core.List.{List, [], ◌∷◌, ◌++◌, map}
use lib.ListN.{length}
use Rattle.convention.specs.Orders.{Earlier, Before}
use Rattle.convention.specs.Lists.{KindsBelow}
use Rattle.convention.specs.Judged.{each_kind, lists_of, lists_up_to}

-- ---- several lists

-- Each of them has P.
unfoldable pub All : (List ℕ → Type 0) → List (List ℕ) → Type 0
All P [] = Unit {0}
All P (ks ∷ lists) = P ks × All P lists

-- Each is before those after it.
unfoldable pub Rising : List (List ℕ) → Type 0
Rising [] = Unit {0}
Rising (ks ∷ lists) = All (Before ks) lists × Rising lists

-- What follows of each.
pub all_each : {P Q : List ℕ → Type 0} (lists : List (List ℕ)) → ((ks : List ℕ) → P ks → Q ks) → All P lists → All Q lists
unfolding All
all_each [] f x = tt
all_each (ks ∷ lists) f x = (f ks x.0, all_each lists f x.1)

module _ (P : List ℕ → Type 0) where
  -- Those of two are those of the one and of the other.
  all_append : (a b : List (List ℕ)) → All P a → All P b → All P (a ++ b)
  unfolding All
  all_append [] b x y = y
  all_append (ks ∷ a) b x y = (x.0, all_append a b x.1 y)

  all_split : (a b : List (List ℕ)) → All P (a ++ b) → All P a × All P b
  unfolding All
  all_split [] b x = (tt, x)
  all_split (ks ∷ a) b x = let (y, z) = all_split a b x.1 in ((x.0, y), z)

  -- One kind in front of each.
  all_map : (k : ℕ) (lists : List (List ℕ)) → All (λ ks. P (k ∷ ks)) lists → All P (map (λ ks. k ∷ ks) lists)
  unfolding All
  all_map k [] x = tt
  all_map k (ks ∷ lists) x = (x.0, all_map k lists x.1)

  map_all : (k : ℕ) (lists : List (List ℕ)) → All P (map (λ ks. k ∷ ks) lists) → All (λ ks. P (k ∷ ks)) lists
  unfolding All
  map_all k [] x = tt
  map_all k (ks ∷ lists) x = (x.0, map_all k lists x.1)

  -- Each kind below m in front of each.
  all_kinds : (m : ℕ) (lists : List (List ℕ)) → ((k : ℕ) → k < m → All (λ ks. P (k ∷ ks)) lists) → All P (each_kind m lists)
  unfolding each_kind All
  all_kinds zero lists f = tt
  all_kinds (suc m) lists f =
      all_append (each_kind m lists) _ (all_kinds m lists (λ k h. f k (omega arith))) (all_map m lists (f m (omega arith)))

  kinds_all : (m : ℕ) (lists : List (List ℕ)) → All P (each_kind m lists) → (k : ℕ) → k < m → All (λ ks. P (k ∷ ks)) lists
  unfolding each_kind
  kinds_all zero lists x k h = absurd (omega arith)
  kinds_all (suc m) lists x k h =
      let (y, z) = all_split (each_kind m lists) _ x in
      elim (eq-or-lt_of_le {n = k} {m = m} (omega arith)) [ inl e ↦ rw e (map_all m lists z) | inr l ↦ kinds_all m lists y k l ]

-- ---- which they are

module _ (m : ℕ) where
  -- What holds of every list of n known kinds holds of each of those, and the other way round.
  all_lists : (n : ℕ) (P : List ℕ → Type 0) → ((ks : List ℕ) → KindsBelow m ks → length ks ≡ n → P ks) → All P (lists_of m n)
  unfolding lists_of KindsBelow All
  all_lists zero P f = (f [] tt refl, tt)
  all_lists (suc n) P f = all_kinds P m _ (λ k h. all_lists n (λ ks. P (k ∷ ks)) (λ ks b e. f (k ∷ ks) (h, b) (ap suc e)))

  lists_all : (ks : List ℕ) (P : List ℕ → Type 0) → All P (lists_of m (length ks)) → KindsBelow m ks → P ks
  unfolding lists_of KindsBelow All
  lists_all [] P x known = x.0
  lists_all (k ∷ ks) P x known = lists_all ks (λ ks. P (k ∷ ks)) (kinds_all P m _ x k known.0) known.1

  -- The same of every list of at most n known kinds.
  pub all_up_to : (n : ℕ) (P : List ℕ → Type 0) → ((ks : List ℕ) → KindsBelow m ks → length ks ≤ n → P ks) → All P (lists_up_to m n)
  unfolding lists_up_to
  all_up_to zero P f = all_lists 0 P (λ ks b e. f ks b (le_of_eq e))
  all_up_to (suc n) P f =
      all_append P (lists_up_to m n) _ (all_up_to n P (λ ks b h. f ks b (omega arith))) (all_lists (suc n) P (λ ks b e. f ks b (le_of_eq e)))

  pub up_to_each : (n : ℕ) (P : List ℕ → Type 0) → All P (lists_up_to m n) → (ks : List ℕ) → KindsBelow m ks → length ks ≤ n → P ks
  unfolding lists_up_to
  up_to_each zero P x ks known h = let e : length ks ≡ 0 = omega arith in lists_all ks P (rw e x) known
  up_to_each (suc n) P x ks known h =
      let (y, z) = all_split P (lists_up_to m n) _ x in
      elim (eq-or-lt_of_le h) [ inl e ↦ lists_all ks P (rw e z) known | inr l ↦ up_to_each n P y ks known (omega arith) ]

-- ---- in which order

-- One kind in front of two lists keeps their order; of two kinds in front of lists of one length the lower comes first.
cons_keeps : (k : ℕ) (a b : List ℕ) → Before a b → Before (k ∷ a) (k ∷ b)
unfolding Before Earlier
cons_keeps k a b (inl h) = inl (omega arith)
cons_keeps k a b (inr e) = inr (omega arith, inr (refl, e.1))

cons_before : (k j : ℕ) (a b : List ℕ) → k < j → length a ≡ length b → Before (k ∷ a) (j ∷ b)
unfolding Before Earlier
cons_before k j a b h e = inr (omega arith, inl h)

-- Lists in order, followed by others in order that are after each of them.
rising_append : (a b : List (List ℕ)) → Rising a → Rising b → All (λ ks. All (Before ks) b) a → Rising (a ++ b)
unfolding Rising All
rising_append [] b x y z = y
rising_append (ks ∷ a) b x y z = (all_append (Before ks) a b x.0 z.0, rising_append a b x.1 y z.1)

-- One kind, and each kind below m, in front of lists in order.
rising_map : (k : ℕ) (lists : List (List ℕ)) → Rising lists → Rising (map (λ ks. k ∷ ks) lists)
unfolding Rising
rising_map k [] x = tt
rising_map k (ks ∷ lists) x = (all_map _ k lists (all_each lists (cons_keeps k ks) x.0), rising_map k lists x.1)

rising_kinds : (m n : ℕ) (lists : List (List ℕ)) → All (λ ks. length ks ≡ n) lists → Rising lists → Rising (each_kind m lists)
unfolding Rising each_kind
rising_kinds zero n lists same x = tt
rising_kinds (suc m) n lists same x = rising_append (each_kind m lists) _ (rising_kinds m n lists same x) (rising_map m lists x)
    (all_kinds _ m lists (λ k h. all_each lists (λ a e. all_map _ m lists (all_each lists (λ b e'. cons_before k m a b h (e ∙ sym e')) same)) same))

-- The lists of n kinds, and those of at most n.
rising_lists : (m n : ℕ) → Rising (lists_of m n)
unfolding Rising All lists_of
rising_lists m zero = (tt, tt)
rising_lists m (suc n) = rising_kinds m n (lists_of m n) (all_lists m n _ (λ ks b e. e)) (rising_lists m n)

pub rising_up_to : (m n : ℕ) → Rising (lists_up_to m n)
unfolding Before lists_up_to
rising_up_to m zero = rising_lists m zero
rising_up_to m (suc n) =
    rising_append (lists_up_to m n) (lists_of m (suc n)) (rising_up_to m n) (rising_lists m (suc n))
    (all_up_to m n _ (λ a _ h. all_lists m (suc n) _ (λ b _ e. inl (omega arith))))
