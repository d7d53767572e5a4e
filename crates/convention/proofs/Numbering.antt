-- Numbers of nodes, and entries that grow: what was met keeps its number, and what is new is appended.
use Prim.Native.Nat.{ℕ, zero, suc, ◌≤◌, ◌<◌, zero-le}
use native.Mathlib.Decide.{le_ind, dec_lt}
use native.Mathlib.Omega.{arith}
use mathlib.Core.Path.{◌≡◌, refl, ap, ◌∙◌}
use mathlib.Core.Bool.{true, false}
use mathlib.Core.Logic.{inl, inr}
use mathlib.Core.List.{List, [], ◌∷◌, ◌++◌}
use lib.Dec.{ltb}
use lib.ListN.{length, length-append, get_or-append}
use borrow.Author.Tests.{lt-ltb, le-ltb}
use Rattle.convention.proofs.Runs.{either}
use Rattle.convention.specs.Explored.{Automaton, Entry, first_entry, entry, number, meet, met_from, through, met, met_up_to}

-- ---- numbers

-- The test of two nodes tells whether they are the same.
pub record Decides (X : Automaton) : Type 0 where
  pub same_eq : (a b : X.Node) → X.same a b ≡ true → a ≡ b
  pub same_refl : (a : X.Node) → X.same a a ≡ true

module _ (X : Automaton) where
  -- The place of the first entry that is the same is the number.
  pub number_first : (l : List (Entry X)) (s : X.Node) (r : ℕ) → r ≤ length l → ((j : ℕ) → j < r → X.same (entry X l j).node s ≡ false)
      → (r < length l → X.same (entry X l r).node s ≡ true) → r ≡ number X l s
  unfolding number
  number_first [] s r h others there = omega arith
  number_first (e ∷ l) s zero h others there = rw (there (omega arith), number)
  number_first (e ∷ l) s (suc r) h others there = rw (others 0 (omega arith), number)
      (ap suc (number_first l s r (omega arith) (λ j o. others (suc j) (omega arith)) (λ o. there (omega arith))))

module _ (X : Automaton) (D : Decides X) where
  -- At a node's number, where that is an entry's, stands the node.
  pub node_number : (l : List (Entry X)) (s : X.Node) → number X l s < length l → (entry X l (number X l s)).node ≡ s
  unfolding number
  node_number [] s h = absurd (omega arith)
  node_number (e ∷ l) s h = elim (either (X.same e.node s)) [
    | inl t ↦ rw (t, number) (D.same_eq e.node s t)
    | inr t ↦ rw (t, number) (node_number l s (omega (arith, rw (t, number) at h)))
  ]

  -- A node's number is no later than any entry of that node.
  pub number_of : (l : List (Entry X)) (s : X.Node) (i : ℕ) → i < length l → s ≡ (entry X l i).node → number X l s ≤ i
  unfolding number
  number_of [] s i h e = absurd (omega arith)
  number_of (x ∷ l) s zero h e = rw (e, D.same_refl x.node, number) (omega arith)
  number_of (x ∷ l) s (suc i) h e = elim (either (X.same x.node s)) [
    | inl t ↦ rw (t, number) (omega arith)
    | inr t ↦ rw (t, number) (omega (arith, number_of l s i (omega arith) e))
  ]

  -- Nodes with one number, an entry's, are the same.
  pub number_same : (l : List (Entry X)) (s t : X.Node) → number X l s < length l → number X l s ≡ number X l t → s ≡ t
  number_same l s t h e = cc (node_number l s h, node_number l t (rw e at h))

  -- What is appended, where its node has no entry, gets the number of that place.
  pub number_own : (l : List (Entry X)) (e : Entry X) → length l ≤ number X l e.node → number X (l ++ e ∷ []) e.node ≡ length l
  unfolding number
  number_own [] e h = rw (D.same_refl e.node, number)
  number_own (x ∷ l) e h = elim (either (X.same x.node e.node)) [
    | inl t ↦ absurd (omega (arith, rw (t, number) at h))
    | inr t ↦ rw (t, number) (ap suc (number_own l e (omega (arith, rw (t, number) at h))))
  ]

-- ---- growing

-- l' goes on from l: the entries of l keep their places.
pub record Grows (X : Automaton) (l l' : List (Entry X)) : Type 0 where
  pub longer : length l ≤ length l'
  pub entry_stays : (i : ℕ) → i < length l → entry X l' i ≡ entry X l i

module _ (X : Automaton) where
  -- Nothing appended.
  pub grows_refl : (l : List (Entry X)) → Grows X l l
  grows_refl l = record { longer = omega arith; entry_stays = λ i h. refl }

  -- Appended twice.
  pub grows_trans : {a b c : List (Entry X)} → Grows X a b → Grows X b c → Grows X a c
  grows_trans g h = record { longer = omega arith; entry_stays = λ i k. h.entry_stays i (omega arith) ∙ g.entry_stays i k }

  -- One entry appended.
  pub snoc_grows : (l : List (Entry X)) (e : Entry X) → Grows X l (l ++ e ∷ [])
  snoc_grows l e = record { longer = simp length-append (omega arith); entry_stays = get_or-append l (e ∷ []) (first_entry X) }

  -- A node that was met is not appended; a new one is.
  pub meet_known : (l : List (Entry X)) (e : Entry X) → number X l e.node < length l → meet X l e ≡ l
  unfolding meet
  meet_known l e h = rw (lt-ltb _ _ h, meet)

  pub meet_new : (l : List (Entry X)) (e : Entry X) → length l ≤ number X l e.node → meet X l e ≡ l ++ e ∷ []
  unfolding meet
  meet_new l e h = rw (le-ltb _ _ h, meet)

  -- One node met.
  pub meet_grows : (l : List (Entry X)) (e : Entry X) → Grows X l (meet X l e)
  meet_grows l e = elim (dec_lt (number X l e.node) (length l)) [
    | yes h ↦ rw (meet_known l e h) (grows_refl l)
    | no h ↦ rw (meet_new l e (omega arith)) (snoc_grows l e)
  ]

  -- More entries than a limit stay more.
  pub still_more : (limit : ℕ) (l : List (Entry X)) (e : Entry X) → limit < length l → limit < length (meet X l e)
  still_more limit l e h = omega (arith, (meet_grows l e).longer)

  -- One more kind gone through.
  met_from_more : (l : List (Entry X)) (s : X.Node) (i j : ℕ) → Grows X (met_from X l s i j) (met_from X l s i (suc j))
  unfolding met_from
  met_from_more l s i j = elim (either (X.goes s j)) [ inl t ↦ rw (t, met_from) (meet_grows _ _) | inr t ↦ rw (t, met_from) (grows_refl _) ]

  -- More kinds gone through.
  pub met_from_grows : (l : List (Entry X)) (s : X.Node) (i k j : ℕ) → k ≤ j → Grows X (met_from X l s i k) (met_from X l s i j)
  met_from_grows l s i k = le_ind (λ j. Grows X (met_from X l s i k) (met_from X l s i j)) (grows_refl _) (λ j h g. grows_trans g (met_from_more l s i j))

  -- One more entry gone through.
  pub through_grows : (l : List (Entry X)) (i : ℕ) → Grows X l (through X l i)
  unfolding through met_from
  through_grows l i = elim (either (ltb i (length l))) [
    | inl t ↦ rw (t, through) (met_from_grows l (entry X l i).node i 0 X.kinds zero-le)
    | inr t ↦ rw (t, through) (grows_refl l)
  ]

  -- More entries gone through.
  pub met_grows : (n m : ℕ) → n ≤ m → Grows X (met X n) (met X m)
  unfolding met
  met_grows n = le_ind (λ m. Grows X (met X n) (met X m)) (grows_refl _) (λ m h g. grows_trans g (through_grows (met X m) m))

  -- There is a first entry.
  pub met_some : (n : ℕ) → 0 < length (met X n)
  unfolding met
  met_some n = (met_grows 0 n zero-le).longer

  -- It is the start.
  pub met_start : (n : ℕ) → entry X (met X n) 0 ≡ first_entry X
  unfolding met
  met_start n = (met_grows 0 n zero-le).entry_stays 0 (omega arith)

  -- A scan that has gone through all its entries is whole: it meets nothing more.
  pub whole : (n m : ℕ) → length (met X n) ≤ n → n ≤ m → met X m ≡ met X n
  unfolding met through
  whole n m w = le_ind (λ m. met X m ≡ met X n) refl (λ m h e. rw (le-ltb m (length (met X m)) (omega (arith, ap length e)), through) e) m

module _ (X : Automaton) (i : ℕ) (h : i < length (met X i)) where
  -- Entry i is gone through once all its kinds were.
  pub up_to_all : met X (suc i) ≡ met_up_to X i X.kinds
  unfolding met through
  up_to_all = rw (lt-ltb i (length (met X i)) h, through)

  -- It is there meanwhile, with its node.
  pub up_to_there : (k : ℕ) → i < length (met_up_to X i k)
  unfolding met_from
  up_to_there k = omega (arith, (met_from_grows X (met X i) (entry X (met X i) i).node i 0 k zero-le).longer)

  -- The entries keep their places where the scan goes on.
  pub up_to_grows : (k n : ℕ) → k ≤ X.kinds → i < n → Grows X (met_up_to X i k) (met X n)
  up_to_grows k n b o =
      let next = met_grows X (suc i) n o in
      grows_trans X (met_from_grows X (met X i) (entry X (met X i) i).node i k X.kinds b) (rw up_to_all at next)

  pub up_to_node : (n : ℕ) → i < n → (entry X (met X n) i).node ≡ (entry X (met X i) i).node
  unfolding met_from
  up_to_node n o = ap (λ (e : Entry X). e.node) ((up_to_grows 0 n zero-le o).entry_stays i h)
