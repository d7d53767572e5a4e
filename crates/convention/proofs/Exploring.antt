-- The laws of one exploration. E3, E4 and E6 hold of every tree, which is E1 and E2; E5 holds where all pairs were gone through. They are read off
-- what the scan keeps, most by going from an entry to its parent.
use Prim.Native.Nat.{ℕ, zero, suc, ◌≤◌, ◌<◌}
use native.Mathlib.Nat.{eq-or-lt_of_le}
use native.Mathlib.Omega.{arith}
use mathlib.Core.Path.{◌≡◌, refl, sym}
use mathlib.Core.Bool.{true}
use mathlib.Core.Logic.{inl, inr}
use mathlib.Core.List.{List, [], ◌∷◌, ◌++◌, append-nil}
use lib.ListN.{length, length-append}
use lib.Seq.{append_snoc}
use Rattle.convention.proofs.Pigeonhole.{pigeonhole}
use Rattle.convention.proofs.Shortlex.{before_snoc, snoc_earlier, nil_before, not_after_trans, not_after_snoc}
use Rattle.convention.proofs.Leading.{leads_snoc}
use Rattle.convention.proofs.Numbering.{Decides, node_number, number_of, Grows, grows_refl}
use Rattle.convention.proofs.Scanning.{sooner_split}
use Rattle.convention.specs.Orders.{Before, NotAfter}
use Rattle.convention.specs.Explored.{Automaton, Entry, entry, number, path_from, path, Leads}
use Rattle.convention.specs.Scanned.{Sooner, MetSooner, MetAt, Tree, Scanned}
use Rattle.convention.specs.Reached.{Reached}

-- The first entry's path is empty.
path_zero : (X : Automaton) (l : List (Entry X)) (t : ℕ) → path_from X l t 0 ≡ []
unfolding path_from
path_zero X l zero = refl
path_zero X l (suc t) = refl

module _ (X : Automaton) (l : List (Entry X)) (tree : Tree X l) where
  -- What holds of the first entry, and of each whose parent it holds of, holds of all.
  pub by_parents : (P : ℕ → Type 0) → P 0 → ((i : ℕ) → 0 < i → i < length l → P (entry X l i).parent → P i)
      → (i : ℕ) → i < length l → P i
  by_parents P first step i = below (suc i) i (omega arith)
    where
      below : (m i : ℕ) → i < m → i < length l → P i
      below zero i o h = absurd (omega arith)
      below (suc m) zero o h = first
      below (suc m) (suc i) o h =
          let c = tree.child (suc i) h (omega arith) in
          step (suc i) (omega arith) h (below m (entry X l (suc i)).parent (omega arith) (omega arith))

  -- What holds of the start, and is kept by each step, holds of each node met.
  pub nodes_hold : (P : X.Node → Type 0) → P X.start → ((s : X.Node) (k : ℕ) → P s → k < X.kinds → X.goes s k ≡ true → P (X.next s k))
      → (i : ℕ) → i < length l → P (entry X l i).node
  nodes_hold P first step = by_parents (λ i. P (entry X l i).node) (rw tree.first first)
      (λ i p h q. let c = tree.child i h p in rw c.next (step _ _ q c.kind_below c.goes))

  -- Enough turns give the path, also where more was met.
  path_agrees : (l' : List (Entry X)) → Grows X l l' → (t u i : ℕ) → i ≤ t → i ≤ u → i < length l
      → path_from X l' t i ≡ path_from X l u i
  unfolding path_from
  path_agrees l' g zero u zero p q h = sym (path_zero X l u)
  path_agrees l' g zero u (suc i) p q h = absurd (omega arith)
  path_agrees l' g (suc t) u zero p q h = sym (path_zero X l u)
  path_agrees l' g (suc t) zero (suc i) p q h = absurd (omega arith)
  path_agrees l' g (suc t) (suc u) (suc i) p q h =
      let c = tree.child (suc i) h (omega arith) in
      rw (g.entry_stays (suc i) h, path_agrees l' g t u (entry X l (suc i)).parent (omega arith) (omega arith) (omega arith))

  -- A path stays where more is met.
  pub path_stays : (l' : List (Entry X)) → Grows X l l' → (i : ℕ) → i < length l → path X l' i ≡ path X l i
  path_stays l' g i = path_agrees l' g i i i (omega arith) (omega arith)

  -- A path is the parent's path, and then the kind.
  pub path_suc : (i : ℕ) → 0 < i → i < length l → path X l i ≡ path X l (entry X l i).parent ++ (entry X l i).kind ∷ []
  unfolding path_from
  path_suc zero p h = absurd (omega arith)
  path_suc (suc i) p h =
      let c = tree.child (suc i) h p in
      let j = (entry X l (suc i)).parent in
      rw (path_agrees l (grows_refl X l) i j j (omega arith) (omega arith) (omega arith))

  -- E3. An entry's path leads to its node.
  pub leads : (i : ℕ) → i < length l → Leads X X.start (path X l i) (entry X l i).node
  unfolding Leads path_from
  leads = by_parents (λ i. Leads X X.start (path X l i) (entry X l i).node) (rw tree.first)
      (λ i p h q. let c = tree.child i h p in rw (path_suc i p h, c.next) (search leads_snoc))

  -- E4. Entries are in the order of their paths.
  pub ordered : (i j : ℕ) → i < j → j < length l → Before (path X l i) (path X l j)
  unfolding path_from
  ordered i j o h = by_parents (λ j. (i : ℕ) → i < j → Before (path X l i) (path X l j)) (λ i o. absurd (omega arith)) later j h i o
    where
      later : (j : ℕ) → 0 < j → j < length l
          → ((i : ℕ) → i < (entry X l j).parent → Before (path X l i) (path X l (entry X l j).parent))
          → (i : ℕ) → i < j → Before (path X l i) (path X l j)
      later j p h ih zero o = rw (path_suc j p h) (search nil_before)
      later j p h ih (suc i) o = elim (tree.rising j h (suc i) (omega arith) o) [
        | inl q ↦ rw (path_suc j p h, path_suc (suc i) (omega arith) (omega arith)) (search before_snoc)
        | inr q ↦ rw (path_suc j p h, path_suc (suc i) (omega arith) (omega arith), q.0) (search snoc_earlier)
      ]

  -- A sooner pair goes on along a list before that of a later one.
  pub sooner_before : (i k j q : ℕ) → j < length l → Sooner i k j q → Before (path X l i ++ k ∷ []) (path X l j ++ q ∷ [])
  sooner_before i k j q h (inl o) = before_snoc (path X l i) (path X l j) k q (ordered i j o h)
  sooner_before i k j q h (inr e) = rw e.0 (snoc_earlier (path X l j) k q e.1)

  -- So the path of an entry that a pair or a sooner one met is not after that of i, followed by k.
  path_first : (i k j : ℕ) → i < length l → j < length l → (0 < j → MetSooner (entry X l j) i (suc k)) → NotAfter (path X l j) (path X l i ++ k ∷ [])
  unfolding path_from
  path_first i k zero h h' s = inr (nil_before (path X l i) k)
  path_first i k (suc j) h h' s = rw (path_suc (suc j) (omega arith) h') (elim (sooner_split _ _ i k (s (omega arith))) [
    | inl o ↦ inr (sooner_before _ _ i k h o)
    | inr e ↦ inl (rw (e.0, e.1))
  ])

  -- E6. A path has no more kinds than there are entries before it.
  pub path_short : (i : ℕ) → i < length l → length (path X l i) ≤ i
  unfolding path_from
  path_short = by_parents (λ i. length (path X l i) ≤ i) (omega arith)
      (λ i p h q. let c = tree.child i h p in rw (path_suc i p h, length-append) (omega arith))

  -- E6. Nodes drawn from B values make at most B entries.
  pub few : (code : X.Node → ℕ) (B : ℕ) → ((a b : X.Node) → code a ≡ code b → a ≡ b)
      → ((i : ℕ) → i < length l → code (entry X l i).node < B) → length l ≤ B
  few code B inj below = pigeonhole (λ i. code (entry X l i).node) (length l) B below (λ i j o h e. tree.apart j h i o (inj _ _ e))

  -- An entry's node has the entry's number.
  pub number_entry : Decides X → (i : ℕ) → i < length l → number X l (entry X l i).node ≡ i
  number_entry D i h = elim (eq-or-lt_of_le (number_of X D l (entry X l i).node i h refl)) [
    | inl e ↦ e
    | inr o ↦ absurd (tree.apart i h _ o (node_number X D l (entry X l i).node (omega arith)))
  ]

module _ (X : Automaton) (D : Decides X) (l : List (Entry X)) (n : ℕ) (scanned : Scanned X l n 0) where
  -- What a pair that was gone through leads to was met, at its number.
  next_found : (i k : ℕ) → i < n → i < length l → k < X.kinds → X.goes (entry X l i).node k ≡ true
      → (m : MetAt X l i k) × (number X l (X.next (entry X l i).node k) ≡ m.place)
  next_found i k o h b w = let m = scanned.all i k (inl o) h b w in (m, rw (← m.node) (number_entry X l scanned.tree D m.place m.inside))

  -- Where a kind leads from an entry that was gone through, there is an entry.
  pub closed : (i k : ℕ) → i < n → i < length l → k < X.kinds → X.goes (entry X l i).node k ≡ true
      → number X l (X.next (entry X l i).node k) < length l
  closed i k o h b w = let m = next_found i k o h b w in rw m.1 m.0.inside

  -- That entry is the first, or was met by that pair or a sooner one.
  first_met : (i k : ℕ) → i < n → i < length l → k < X.kinds → X.goes (entry X l i).node k ≡ true
      → let j = number X l (X.next (entry X l i).node k) in 0 < j → MetSooner (entry X l j) i (suc k)
  first_met i k o h b w = let m = next_found i k o h b w in rw m.1 m.0.by

  -- E5, where a front of the list has led to entry i.
  earliest_from : length l ≤ n → (front ks : List ℕ) (t : X.Node) (i : ℕ) → i < length l
      → NotAfter (path X l i) front → Leads X (entry X l i).node ks t
      → (j : ℕ) × (j < length l) × ((entry X l j).node ≡ t) × NotAfter (path X l j) (front ++ ks)
  unfolding Leads
  earliest_from w front [] t i h f g = (i, h, g, rw append-nil f)
  earliest_from w front (k ∷ ks) t i h f g =
      let s = X.next (entry X l i).node k in
      let o = closed i k (omega arith) h g.0 g.1 in
      let first = path_first X l scanned.tree i k (number X l s) h o (first_met i k (omega arith) h g.0 g.1) in
      let f' = not_after_trans _ _ _ first (not_after_snoc _ _ k f) in
      rw (← (append_snoc front k ks)) (earliest_from w (front ++ k ∷ []) ks t (number X l s) o f' (rw (node_number X D l s o) g.2))

  -- E5. Where all pairs were gone through, a list leads to a node that was met, whose path is not after the list.
  pub earliest : length l ≤ n → (ks : List ℕ) (t : X.Node) → Leads X X.start ks t
      → (i : ℕ) × (i < length l) × ((entry X l i).node ≡ t) × NotAfter (path X l i) ks
  unfolding path_from
  earliest w ks t g = earliest_from w [] ks t 0 scanned.tree.some (inl refl) (rw scanned.tree.first g)

  -- So a node that is reached has an entry's number.
  pub reached_met : length l ≤ n → (t : X.Node) → Reached X t → number X l t < length l
  reached_met w t r = let e = earliest w r.0 t r.1 in omega (arith, number_of X D l t e.0 e.1 (sym e.2))
