-- What a scan keeps, pair by pair: when it comes to the pair of entry i and kind k, the entries are distinct, each was met from an entry before it,
-- their pairs of parent and kind increase, and each sooner pair leads to an entry that was met no later than there.
use Prim.Native.Nat.{ℕ, zero, suc, ◌≤◌, ◌<◌, zero-le}
use native.Mathlib.Nat.{le_of_suc-le-suc, eq-or-lt_of_le}
use native.Mathlib.Decide.{dec_lt}
use native.Mathlib.Numerals.{add-one}
use native.Mathlib.Omega.{arith}
use mathlib.Core.Path.{◌≡◌, refl, sym, ap, ◌∙◌}
use mathlib.Core.Bool.{true, false, true≢false}
use mathlib.Core.Logic.{◌⊎◌, inl, inr, ⊎_elim}
use mathlib.Core.List.{List, [], ◌∷◌, ◌++◌}
use lib.Dec.{ltb}
use lib.ListN.{length, length-append, get_or-append}
use lib.Seq.{get_or-append_seam}
use borrow.Author.Tests.{ltb-true, ltb-false}
use Rattle.convention.proofs.Runs.{either}
use Rattle.convention.proofs.Numbering.{Decides, node_number, number_of, Grows, grows_refl, snoc_grows, meet_known, meet_new, met_from_grows}
use Rattle.convention.specs.Explored.{Automaton, Entry, first_entry, entry, number, meet, met_from, through, met, met_up_to}
use Rattle.convention.specs.Scanned.{Sooner, MetSooner, Child, MetAt, Tree, Scanned}

-- What is sooner than a pair is of no later an entry.
sooner_le : (a q i k : ℕ) → Sooner a q i k → a ≤ i
sooner_le a q i k (inl h) = omega arith
sooner_le a q i k (inr h) = omega arith

-- Sooner than a pair is sooner than the next.
sooner_suc : (a q i k : ℕ) → Sooner a q i k → Sooner a q i (suc k)
sooner_suc a q i k (inl h) = inl h
sooner_suc a q i k (inr h) = inr (omega arith)

-- Sooner than the next is sooner, or that very pair.
pub sooner_split : (a q i k : ℕ) → Sooner a q i (suc k) → Sooner a q i k ⊎ ((a ≡ i) × (q ≡ k))
sooner_split a q i k (inl h) = inl (inl h)
sooner_split a q i k (inr h) = elim (eq-or-lt_of_le (le_of_suc-le-suc h.1)) [ inl e ↦ inr (h.0, e) | inr o ↦ inl (inr (h.0, o)) ]

module _ (X : Automaton) (l l' : List (Entry X)) (g : Grows X l l') where
  -- A child stays a child where more is appended.
  child_stays : (i : ℕ) (e : Entry X) → i ≤ length l → Child X l i e → Child X l' i e
  child_stays i e h c =
      let q : entry X l' e.parent ≡ entry X l e.parent = g.entry_stays e.parent (omega arith) in
      record { lower = c.lower; kind_below = c.kind_below; goes = rw q c.goes; next = rw q c.next }

  -- What was found stays where more is appended.
  found_stays : (i k : ℕ) → i < length l → MetAt X l i k → MetAt X l' i k
  found_stays i k h m =
      let p : entry X l' m.place ≡ entry X l m.place = g.entry_stays m.place m.inside in
      let q : entry X l' i ≡ entry X l i = g.entry_stays i h in
      record { place = m.place; inside = omega arith; node = rw (p, q) m.node; by = rw p m.by }

module _ (X : Automaton) (l : List (Entry X)) (x : Entry X) where
  -- What holds of each entry, and of one more, holds where that one is appended.
  pub snoc_each : (P : ℕ → Entry X → Type 0) → ((j : ℕ) → j < length l → P j (entry X l j)) → P (length l) x
      → (j : ℕ) → j < length (l ++ x ∷ []) → P j (entry X (l ++ x ∷ []) j)
  snoc_each P old new j h = elim (eq-or-lt_of_le (le_of_suc-le-suc (rw (length-append, add-one) at h))) [
    | inl e ↦ rw (e, get_or-append_seam l x [] (first_entry X)) new
    | inr o ↦ rw (get_or-append l (x ∷ []) (first_entry X) j o) (old j o)
  ]

  -- One more entry: a child, of a new node, its pair after the others.
  tree_snoc : Tree X l → Child X l (length l) x → ((i : ℕ) → i < length l → (entry X l i).node ≡ x.node → ⊥)
      → ((i : ℕ) → 0 < i → i < length l → MetSooner (entry X l i) x.parent x.kind) → Tree X (l ++ x ∷ [])
  tree_snoc t c new last = record {
    first = stays 0 t.some ∙ t.first;
    some = simp length-append (omega arith);
    apart = snoc_each (λ j y. (i : ℕ) → i < j → (entry X (l ++ x ∷ []) i).node ≡ y.node → ⊥)
        (λ j h i o. rw (stays i (omega arith)) (t.apart j h i o))
        (λ i o. rw (stays i o) (new i o));
    child = snoc_each (λ j y. 0 < j → Child X (l ++ x ∷ []) j y)
        (λ j h p. child_stays X l (l ++ x ∷ []) (snoc_grows X l x) j (entry X l j) (omega arith) (t.child j h p))
        (λ p. child_stays X l (l ++ x ∷ []) (snoc_grows X l x) (length l) x (omega arith) c);
    rising = snoc_each (λ j y. (i : ℕ) → 0 < i → i < j → MetSooner (entry X (l ++ x ∷ []) i) y.parent y.kind)
        (λ j h i p o. rw (stays i (omega arith)) (t.rising j h i p o))
        (λ i p o. rw (stays i o) (last i p o));
  }
    where
      stays : (i : ℕ) → i < length l → entry X (l ++ x ∷ []) i ≡ entry X l i
      stays = (snoc_grows X l x).entry_stays

module _ (X : Automaton) (l : List (Entry X)) (i k : ℕ) (c : Scanned X l i k) (h : i < length l) where
  -- The entries' pairs are sooner than the next pair, too.
  from_suc : (j : ℕ) → j < length l → 0 < j → MetSooner (entry X l j) i (suc k)
  from_suc j o p = sooner_suc _ _ i k (c.from j o p)

  -- The pair (i, k) gone through: what it leads to is there then.
  stepped : (l' : List (Entry X)) → Grows X l l' → Tree X l'
      → ((j : ℕ) → j < length l' → 0 < j → MetSooner (entry X l' j) i (suc k))
      → (X.goes (entry X l i).node k ≡ true → MetAt X l' i k) → Scanned X l' i (suc k)
  stepped l' g t from m = record { tree = t; from = from; all = λ a q o _. every a q (sooner_split a q i k o) }
    where
      every : (a q : ℕ) → Sooner a q i k ⊎ ((a ≡ i) × (q ≡ k)) → q < X.kinds → X.goes (entry X l' a).node q ≡ true → MetAt X l' a q
      every a q (inl o) b w =
          let h : a < length l = omega (arith, sooner_le a q i k o) in
          found_stays X l l' g a q h (c.all a q o h b (rw (g.entry_stays a h) at w))
      every a q (inr e) b w = rw (e.0, e.1) (m (rw (e.0, e.1, g.entry_stays i h) at w))

  -- It is gone through with nothing appended.
  stayed : (X.goes (entry X l i).node k ≡ true → MetAt X l i k) → Scanned X l i (suc k)
  stayed = stepped l (grows_refl X l) c.tree from_suc

  -- It leads to a new node, which is appended.
  appended : (n : X.Node) → k < X.kinds → X.goes (entry X l i).node k ≡ true → n ≡ X.next (entry X l i).node k
      → ((j : ℕ) → j < length l → (entry X l j).node ≡ n → ⊥)
      → Scanned X (l ++ record { node = n; parent = i; kind = k } ∷ []) i (suc k)
  appended n b w e new = stepped (l ++ x ∷ []) (snoc_grows X l x)
      (tree_snoc X l x c.tree (record { lower = h; kind_below = b; goes = w; next = e }) new (λ j p o. c.from j o p))
      (snoc_each X l x (λ j y. 0 < j → MetSooner y i (suc k)) from_suc (λ p. inr (refl, omega arith)))
      (λ _. record {
        place = length l;
        inside = simp length-append (omega arith);
        node = rw (get_or-append_seam l x [] (first_entry X), (snoc_grows X l x).entry_stays i h) e;
        by = rw (get_or-append_seam l x [] (first_entry X)) (λ p. inr (refl, omega arith));
      })
    where
      x : Entry X
      x = record { node = n; parent = i; kind = k }

module _ (X : Automaton) (D : Decides X) where
  -- Kind k leads on from entry i, whose node is s: where it leads is met.
  pub meet_scanned : (l : List (Entry X)) (i k : ℕ) → Scanned X l i k → i < length l
      → (s : X.Node) → (entry X l i).node ≡ s → k < X.kinds → X.goes s k ≡ true
      → Scanned X (meet X l (record { node = X.next s k; parent = i; kind = k })) i (suc k)
  meet_scanned l i k c h s e b w = elim (dec_lt (number X l (X.next s k)) (length l)) [
    | yes o ↦ rw (meet_known X l there o) (stayed X l i k c h (λ _. known o))
    | no o ↦ rw (meet_new X l there (omega arith)) (appended X l i k c h (X.next s k) b (rw e w) (rw e) (new (omega arith)))
  ]
    where
      there : Entry X
      there = record { node = X.next s k; parent = i; kind = k }

      known : number X l (X.next s k) < length l → MetAt X l i k
      known o = record {
        place = number X l (X.next s k);
        inside = o;
        node = rw e (node_number X D l (X.next s k) o);
        by = from_suc X l i k c h (number X l (X.next s k)) o;
      }

      new : length l ≤ number X l (X.next s k) → (j : ℕ) → j < length l → (entry X l j).node ≡ X.next s k → ⊥
      new o j n q = omega (arith, number_of X D l (X.next s k) j n (sym q))

  -- Kind k leads nowhere from entry i.
  pub pass_scanned : (l : List (Entry X)) (i k : ℕ) → Scanned X l i k → i < length l → X.goes (entry X l i).node k ≡ false → Scanned X l i (suc k)
  pass_scanned l i k c h f = stayed X l i k c h (λ w. absurd (true≢false (sym w ∙ f)))

  -- One more kind gone through at entry i.
  kind_scanned : (l : List (Entry X)) (i j : ℕ) → i < length l → j < X.kinds → Scanned X (met_from X l (entry X l i).node i j) i j
      → Scanned X (met_from X l (entry X l i).node i (suc j)) i (suc j)
  unfolding met_from
  kind_scanned l i j h b c = elim (either (X.goes (entry X l i).node j)) [
    | inl t ↦ rw (t, met_from) (meet_scanned (met_from X l (entry X l i).node i j) i j c inside (entry X l i).node same b t)
    | inr t ↦ rw (t, met_from) (pass_scanned (met_from X l (entry X l i).node i j) i j c inside (rw same t))
  ]
    where
      same : (entry X (met_from X l (entry X l i).node i j) i).node ≡ (entry X l i).node
      same = ap (λ (e : Entry X). e.node) ((met_from_grows X l (entry X l i).node i 0 j zero-le).entry_stays i h)

      inside : i < length (met_from X l (entry X l i).node i j)
      inside = omega (arith, (met_from_grows X l (entry X l i).node i 0 j zero-le).longer)

  -- The kinds below j gone through at entry i.
  met_from_scanned : (l : List (Entry X)) (i j : ℕ) → i < length l → j ≤ X.kinds → Scanned X l i 0
      → Scanned X (met_from X l (entry X l i).node i j) i j
  unfolding met_from
  met_from_scanned l i zero h b c = c
  met_from_scanned l i (suc j) h b c = kind_scanned l i j h b (met_from_scanned l i j h (omega arith) c)

  -- Entry i is done: each of its pairs, and each before, was gone through.
  done : (l : List (Entry X)) (i k : ℕ) → Scanned X l i k
      → ((a q : ℕ) → a < length l → q < X.kinds → a ≤ i → Sooner a q i k) → Scanned X l (suc i) 0
  done l i k c last = record {
    tree = c.tree;
    from = λ j h p. inl (omega (arith, sooner_le _ _ i k (c.from j h p)));
    all = λ a q o h b. c.all a q (last a q h b (⊎_elim le_of_suc-le-suc (λ e. absurd (omega arith)) o)) h b;
  }

  -- Each kind of entry i was gone through.
  pub row_scanned : (l : List (Entry X)) (i : ℕ) → Scanned X l i X.kinds → Scanned X l (suc i) 0
  row_scanned l i c = done l i X.kinds c (λ a q h b o. ⊎_elim (λ e. inr (e, b)) inl (eq-or-lt_of_le o))

  -- Entry i gone through, where there is one.
  through_scanned : (l : List (Entry X)) (i : ℕ) → Scanned X l i 0 → Scanned X (through X l i) (suc i) 0
  unfolding through
  through_scanned l i c = elim (either (ltb i (length l))) [
    | inl t ↦ rw (t, through) (row_scanned _ i (met_from_scanned l i X.kinds (ltb-true _ _ t) (omega arith) c))
    | inr t ↦ rw (t, through) (done l i 0 c (λ a q h b o. inl (omega (arith, ltb-false i (length l) t))))
  ]

  -- Nothing but the start was met.
  pub start_scanned : Scanned X (first_entry X ∷ []) 0 0
  start_scanned = record {
    tree = record { first = refl; some = omega arith; apart = omega arith; child = λ j h p. absurd (omega arith); rising = λ j h i p o. absurd (omega arith) };
    from = λ j h p. absurd (omega arith);
    all = λ a q o. absurd (⊎_elim (λ n. omega arith) (λ e. omega arith) o);
  }

  -- The entries below n gone through; and the kinds below k of entry i.
  pub met_scanned : (n : ℕ) → Scanned X (met X n) n 0
  unfolding met
  met_scanned zero = start_scanned
  met_scanned (suc n) = through_scanned (met X n) n (met_scanned n)

  pub up_to_scanned : (i k : ℕ) → i < length (met X i) → k ≤ X.kinds → Scanned X (met_up_to X i k) i k
  up_to_scanned i k h b = met_from_scanned (met X i) i k h b (met_scanned i)
