-- Meeting and reading an entry, on plain values: a node's mark tells whether it has an entry, and one that is new is told apart from all others.
use Rattle.std.proofs.Common.{ℕ, ◌+◌, ◌-◌, ◌*◌, ◌/◌, ◌%◌, ◌≤◌, ◌<◌, ◌≡◌, ◌≢◌, inl, inr, List, [], ◌∷◌, ◌++◌, length, get_or, take, set, sym, ap, ◌∙◌, arith, Some, None}
use Rattle.std.proofs.lemmas.List.{get_or-take, get_or-set_same, get_or-set_other, length-take-le, length-map, map-append, take_more_set}
use Rattle.std.proofs.Math.ListN.{get_or-append, get_or-map}
use Rattle.std.proofs.Math.Seq.{get_or-append_seam}
use Rattle.std.proofs.lemmas.Bool.{cases_lt}
use borrow.Author.Count.{below_more}
use Rattle.convention.specs.Explored.{Numbered, numbered, Entry, entry, number, meet as met}
use Rattle.convention.proofs.Pigeonhole.{pigeonhole}
use Rattle.convention.proofs.Numbering.{node_number, number_of, number_own, meet_known, meet_new}
use Rattle.convention.proofs.Numbered.{numbered_decides}
use Rattle.exploring.specs.declared.Entry.{Entry as Met}
use Rattle.exploring.specs.Stored.{pair_kinds, start_entry, entry_of, read_as, entries_of, kept_at, Kept, MeetAsks, MeetIs, NodeIs}

-- The entries that clauses see are the first of those that are kept.
module _ (nodes : ℕ) (marks : List ℕ) (entries : List Met) (count : ℕ) (kept : Kept nodes marks entries count) (wide : length entries ≡ nodes) (l : List Met)
    (is : take count entries ≡ l) where
  pub counted : length l ≡ count
  counted = rw (← is) (length-take-le count entries (omega (arith, kept.few)))

  pub same_entry : (i : ℕ) → i < count → kept_at l i ≡ kept_at entries i
  same_entry i h = rw (← is) (get_or-take count entries i start_entry h)

  module _ (N : Numbered) where
    pub long : length (entries_of N l) ≡ count
    long = length-map l (read_as N) ∙ counted

    pub read_entry : (i : ℕ) → i < count → entry (numbered N) (entries_of N l) i ≡ read_as N (kept_at entries i)
    read_entry i h = get_or-map (read_as N) l i start_entry ∙ ap (read_as N) (same_entry i h)

    read_node : (i : ℕ) → i < count → (entry (numbered N) (entries_of N l) i).node ≡ (kept_at entries i).node
    read_node i h = ap (λ (e : Entry (numbered N)). e.node) (read_entry i h)

  -- The node of entry i.
  pub node_there : (i : ℕ) → i < count → NodeIs l i (Some (kept_at entries i).node)
  node_there i h = record { some = λ node e. (omega (arith, counted), λ N. let same : (kept_at entries i).node ≡ node = cc in sym same ∙ sym (read_node N i h)); none = λ e. absurd (cc) }

  pub node_none : (i : ℕ) → count ≤ i → NodeIs l i None
  node_none i h = record { some = λ node e. absurd (cc); none = λ e. omega (arith, counted) }

  -- A node that is met.
  module _ (tall : length marks ≡ nodes) (node parent kind : ℕ) (asks : MeetAsks nodes l node parent kind) where
    abbrev mark : ℕ
    mark = get_or marks node 0

    module _ (N : Numbered) where
      -- Where its mark is not 0, it has an entry, and the mark tells its number;
      there : 1 ≤ mark → number (numbered N) (entries_of N l) node < count
      there nz = elim (cases_lt (number (numbered N) (entries_of N l) node) count) [
        | inl h ↦ h
        | inr h ↦
            let none = kept.unmarked node asks.known (λ i o q.
            omega (arith, number_of (numbered N) (numbered_decides N) (entries_of N l) node i (omega (arith, long N)) (sym (read_node N i o ∙ q)))) in
            absurd (omega arith)
      ]

      inside : 1 ≤ mark → number (numbered N) (entries_of N l) node < length (entries_of N l)
      inside nz = omega (arith, there nz, long N)

      tells : 1 ≤ mark → mark - 1 ≡ number (numbered N) (entries_of N l) node
      tells nz =
          let r = number (numbered N) (entries_of N l) node in
          let own : (kept_at entries r).node ≡ node = sym (read_node N r (there nz)) ∙ node_number (numbered N) (numbered_decides N) (entries_of N l) node (inside nz) in
          let marked = rw own at (kept.marked r (there nz)) in
          omega arith

      known : 1 ≤ mark → met (numbered N) (entries_of N l) (entry_of N node parent kind) ≡ entries_of N l
      known nz = meet_known (numbered N) (entries_of N l) (entry_of N node parent kind) (inside nz)

    pub meet_there : (r : ℕ) → (1 ≤ mark) × (r ≡ mark - 1) → MeetIs l node parent kind r l
    meet_there r (nz, e) = record { meets = λ N. sym (known N nz); numbers = λ N. e ∙ tells N nz }

    -- where it is 0, it is new, and there is room for it (E6).
    module _ (z : 1 ≤ mark → ⊥) where
      abbrev new : Met
      new = record { node = node; pair = pair_kinds * parent + kind }

      other : (i : ℕ) → i < count → (kept_at entries i).node ≢ node
      other i h q = omega (arith, kept.marked i h, ap (λ (n : ℕ). get_or marks n 0) q)

      pub meet_room : count < nodes
      meet_room = omega (arith, pigeonhole node_of (count + 1) nodes (below_more (λ i. node_of i < nodes) count (λ i h. rw (old i h) (kept.below i h)) (rw own asks.known)) apart)
        where
          node_of : ℕ → ℕ
          node_of i = (kept_at (l ++ new ∷ []) i).node

          old : (i : ℕ) → i < count → node_of i ≡ (kept_at entries i).node
          old i h = ap (λ (e : Met). e.node) (get_or-append l (new ∷ []) start_entry i (omega (arith, counted)) ∙ same_entry i h)

          own : node_of count ≡ node
          own = rw (← counted) (ap (λ (e : Met). e.node) (get_or-append_seam l new [] start_entry))

          apart : (i j : ℕ) → i < j → j < count + 1 → node_of i ≡ node_of j → ⊥
          apart i j h b q = elim (cases_lt j count) [
            | inl o ↦ omega (
              arith,
              kept.marked i (omega arith),
              kept.marked j o,
              ap (λ (n : ℕ). get_or marks n 0) (sym (old i (omega arith)) ∙ q ∙ old j o),
            )
            | inr o ↦
                let last : j ≡ count = omega arith in
                other i (omega arith) (sym (old i (omega arith)) ∙ q ∙ ap node_of last ∙ own)
          ]

      abbrev marks' : List ℕ
      marks' = set marks node (count + 1)

      abbrev entries' : List Met
      entries' = set entries count new

      old_entry : (i : ℕ) → i < count → kept_at entries' i ≡ kept_at entries i
      old_entry i h = get_or-set_other entries count i new start_entry (λ q. omega arith)

      own_entry : kept_at entries' count ≡ new
      own_entry = get_or-set_same entries count new start_entry (omega (arith, meet_room))

      each : (P : ℕ → Met → Type 0) → ((i : ℕ) → i < count → P i (kept_at entries i)) → P count new → (i : ℕ) → i < count + 1 → P i (kept_at entries' i)
      each P old own = below_more (λ i. P i (kept_at entries' i)) count (λ i h. rw (old_entry i h) (old i h)) (rw own_entry own)

      pub meet_kept : Kept nodes marks' entries' (count + 1)
      meet_kept = record {
        words = kept.words;
        few = omega (arith, meet_room);
        below = each (λ i e. e.node < nodes) kept.below asks.known;
        marked = each (λ i e. get_or marks' e.node 0 ≡ i + 1)
            (λ i h. get_or-set_other marks node (kept_at entries i).node (count + 1) 0 (other i h) ∙ kept.marked i h)
            (get_or-set_same marks node (count + 1) 0 (omega (arith, asks.known)));
        unmarked = λ n h none.
            let own : n ≢ node = λ q. none count (omega arith) (ap (λ (e : Met). e.node) own_entry ∙ sym q) in
            get_or-set_other marks node n (count + 1) 0 own
            ∙ kept.unmarked n h (λ i o q. none i (omega arith) (ap (λ (e : Met). e.node) (old_entry i o) ∙ q));
        lower = λ i p h. each (λ i e. 0 < i → e.pair / pair_kinds < i) (λ i h p. kept.lower i p h) (λ p. omega (arith, asks.from, asks.small, counted)) i h p;
      }

      absent : (N : Numbered) → length (entries_of N l) ≤ number (numbered N) (entries_of N l) node
      absent N = elim (cases_lt (number (numbered N) (entries_of N l) node) (length (entries_of N l))) [
        | inl h ↦
            let r = number (numbered N) (entries_of N l) node in
            let o : r < count = omega (arith, long N) in
            absurd (other r o (sym (read_node N r o) ∙ node_number (numbered N) (numbered_decides N) (entries_of N l) node h))
        | inr h ↦ h
      ]

      read_new : (N : Numbered) → read_as N new ≡ entry_of N node parent kind
      read_new N =
          let from : new.pair / pair_kinds ≡ parent = omega (arith, asks.small) in
          let by : new.pair % pair_kinds ≡ kind = omega (arith, asks.small) in
          rw (from, by)

      grown : (N : Numbered) → entries_of N (take (count + 1) entries') ≡ entries_of N l ++ entry_of N node parent kind ∷ []
      grown N = rw (take_more_set entries count new (omega (arith, meet_room)), is, map-append, read_new N)

      pub meet_new_lem : MeetIs l node parent kind count (take (count + 1) entries')
      meet_new_lem = record {
        meets = λ N. grown N ∙ sym (meet_new (numbered N) (entries_of N l) (entry_of N node parent kind) (absent N));
        numbers = λ N. rw (grown N, number_own (numbered N) (numbered_decides N) (entries_of N l) (entry_of N node parent kind) (absent N)) (sym (long N));
      }
