-- What is true of the entries of an exploration, whoever goes through the pairs of entry and kind in order and meets where they lead. In proofs/Exploring the laws E3, E4 and E6
-- follow from `Tree`, which is E1 and E2, and E5 follows from `Scanned`.
use Rattle.std.specs.Prelude.{ℕ, suc, ◌<◌, ◌≡◌, true, ◌⊎◌, List, length}
use Rattle.convention.specs.Explored.{Automaton, Entry, first_entry, entry}

-- In the scan the pair of entry i and kind k comes sooner than that of i' and k'.
abbrev pub Sooner : (i k i' k' : ℕ) → Type 0
Sooner i k i' k' = (i < i') ⊎ ((i ≡ i') × (k < k'))

-- An entry was met by a pair sooner than that of i and k.
abbrev pub MetSooner : {X : Automaton} → Entry X → (i k : ℕ) → Type 0
MetSooner e i k = Sooner e.parent e.kind i k

-- Entry i, which is e, was met from an entry before it, by a kind that leads from there to its node.
pub record Child (X : Automaton) (l : List (Entry X)) (i : ℕ) (e : Entry X) : Type 0 where
  pub lower : e.parent < i
  pub kind_below : e.kind < X.kinds
  pub goes : X.goes (entry X l e.parent).node e.kind ≡ true
  pub next : e.node ≡ X.next (entry X l e.parent).node e.kind

-- The node to which kind k leads from entry i stands at a place, and was met there by that pair or a sooner one.
pub record MetAt (X : Automaton) (l : List (Entry X)) (i k : ℕ) : Type 0 where
  pub place : ℕ
  pub inside : place < length l
  pub node : (entry X l place).node ≡ X.next (entry X l i).node k
  pub by : 0 < place → MetSooner (entry X l place) i (suc k)

-- E1 and E2. The first entry is the start, the nodes are pairwise different, each other entry is a child, and their pairs increase.
pub record Tree (X : Automaton) (l : List (Entry X)) : Type 0 where
  pub first : entry X l 0 ≡ first_entry X
  pub some : 0 < length l
  pub apart : (j : ℕ) → j < length l → (i : ℕ) → i < j → (entry X l i).node ≡ (entry X l j).node → ⊥
  pub child : (j : ℕ) → j < length l → 0 < j → Child X l j (entry X l j)
  pub rising : (j : ℕ) → j < length l → (i : ℕ) → 0 < i → i < j → MetSooner (entry X l i) (entry X l j).parent (entry X l j).kind

-- The pairs sooner than (i, k) were gone through: the entries came from those, and what those lead to is there.
pub record Scanned (X : Automaton) (l : List (Entry X)) (i k : ℕ) : Type 0 where
  pub tree : Tree X l
  pub from : (j : ℕ) → j < length l → 0 < j → MetSooner (entry X l j) i k
  pub all : (a q : ℕ) → Sooner a q i k → a < length l → q < X.kinds → X.goes (entry X l a).node q ≡ true → MetAt X l a q
