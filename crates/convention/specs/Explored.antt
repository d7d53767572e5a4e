-- Document 01, 'The built table': 'numbered as first met, going through states by number and in each through kinds in order'. One exploration, over any kind of node.
use Rattle.std.specs.Prelude.{ℕ, zero, suc, ◌<◌, ◌≡◌, Bool, true, false, List, [], ◌∷◌, ◌++◌, ltb, eqb, length, get_or}

-- What is explored: nodes that can be told apart, the first, the number of kinds, and whether and where each kind leads from a node.
pub record Automaton : Type 1 where
  pub Node : Type 0
  pub same : Node → Node → Bool
  pub start : Node
  pub kinds : ℕ
  pub goes : Node → ℕ → Bool
  pub next : Node → ℕ → Node

-- What is explored where the nodes are numbers: node 0 is the first.
pub record Numbered : Type 0 where
  pub kinds : ℕ
  pub goes : ℕ → ℕ → Bool
  pub next : ℕ → ℕ → ℕ

abbrev pub numbered : Numbered → Automaton
numbered N = record { Node = ℕ; same = eqb; start = 0; kinds = N.kinds; goes = N.goes; next = N.next }

-- One node met: from which entry, and by which kind.
pub record Entry (X : Automaton) : Type 0 where
  pub node : X.Node
  pub parent : ℕ
  pub kind : ℕ

-- The start, met from nowhere.
abbrev pub first_entry : (X : Automaton) → Entry X
first_entry X = record { node = X.start; parent = 0; kind = 0 }

abbrev pub entry : (X : Automaton) → List (Entry X) → ℕ → Entry X
entry X l i = get_or l i (first_entry X)

-- A node's number: its place among the entries, their count where it was not met.
unfoldable pub number : (X : Automaton) → List (Entry X) → X.Node → ℕ
number X [] s = 0
number X (e ∷ l) s = elim (X.same e.node s) [ true ↦ 0 | false ↦ suc (number X l s) ]

-- What is new is appended.
unfoldable pub meet : (X : Automaton) → List (Entry X) → Entry X → List (Entry X)
meet X l e = elim (ltb (number X l e.node) (length l)) [ true ↦ l | false ↦ l ++ e ∷ [] ]

-- The kinds below j, in order, from node s, which is entry i.
unfoldable pub met_from : (X : Automaton) → List (Entry X) → X.Node → ℕ → ℕ → List (Entry X)
met_from X l s i zero = l
met_from X l s i (suc j) =
    let before = met_from X l s i j in
    elim (X.goes s j) [ true ↦ meet X before (record { node = X.next s j; parent = i; kind = j }) | false ↦ before ]

-- Entry i gone through, where there is one.
unfoldable pub through : (X : Automaton) → List (Entry X) → ℕ → List (Entry X)
through X l i = elim (ltb i (length l)) [ true ↦ met_from X l (entry X l i).node i X.kinds | false ↦ l ]

-- The entries after those below i were gone through, by number.
unfoldable pub met : (X : Automaton) → ℕ → List (Entry X)
met X zero = first_entry X ∷ []
met X (suc i) = through X (met X i) i

-- The entries as the scan comes to entry i and its kind k.
abbrev pub met_up_to : (X : Automaton) → ℕ → ℕ → List (Entry X)
met_up_to X i k = met_from X (met X i) (entry X (met X i) i).node i k

-- The kinds by which entry i was first met, from the start on: those of its parent, then its own. A parent's number is lower, so i turns are enough.
unfoldable pub path_from : (X : Automaton) → List (Entry X) → ℕ → ℕ → List ℕ
path_from X l zero i = []
path_from X l (suc turns) zero = []
path_from X l (suc turns) (suc i) = path_from X l turns (entry X l (suc i)).parent ++ (entry X l (suc i)).kind ∷ []

abbrev pub path : (X : Automaton) → List (Entry X) → ℕ → List ℕ
path X l i = path_from X l i i

-- A list of kinds leads from s to t.
unfoldable pub Leads : (X : Automaton) → X.Node → List ℕ → X.Node → Type 0
Leads X s [] t = s ≡ t
Leads X s (k ∷ ks) t = (k < X.kinds) × (X.goes s k ≡ true) × Leads X (X.next s k) ks t
