-- What the functions of an exploration promise, of every automaton with numbered nodes: which entries there are, before and after.
use Rattle.std.specs.Prelude.{ℕ, ◌+◌, ◌*◌, ◌/◌, ◌%◌, ◌≤◌, ◌<◌, ◌≡◌, ◌⊎◌, List, ◌++◌, length, get_or, map, Option, Some, None}
use Rattle.convention.specs.Bytes.{written}
use Rattle.convention.specs.Explored.{Numbered, numbered, Entry, entry, number, meet as met, path}
use Rattle.convention.specs.Scanned.{Tree}
use Rattle.exploring.specs.declared.Entry.{Entry as Met}

-- How many kinds a pair can tell apart, and how many numbers its word can hold.
abbrev pub pair_kinds : ℕ
pair_kinds = 8

abbrev pub word_limit : ℕ
word_limit = 65536

-- The first entry as it is kept.
abbrev pub start_entry : Met
start_entry = record { node = 0; pair = 0 }

-- An automaton's entry, by how its node was met; and what is kept, as its entries.
abbrev pub entry_of : (N : Numbered) (node parent kind : ℕ) → Entry (numbered N)
entry_of N node parent kind = record { node = node; parent = parent; kind = kind }

abbrev pub read_as : (N : Numbered) → Met → Entry (numbered N)
read_as N e = entry_of N e.node (e.pair / pair_kinds) (e.pair % pair_kinds)

abbrev pub entries_of : (N : Numbered) → List Met → List (Entry (numbered N))
entries_of N l = map (read_as N) l

-- Entry i as it is kept.
abbrev pub kept_at : List Met → ℕ → Met
kept_at l i = get_or l i start_entry

-- What is always true of the fields: there are `count` entries, no more than nodes, and a word holds each number that is written to one. Each entry's node is below `nodes`, and
-- each but the first was met from an entry before it; and each node's mark tells its entry, so that no two entries have one node.
pub record Kept (nodes : ℕ) (marks : List ℕ) (entries : List Met) (count : ℕ) : Type 0 where
  pub words : pair_kinds * nodes ≤ word_limit
  pub few : count ≤ nodes
  pub below : (i : ℕ) → i < count → (kept_at entries i).node < nodes
  pub marked : (i : ℕ) → i < count → get_or marks (kept_at entries i).node 0 ≡ i + 1
  pub unmarked : (node : ℕ) → node < nodes → ((i : ℕ) → i < count → (kept_at entries i).node ≡ node → ⊥) → get_or marks node 0 ≡ 0
  pub lower : (i : ℕ) → 0 < i → i < count → (kept_at entries i).pair / pair_kinds < i

-- There is such a node, and a kind led to it from one of the entries.
pub record MeetAsks (nodes : ℕ) (l : List Met) (node parent kind : ℕ) : Type 0 where
  pub known : node < nodes
  pub from : parent < length l
  pub small : kind < pair_kinds

-- Whatever the entries are read as, they are then those that the meeting makes of them, and the answer is the node's number.
pub record MeetIs (before : List Met) (node parent kind r : ℕ) (after : List Met) : Type 0 where
  pub meets : (N : Numbered) → entries_of N after ≡ met (numbered N) (entries_of N before) (entry_of N node parent kind)
  pub numbers : (N : Numbered) → r ≡ number (numbered N) (entries_of N after) node

-- Each entry's node is one of so many.
abbrev pub EachBelow : ℕ → List Met → Type 0
EachBelow nodes entries = (i : ℕ) → i < length entries → (kept_at entries i).node < nodes

-- Each node has no mark now, or it has the mark that it had and is the node of none of the first n entries.
pub record Unmarked (entries : List Met) (n : ℕ) (before after : List ℕ) : Type 0 where
  pub long : length after ≡ length before
  pub each : (node : ℕ)
      → (get_or after node 0 ≡ 0) ⊎ ((get_or after node 0 ≡ get_or before node 0) × ((i : ℕ) → i < n → (kept_at entries i).node ≡ node → ⊥))

-- An entry's node: whatever the entries are read as, that of entry i, where there is one.
pub record EntryIs (l : List Met) (i r : ℕ) : Type 0 where
  pub is : i < length l → (N : Numbered) → r ≡ (entry (numbered N) (entries_of N l) i).node

-- An entry's node as an option: none where there is no such entry.
pub record NodeIs (l : List Met) (i : ℕ) (r : Option ℕ) : Type 0 where
  pub some : (node : ℕ) → r ≡ Some node → (i < length l) × ((N : Numbered) → node ≡ (entry (numbered N) (entries_of N l) i).node)
  pub none : r ≡ None → length l ≤ i

-- Whatever tree the entries are read as, entry i's path is written from byte `at` on, up to the end, and every byte before it is untouched.
pub record PathIs (l : List Met) (i : ℕ) (before : List ℕ) (at : ℕ) (after : List ℕ) : Type 0 where
  pub within : at ≤ length before
  pub writes : (N : Numbered) → Tree (numbered N) (entries_of N l)
      → (at + length (path (numbered N) (entries_of N l) i) ≡ length before) × (after ≡ written before at (path (numbered N) (entries_of N l) i))

-- Half way: the kinds after those of the path to entry j are written from byte `at` on.
pub record PathHalf (l : List Met) (i : ℕ) (before : List ℕ) (j at : ℕ) (work : List ℕ) : Type 0 where
  pub inside : j < length l
  pub from : j ≤ at
  pub kinds : List ℕ
  pub ends : at + length kinds ≡ length before
  pub memory : work ≡ written before at kinds
  pub rest : (N : Numbered) → Tree (numbered N) (entries_of N l)
      → path (numbered N) (entries_of N l) i ≡ path (numbered N) (entries_of N l) j ++ kinds
