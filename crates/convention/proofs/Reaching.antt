-- More nodes than a limit: the scan meets more exactly where more are reached.
use Prim.Native.Nat.{ℕ, ◌≤◌, ◌<◌}
use native.Mathlib.Nat.{lt_of_not-le}
use native.Mathlib.Omega.{arith}
use mathlib.Core.Path.{◌≡◌}
use mathlib.Core.Logic.{◌↔◌}
use mathlib.Core.List.{List, map}
use lib.ListN.{length, get_or, length-map, get_or-map}
use Rattle.convention.proofs.Pigeonhole.{pigeonhole}
use Rattle.convention.proofs.Numbering.{Decides, number_same}
use Rattle.convention.proofs.Scanning.{met_scanned}
use Rattle.convention.proofs.Exploring.{leads, reached_met}
use Rattle.convention.specs.Explored.{Automaton, Entry, first_entry, entry, number, met, path}
use Rattle.convention.specs.Reached.{Reached}

-- No node stands in the list twice.
abbrev pub Distinct : (X : Automaton) → List X.Node → Type 0
Distinct X ns = (i j : ℕ) → i < j → j < length ns → get_or ns i X.start ≡ get_or ns j X.start → ⊥

-- More than limit different nodes are reached.
pub record MoreReached (X : Automaton) (limit : ℕ) : Type 0 where
  pub nodes : List X.Node
  pub different : Distinct X nodes
  pub reached : (i : ℕ) → i < length nodes → Reached X (get_or nodes i X.start)
  pub more : limit < length nodes

-- Different nodes that are reached are no more than the entries of a whole scan.
reached_few : (X : Automaton) (D : Decides X) (n : ℕ) → length (met X n) ≤ n → (ns : List X.Node) → Distinct X ns
    → ((i : ℕ) → i < length ns → Reached X (get_or ns i X.start)) → length ns ≤ length (met X n)
reached_few X D n w ns d r = pigeonhole (λ i. number X (met X n) (get_or ns i X.start)) (length ns) (length (met X n)) numbered
    (λ i j o h e. d i j o h (number_same X D (met X n) _ _ (numbered i (omega arith)) e))
  where
    numbered : (i : ℕ) → i < length ns → number X (met X n) (get_or ns i X.start) < length (met X n)
    numbered i h = reached_met X D (met X n) n (met_scanned X D n) w (get_or ns i X.start) (r i h)

-- The scan has more entries than the limit exactly when more nodes than that are reached.
pub more_than : (X : Automaton) (D : Decides X) (limit : ℕ) → limit < length (met X limit) ↔ MoreReached X limit
more_than X D limit = (there, λ r. lt_of_not-le (λ w. omega (arith, reached_few X D limit w r.nodes r.different r.reached)))
  where
    node : Entry X → X.Node
    node e = e.node

    node_at : (i : ℕ) → get_or (map node (met X limit)) i X.start ≡ (entry X (met X limit) i).node
    node_at i = get_or-map node (met X limit) i (first_entry X)

    there : limit < length (met X limit) → MoreReached X limit
    there h =
        let tree = (met_scanned X D limit).tree in
        record {
          nodes = map node (met X limit);
          different = λ i j o k e. tree.apart j (rw length-map at k) i o (rw (node_at i, node_at j) at e);
          reached = λ i k. rw (node_at i) (path X (met X limit) i, leads X (met X limit) tree i (rw length-map at k));
          more = rw length-map h;
        }
