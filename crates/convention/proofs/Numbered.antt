-- Laws of numbered nodes: they can be told apart, and where every step leads to one below a bound, no more than that are met.
use Prim.Native.Nat.{ℕ, ◌≤◌, ◌<◌}
use mathlib.Core.Path.{◌≡◌, refl}
use mathlib.Core.Bool.{true}
use mathlib.Core.List.{List}
use lib.ListN.{length}
use borrow.Author.Tests.{eqb-true, eq-eqb}
use Rattle.convention.proofs.Numbering.{Decides}
use Rattle.convention.proofs.Exploring.{nodes_hold, few}
use Rattle.convention.specs.Explored.{Numbered, numbered, Entry, entry}
use Rattle.convention.specs.Scanned.{Tree}

-- The test of two numbers tells whether they are the same.
pub numbered_decides : (N : Numbered) → Decides (numbered N)
numbered_decides N = record { same_eq = eqb-true; same_refl = λ a. eq-eqb a a refl }

-- There is a node 0 below the bound, and a step from one below it leads to one below it.
pub record Bounded (N : Numbered) (nodes : ℕ) : Type 0 where
  pub some : 0 < nodes
  pub next : (node k : ℕ) → node < nodes → k < N.kinds → N.goes node k ≡ true → N.next node k < nodes

module _ (N : Numbered) (nodes : ℕ) (bounded : Bounded N nodes) (l : List (Entry (numbered N))) (tree : Tree (numbered N) l) where
  -- The nodes that are met are below it,
  pub entries_below : (i : ℕ) → i < length l → (entry (numbered N) l i).node < nodes
  entries_below = nodes_hold (numbered N) l tree (λ node. node < nodes) bounded.some (λ node k h b g. bounded.next node k h b g)

  -- E6. so there are no more entries.
  pub entries_few : length l ≤ nodes
  entries_few = few (numbered N) l tree (λ node. node) nodes (λ a b e. e) entries_below
