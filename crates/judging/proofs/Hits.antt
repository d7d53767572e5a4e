-- Why the first hit ends the first faulty list of a watched walk: entries are in the order of their paths, and so hits in the order of their
-- lists; and a list that ends faulty leads to an entry whose path is not after its front.
use Prim.Native.Nat.{ℕ, ◌≤◌}
use native.Mathlib.Nat.{eq-or-lt_of_le}
use native.Mathlib.Decide.{dec_lt}
use native.Mathlib.Omega.{arith}
use mathlib.Core.Path.{◌≡◌}
use mathlib.Core.Logic.{◌⊎◌, inl, inr}
use mathlib.Core.List.{List, [], ◌∷◌, ◌++◌}
use lib.ListN.{length, length-append}
use Rattle.convention.specs.declared.Table.{Table}
use Rattle.convention.specs.Explored.{entry, path}
use Rattle.convention.specs.Orders.{NotAfter}
use Rattle.convention.specs.Promised.{TableRead}
use Rattle.convention.proofs.Shortlex.{not_after_snoc}
use Rattle.convention.specs.Scanned.{Sooner}
use Rattle.convention.proofs.Numbered.{numbered_decides}
use Rattle.convention.proofs.Exploring.{leads, earliest, sooner_before, path_short}
use Rattle.judging.specs.Watched.{Watch}
use Rattle.judging.specs.Watched.{watched_steps, watched, nodes, scan, Hit, FirstHit, NoHit, hit_list}
use Rattle.judging.proofs.Watched.{EndsFaulty, watched_scanned, watched_tree, nodes_few}

module _ (table : Table) (t : List ℕ) (watch : Watch) where
  -- The list of a hit ends faulty.
  pub hit_ends : (i k : ℕ) → Hit table t watch i k → EndsFaulty table t watch (path (watched table t watch) (scan table t watch) i) k
  hit_ends i k h = record {
    node = (entry (watched table t watch) (scan table t watch) i).node;
    leads = leads (watched table t watch) (scan table t watch) (watched_tree table t watch (nodes table)) i h.inside;
    below = h.below;
    faulty = h.faulty;
  }

  -- Every other hit comes later in the scan than the first.
  hits_later : (i k : ℕ) → FirstHit table t watch i k → (j q : ℕ) → Hit table t watch j q → ((i ≡ j) × (k ≡ q)) ⊎ Sooner i k j q
  hits_later i k f j q h = elim (dec_lt j i) [
    | yes l ↦ absurd (f.earlier j q l h)
    | no l ↦ elim (eq-or-lt_of_le {n = i} {m = j} (omega arith)) [
      | inl e ↦ elim (dec_lt q k) [
        | yes l ↦ absurd (f.lower q l (rw e h))
        | no l ↦ elim (eq-or-lt_of_le {n = k} {m = q} (omega arith)) [ inl e' ↦ inl (e, e') | inr o ↦ inr (inr (e, o)) ]
      ]
      | inr o ↦ inr (inl o)
    ]
  ]

  -- So its list is not before that of the first.
  pub lists_later : (i k : ℕ) → FirstHit table t watch i k → (j q : ℕ) → Hit table t watch j q → NotAfter (hit_list table t watch i k) (hit_list table t watch j q)
  lists_later i k f j q h = elim (hits_later i k f j q h) [
    | inl e ↦ inl (rw (e.0, e.1))
    | inr o ↦ inr (sooner_before (watched table t watch) (scan table t watch) (watched_tree table t watch (nodes table)) i k j q h.inside o)
  ]

module _ (limit : ℕ) (table : Table) (t : List ℕ) (read : TableRead limit table t) (watch : Watch) where
  -- The scan is whole.
  whole : length (scan table t watch) ≤ nodes table
  whole = nodes_few limit table t read watch (nodes table)

  -- The list of a hit has at most 2N kinds.
  pub hit_short : (i k : ℕ) → Hit table t watch i k → length (hit_list table t watch i k) ≤ nodes table
  hit_short i k h =
      let short = path_short (watched table t watch) (scan table t watch) (watched_tree table t watch (nodes table)) i h.inside in
      rw length-append (omega (arith, short, whole, h.inside))

  -- A list that ends faulty has a hit whose list is not after it.
  pub ends_hit : (ks : List ℕ) (k : ℕ) → EndsFaulty table t watch ks k
      → (i : ℕ) × Hit table t watch i k × NotAfter (hit_list table t watch i k) (ks ++ k ∷ [])
  ends_hit ks k f =
      let (i, inside, node, n) = earliest (watched table t watch) (numbered_decides (watched_steps table t watch)) _ (nodes table) (watched_scanned table t watch (nodes table)) whole ks f.node f.leads in
      (i, record { inside = inside; below = f.below; faulty = rw node f.faulty }, not_after_snoc _ ks k n)

  -- So where nothing hits no list ends faulty.
  pub no_hit : NoHit table t watch → (ks : List ℕ) (k : ℕ) → EndsFaulty table t watch ks k → ⊥
  no_hit none ks k e = let (i, h, n) = ends_hit ks k e in none i k h
