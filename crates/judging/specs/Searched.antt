-- What the functions of the search promise one another: which entries were met, and what was found there.
use Rattle.std.specs.Prelude.{ℕ, ◌<◌, ◌≡◌, Bool, ◌&&◌, ◌||◌, List, length, Option, Some, None, Result, Ok}
use Rattle.convention.specs.declared.Table.{Table}
use Rattle.convention.specs.declared.Fault.{Fault}
use Rattle.convention.specs.Results.{fault_of}
use Rattle.convention.specs.Explored.{Entry, entry, met, met_up_to}
use Rattle.walking.specs.declared.step.Step.{Step}
use Rattle.exploring.specs.declared.Entry.{Entry as Met}
use Rattle.exploring.specs.Stored.{entries_of}
use Rattle.judging.specs.declared.search.Found.{Found}
use Rattle.judging.specs.Watched.{Watch, node_of, gives_watched, watched_fault, watched_steps, watched, node_fault, Hit, FirstHit, NoHit}

-- A step, where what is watched was given before it or was not: its fault, or the node after it.
pub record WatchedStepIs (step : Step) (watch : Watch) (given : Bool) (r : Result ℕ Fault) : Type 0 where
  pub faults : fault_of r ≡ watched_fault step.head step.shape step.x (given && gives_watched step.x watch)
  pub after : (next : ℕ) → r ≡ Ok next → next ≡ node_of step.x.next (given || gives_watched step.x watch)

-- The node of entry i, where the entries below i were gone through.
abbrev pub node_here : Table → List ℕ → Watch → ℕ → ℕ
node_here table t watch i = (entry (watched table t watch) (met (watched table t watch) i) i).node

-- The entries are those l of the watched walk.
abbrev pub HoldsWatched : (table : Table) (t : List ℕ) (watch : Watch) (l : List (Entry (watched table t watch))) → List Met → Type 0
HoldsWatched table t watch l kept = entries_of (watched_steps table t watch) kept ≡ l

-- Going through the kinds from there.
pub record ThroughAsks (table : Table) (t : List ℕ) (watch : Watch) (i node : ℕ) (kept : List Met) : Type 0 where
  pub holds : HoldsWatched table t watch (met (watched table t watch) i) kept
  pub inside : i < length kept
  pub here : node ≡ node_here table t watch i

-- The kinds below k were gone through, and none is faulty.
pub record GoingThrough (table : Table) (t : List ℕ) (watch : Watch) (i k : ℕ) (kept : List Met) : Type 0 where
  pub clean : (q : ℕ) → q < k → node_fault table t watch (node_here table t watch i) q ≡ 0
  pub holds : HoldsWatched table t watch (met_up_to (watched table t watch) i k) kept

-- k is the first faulty kind.
pub record FirstFault (table : Table) (t : List ℕ) (watch : Watch) (i k : ℕ) (kept : List Met) : Type 0 where
  pub below : k < table.head.kinds
  pub through : GoingThrough table t watch i k kept
  pub faulty : 0 < node_fault table t watch (node_here table t watch i) k

-- The first faulty kind is found, or none is, and all were gone through.
pub record ThroughIs (table : Table) (t : List ℕ) (watch : Watch) (i : ℕ) (r : Option ℕ) (kept : List Met) : Type 0 where
  pub some : (k : ℕ) → r ≡ Some k → FirstFault table t watch i k kept
  pub none : r ≡ None → GoingThrough table t watch i table.head.kinds kept

-- Searching, where the start alone was met.
pub record SearchAsks (table : Table) (t : List ℕ) (watch : Watch) (kept : List Met) : Type 0 where
  pub holds : HoldsWatched table t watch (met (watched table t watch) 0) kept

-- The entries below i were gone through, and none hits.
pub record Searching (table : Table) (t : List ℕ) (watch : Watch) (i : ℕ) (kept : List Met) : Type 0 where
  pub clean : (j q : ℕ) → j < i → Hit table t watch j q → ⊥
  pub holds : HoldsWatched table t watch (met (watched table t watch) i) kept

-- The entries are those met before entry i and its kind k.
pub record HoldsUpTo (table : Table) (t : List ℕ) (watch : Watch) (i k : ℕ) (kept : List Met) : Type 0 where
  pub holds : HoldsWatched table t watch (met_up_to (watched table t watch) i k) kept
  pub there : i < length (met (watched table t watch) i)

-- The first hit is found, or nothing hits.
pub record SearchIs (table : Table) (t : List ℕ) (watch : Watch) (r : Option Found) (kept : List Met) : Type 0 where
  pub hit : (f : Found) → r ≡ Some f → FirstHit table t watch f.entry f.kind
  pub holds : (f : Found) → r ≡ Some f → HoldsUpTo table t watch f.entry f.kind kept
  pub none : r ≡ None → NoHit table t watch
