-- Why the least of the hits' lists is the verdict: a faulty list has a front that ends faulty in some watched walk, a hit of that walk has a list that
-- is not after it, and every hit's list is faulty.
use Prim.Native.Nat.{ℕ, suc, ◌+◌, ◌≤◌}
use native.Mathlib.Nat.{eq-or-lt_of_le}
use native.Mathlib.Omega.{arith}
use mathlib.Core.Path.{◌≡◌, refl}
use mathlib.Core.Logic.{inl, inr, ◌↔◌}
use mathlib.Core.List.{List, [], ◌∷◌, ◌++◌}
use lib.ListN.{length, get_or, take}
use lib.Seq.{take-suc}
use Rattle.convention.specs.Tables.{table_of}
use Rattle.convention.specs.Lists.{stop_from}
use Rattle.convention.specs.Walked.{by_table}
use Rattle.convention.specs.Orders.{NotAfter}
use Rattle.convention.specs.Judged.{list_fault, FaultyList, CleanTable, FirstFaulty, judge_room}
use Rattle.convention.specs.Promised.{TableRead}
use Rattle.convention.proofs.Lists.{below_at, below_take}
use Rattle.convention.proofs.Shortlex.{not_after_trans, not_after_strict}
use Rattle.judging.specs.Watched.{Watch}
use Rattle.judging.specs.Watched.{Hit, hit_list, WatchedBelow, NoHitBelow, LeastBelow}
use Rattle.judging.proofs.Fronts.{front_before, front_not_after, stops, stop_faulty}
use Rattle.judging.proofs.Watched.{EndsFaulty, some_watches, watched_faulty}
use Rattle.judging.proofs.Hits.{hit_ends, hit_short, ends_hit, no_hit}

-- Where the walk over a list stops.
abbrev pub stop_of : List ℕ → List ℕ → ℕ
stop_of t ks = stop_from (by_table (table_of t) t) (by_table (table_of t) t).begin ks

-- What tells of ks where it is watched: in that walk a list that is not after ks ends faulty.
record Watcher (t ks : List ℕ) : Type 0 where
  watch : Watch
  among : WatchedBelow (table_of t).head.registers watch
  front : List ℕ
  kind : ℕ
  ends : EndsFaulty (table_of t) t watch front kind
  not_after : NotAfter (front ++ kind ∷ []) ks

module _ (limit : ℕ) (t : List ℕ) (read : TableRead limit (table_of t) t) where
  -- Every faulty list has one: the front up to where its walk stops.
  faulty_watched : (ks : List ℕ) → FaultyList t ks → Watcher t ks
  unfolding FaultyList
  faulty_watched ks (known, faulty) =
      let n = stop_of t ks in
      let s = stops (by_table (table_of t) t) _ ks faulty in
      let front = below_take (table_of t).head.kinds n ks known in
      let kind = below_at (table_of t).head.kinds ks known n s.inside in
      let (watch, among, ends) = some_watches limit (table_of t) t read (take n ks) (get_or ks n 0) front kind s.clean s.faulty in
      record {
        watch = watch;
        among = among;
        front = take n ks;
        kind = get_or ks n 0;
        ends = ends;
        not_after = rw (← (take-suc ks n 0 s.inside)) (front_not_after (suc n) ks s.inside);
      }

  -- The list of a hit is faulty.
  hit_faulty : (watch : Watch) (i k : ℕ) → Hit (table_of t) t watch i k → FaultyList t (hit_list (table_of t) t watch i k)
  unfolding FaultyList
  hit_faulty watch i k h = watched_faulty limit (table_of t) t read watch _ k (hit_ends (table_of t) t watch i k h)

  -- 'If any faulty list exists, one of at most 2N arguments does.'
  pub bound : (ks : List ℕ) → FaultyList t ks → (ks' : List ℕ) × FaultyList t ks' × (length ks' ≤ judge_room t)
  bound ks f =
      let w = faulty_watched ks f in
      let (i, h, _) = ends_hit limit (table_of t) t read w.watch w.front w.kind w.ends in
      (_, hit_faulty w.watch i w.kind h, hit_short limit (table_of t) t read w.watch i w.kind h)

  -- A table is clean exactly where no watched walk hits.
  pub clean : CleanTable t ↔ NoHitBelow (table_of t) t (table_of t).head.registers
  unfolding CleanTable
  clean = (λ c watch _ i k h. c _ (hit_faulty watch i k h), none)
    where
      none : NoHitBelow (table_of t) t (table_of t).head.registers → (ks : List ℕ) → FaultyList t ks → ⊥
      none n ks f =
          let w = faulty_watched ks f in
          no_hit limit (table_of t) t read w.watch (n w.watch w.among) w.front w.kind w.ends

  -- The least of the hits' lists is not after any faulty list;
  least_not_after : (ks : List ℕ) → LeastBelow (table_of t) t (table_of t).head.registers ks
      → (ks' : List ℕ) → FaultyList t ks' → NotAfter ks ks'
  least_not_after ks l ks' f =
      let w = faulty_watched ks' f in
      let (i, h, n) = ends_hit limit (table_of t) t read w.watch w.front w.kind w.ends in
      not_after_trans _ _ _ (l.least w.watch w.among i w.kind h) (not_after_trans _ _ _ n w.not_after)

  -- so it is the verdict's list,
  pub least_first : (ks : List ℕ) → LeastBelow (table_of t) t (table_of t).head.registers ks → FirstFaulty t (list_fault t ks) ks
  least_first ks l = record {
    faulty = let (watch, i, k, h, e) = l.found in rw e (hit_faulty watch i k h);
    says = refl;
    first = λ ks' f. not_after_strict ks ks' (least_not_after ks l ks' f);
  }

-- The first faulty list has its fault at its last kind.
pub last : (t : List ℕ) (fault : ℕ) (ks : List ℕ) → FirstFaulty t fault ks → stop_of t ks + 1 ≡ length ks
unfolding FaultyList
last t fault ks f =
    let n = stop_of t ks in
    let (known, faulty) = f.faulty in
    elim (eq-or-lt_of_le (stops (by_table (table_of t) t) _ ks faulty).inside) [
      | inl e ↦ omega arith
      | inr l ↦
          let known' = below_take (table_of t).head.kinds (suc n) ks known in
          absurd (f.first (take (suc n) ks) (known', stop_faulty (by_table (table_of t) t) _ ks faulty) (front_before (suc n) ks l))
    ]
