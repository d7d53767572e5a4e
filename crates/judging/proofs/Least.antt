-- The least list, as a loop takes it: nothing was watched, and each register below r, and now r is.
use Prim.Native.Nat.{ℕ, ◌+◌}
use native.Mathlib.Omega.{arith}
use borrow.Author.Count.{below_more}
use mathlib.Core.Path.{refl}
use mathlib.Core.List.{List}
use Rattle.convention.specs.declared.Reg.{Reg}
use Rattle.convention.specs.declared.Table.{Table}
use Rattle.convention.specs.Orders.{NotAfter}
use Rattle.convention.specs.Explored.{path}
use Rattle.convention.specs.Promised.{TableRead}
use Rattle.convention.proofs.Shortlex.{not_after_trans}
use Rattle.certifying.specs.Certified.{NeverTwice}
use Rattle.judging.specs.Watched.{Watch}
use Rattle.std.specs.Prelude.{Some, None}
use Rattle.judging.specs.Watched.{watched, scan, Hit, FirstHit, NoHit, hit_list, WatchedBelow, NoHitBelow, LeastBelow}
use Rattle.judging.proofs.Watched.{EndsFaulty}
use Rattle.judging.proofs.Once.{once_ends}
use Rattle.judging.proofs.Hits.{hit_ends, lists_later, ends_hit, no_hit}

-- What holds where nothing is watched holds before the first register is; and what holds before r, and where r is watched, holds after it.
watched_first : (P : Watch → Type 0) → P None → (watch : Watch) → WatchedBelow 0 watch → P watch
unfolding WatchedBelow
watched_first P p (Some r) h = absurd (omega arith)
watched_first P p None h = p

watched_more : (P : Watch → Type 0) (r : Reg) → ((watch : Watch) → WatchedBelow r.0 watch → P watch) → P (Some r)
    → (watch : Watch) → WatchedBelow (r.0 + 1) watch → P watch
unfolding WatchedBelow
watched_more P r below p (Some q) h =
    below_more (λ i. P (Some (record { 0 = i }))) r.0 (λ i l. below (Some (record { 0 = i })) l) p q.0 h
watched_more P r below p None h = below None tt

-- ---- where nothing is watched

module _ (table : Table) (t : List ℕ) where
  -- Nothing is found,
  pub none_first : NoHit table t None → NoHitBelow table t 0
  none_first = watched_first (NoHit table t)

  -- or something is.
  pub least_only : (i k : ℕ) → FirstHit table t None i k → LeastBelow table t 0 (hit_list table t None i k)
  least_only i k f = record { found = (None, i, k, f.hit, refl); least = watched_first _ (lists_later table t None i k f) }

-- ---- where r is watched

module _ (table : Table) (t : List ℕ) (r : Reg) where
  -- Nothing was found, and nothing is.
  pub none_on : NoHitBelow table t r.0 → NoHit table t (Some r) → NoHitBelow table t (r.0 + 1)
  none_on = watched_more (NoHit table t) r

  -- Nothing was found, and something is.
  pub least_new : NoHitBelow table t r.0 → (i k : ℕ) → FirstHit table t (Some r) i k
      → LeastBelow table t (r.0 + 1) (hit_list table t (Some r) i k)
  least_new none i k f = record {
    found = (Some r, i, k, f.hit, refl);
    least = watched_more _ r (λ watch h j q hit. absurd (none watch h j q hit)) (lists_later table t (Some r) i k f);
  }

  -- Something was found, and nothing is; what is found is not before it; what is found is not after it.
  module _ (ks : List ℕ) (l : LeastBelow table t r.0 ks) where
    pub least_on : NoHit table t (Some r) → LeastBelow table t (r.0 + 1) ks
    least_on none = record { found = l.found; least = watched_more _ r l.least (λ j q hit. absurd (none j q hit)) }

    pub least_kept : (i k : ℕ) → FirstHit table t (Some r) i k → NotAfter ks (hit_list table t (Some r) i k)
        → LeastBelow table t (r.0 + 1) ks
    least_kept i k f n = record {
      found = l.found;
      least = watched_more _ r l.least (λ j q hit. not_after_trans _ _ _ n (lists_later table t (Some r) i k f j q hit));
    }

    pub least_changed : (i k : ℕ) → FirstHit table t (Some r) i k → NotAfter (hit_list table t (Some r) i k) ks
        → LeastBelow table t (r.0 + 1) (hit_list table t (Some r) i k)
    least_changed i k f n = record {
      found = (Some r, i, k, f.hit, refl);
      least = watched_more _ r
          (λ watch h j q hit. not_after_trans _ _ _ n (l.least watch h j q hit))
          (lists_later table t (Some r) i k f);
    }

-- ---- where r is not watched

-- A register that is never given twice: what is found there is found where nothing is watched.
module _ (limit : ℕ) (table : Table) (t : List ℕ) (read : TableRead limit table t) (r : Reg) (once : NeverTwice table t r.0) where
  ends : (i k : ℕ) → Hit table t (Some r) i k → EndsFaulty table t None (path (watched table t (Some r)) (scan table t (Some r)) i) k
  ends i k h = once_ends limit table t read r once _ k (hit_ends table t (Some r) i k h)

  pub none_once : NoHitBelow table t r.0 → NoHitBelow table t (r.0 + 1)
  unfolding WatchedBelow
  none_once none = none_on table t r none (λ i k h. no_hit limit table t read None (none None tt) _ k (ends i k h))

  pub least_once : (ks : List ℕ) → LeastBelow table t r.0 ks → LeastBelow table t (r.0 + 1) ks
  unfolding WatchedBelow
  least_once ks l = record {
    found = l.found;
    least = watched_more _ r l.least (λ i k h.
        let (j, h', n) = ends_hit limit table t read None _ k (ends i k h) in
        not_after_trans _ _ _ (l.least None tt j k h') n);
  }
