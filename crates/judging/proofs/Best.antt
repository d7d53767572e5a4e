-- Why the best of the lists found is the least of them: nothing is watched first, and then a register at a time.
use Rattle.std.proofs.Common.{ℕ, ◌+◌, ◌≤◌, ◌<◌, ◌≡◌, inl, inr, Bool, true, List, refl, sym, subst, ◌∙◌, arith, Option, Some, None}
use Rattle.convention.specs.declared.Reg.{Reg}
use Rattle.convention.specs.declared.Table.{Table}
use Rattle.convention.specs.Numbers.{state_limit}
use Rattle.convention.specs.Orders.{NotAfter}
use Rattle.convention.specs.Rules.{free_run}
use Rattle.convention.proofs.Runs.{free_each}
use Rattle.convention.specs.Promised.{TableRead}
use Rattle.certifying.specs.Certified.{OnceBut}
use Rattle.stepping.specs.Sets.{set_of}
use Rattle.judging.specs.Watched.{FirstHit, hit_list, LeastBelow}
use Rattle.judging.specs.Found.{FindIs, ImproveIs, BestIs}
use Rattle.judging.proofs.Least.{none_first, least_only, none_on, least_new, least_on, least_kept, least_changed, none_once, least_once}

-- What is found where nothing is watched is the best before the first register.
pub best_first : (table : Table) (t : List ℕ) (after : Option (List ℕ)) → ImproveIs table t None None after → BestIs table t 0 after
best_first table t after improve = elim improve.better [
  | inl s ↦ record { none = λ _. none_first table t (improve.find.none (none improve.found s.why)); some = λ ks e. absurd (cc (s.is)) }
  | inr s ↦
      let (i, k, hit, list) = improve.find.some s.list s.was in
      record { none = λ e. absurd (cc (s.is)); some = λ ks e. let same : s.list ≡ ks = cc (s.is) in rw (← same, list) (least_only table t i k hit) }
]
  where
    none : (found : Option (List ℕ)) → ((ks : List ℕ) → found ≡ Some ks → (others : List ℕ) × (None ≡ Some others) × NotAfter others ks) → found ≡ None
    none None why = refl
    none (Some ks) why = let (others, e, _) = why ks refl in absurd (cc)

-- The register of a number.
abbrev register : ℕ → Reg
register i = record { 0 = i }

-- What is found where r is watched is the least, where there was no best, or none that is before it.
least_found : (table : Table) (t : List ℕ) (r : Reg) (best : Option (List ℕ)) → BestIs table t r.0 best → (j k : ℕ) → FirstHit table t (Some r) j k
    → ((ks : List ℕ) → best ≡ Some ks → NotAfter (hit_list table t (Some r) j k) ks) → LeastBelow table t (r.0 + 1) (hit_list table t (Some r) j k)
least_found table t r None half j k hit why = least_new table t r (half.none refl) j k hit
least_found table t r (Some ks) half j k hit why = least_changed table t r ks (half.some ks refl) j k hit (why ks refl)

-- The best stays the least where nothing is found, or what is not before it.
least_stays : (table : Table) (t : List ℕ) (r : Reg) (best : Option (List ℕ)) → BestIs table t r.0 best → (found : Option (List ℕ)) → FindIs table t (Some r) found
    → ((ks : List ℕ) → found ≡ Some ks → (others : List ℕ) × (best ≡ Some others) × NotAfter others ks) → BestIs table t (r.0 + 1) best
least_stays table t r best half None find why = record {
  none = λ e. none_on table t r (half.none e) (find.none refl);
  some = λ ks e. least_on table t r ks (half.some ks e) (find.none refl);
}
least_stays table t r best half (Some ks) find why =
    let (others, was, after) = why ks refl in
    let (j, k, hit, is) = find.some ks refl in
    record {
      none = λ e. absurd (cc);
      some = λ list e. let same : others ≡ list = cc in subst (LeastBelow table t (r.0 + 1)) same (least_kept table t r others (half.some others was) j k hit (subst (NotAfter others) is after));
    }

-- The best before register i.
module _ (table : Table) (t : List ℕ) (read : TableRead state_limit table t) (twice i : ℕ) (inside : i < table.head.registers) (best : Option (List ℕ)) (half : BestIs table t i best) where
  -- It is one of the sixteen.
  pub next_within : i + 1 ≤ 16
  next_within = omega (arith, inside, read.head.registers)

  -- Where it is never given twice the best stays,
  pub best_skips : OnceBut table t twice → (free : Bool) → free ≡ free_run (set_of 16 twice) i 1 → free ≡ true → BestIs table t (i + 1) best
  best_skips but free e y =
      let once = but.once i (omega (arith, next_within)) (free_each (set_of 16 twice) i 1 (sym e ∙ y) i (omega arith) (omega arith)) in
      record {
        none = λ e. none_once state_limit table t read (register i) once (half.none e);
        some = λ ks e. least_once state_limit table t read (register i) once ks (half.some ks e);
      }

  -- and else the better of the best and what is found there is the best then.
  pub best_turn : (after : Option (List ℕ)) → ImproveIs table t (Some (register i)) best after → BestIs table t (i + 1) after
  best_turn after improve = elim improve.better [
    | inl s ↦ rw s.is (least_stays table t (register i) best half improve.found improve.find s.why)
    | inr s ↦
        let (j, k, hit, same) = improve.find.some s.list s.was in
        let least = least_found table t (register i) best half j k hit (rw same at s.why) in
        record { none = λ q. absurd (cc (s.is)); some = λ ks q. let here : s.list ≡ ks = cc (s.is) in rw (← here, same) least }
  ]
