-- One turn of the walk over a list by a table: it stands in a state of the table, and p is no further than the arguments so far can take it.
use Prim.Native.Nat.{ℕ, ◌+◌, ◌*◌, ◌<◌, ◌≤◌}
use mathlib.Core.Path.{◌≡◌, refl, sym, subst}
use mathlib.Core.List.{List}
use native.Mathlib.Omega.{arith}
use lib.ListN.{length, get_or}
use Rattle.std.specs.Prelude.{Result, Ok, Err, MatchResult}
use Rattle.convention.specs.declared.ByTable.{ByTable}
use Rattle.convention.specs.declared.Table.{Table}
use Rattle.convention.specs.declared.Fault.{Fault}
use Rattle.convention.specs.declared.Unplaced.{Unplaced}
use Rattle.convention.specs.declared.Unplaced.TheVariants.{Faulty}
use Rattle.convention.specs.Promised.{HeadRead}
use Rattle.convention.specs.Lists.{record_length}
use Rattle.convention.specs.Walked.{by_table, table_place, walk_begin}
use Rattle.convention.specs.Shapes.{p_most}
use Rattle.convention.proofs.Lists.{known}
use Rattle.convention.proofs.Walked.{step_next}
use Rattle.table.specs.Within.{InTable}
use Rattle.stepping.specs.Walks.{WalkAsks, WalkMakes}
use Rattle.stepping.proofs.Walks.{make_begin, make_room, make_on, make_hit, make_end}
use Rattle.walking.specs.declared.TableAt.{TableAt}
use Rattle.walking.specs.declared.step.Step.{Step}
use Rattle.walking.specs.TableSteps.{as_table, TableStanding}
use Rattle.walking.specs.Steps.{StepOf, ArgumentIs}
use Rattle.walking.proofs.Steps.{reach}

module _ (table : Table) (t ks before : List ℕ) where
  -- Before the first argument.
  pub standing_begin : (s : TableAt) → as_table s ≡ walk_begin → 1 ≤ table.states → TableStanding table t ks before (as_table s) 0 before
  standing_begin s e some =
      rw e (record { makes = make_begin (by_table table t) ks before; state = some; reach = omega arith })

  module _ (s : TableAt) (i : ℕ) (records : List ℕ) (standing : TableStanding table t ks before (as_table s) i records) where
    -- After the last argument.
    pub standing_end : length ks ≤ i → WalkMakes (by_table table t) ks before (Ok s.p) records
    standing_end h = make_end (by_table table t) ks before records (as_table s) i standing.makes h

    module _ (asks : WalkAsks table.head.kinds ks (length before)) (h : i < length ks) where
      -- The next argument's state and kind are the table's, and its record has room.
      pub next_inside : InTable table s.state (get_or ks i 0)
      next_inside = record { state = standing.state; kind = known table.head.kinds ks asks.listed.known i h }

      pub next_room : record_length * i + record_length ≤ length records
      next_room = make_room (by_table table t) ks before records (as_table s) i standing.makes h asks.room

      module _ (step : Step) (of : StepOf table t s.state (get_or ks i 0) step) (after : List ℕ) where
        -- After an argument without a fault.
        standing_on : HeadRead table.head → (next : TableAt) → ArgumentIs step (as_table s) records (record_length * i) (Ok next) after → TableStanding table t ks before (as_table next) (i + 1) after
        standing_on head next argument = record {
          makes = make_on (by_table table t) ks before records (as_table s) i standing.makes after (as_table next) 0
              (table_place step.head step.x s.p.0) h asks.room (rw (of.x, of.shape, of.head) at argument.found) refl (rw (of.x, of.head) refl) argument.makes (rw (of.x, of.head) at argument.reached);
          state =
              let Inside : ByTable → Type 0 = λ s'. s'.state < table.states in
              subst Inside (sym argument.reached) (rw step_next of.allowed.next);
          reach =
              let Within : ByTable → Type 0 = λ s'. s'.p.0 ≤ p_most (i + 1) in
              let further = reach step.head step.shape step.x (as_table s) (rw of.head head) (rw of.head of.shaped) (sym argument.found) in
              subst Within (sym argument.reached) (omega (arith, further, standing.reach));
        }

        -- What comes of an argument: the next one is reached, or its fault is the answer.
        pub standing_next : (result : Result TableAt Fault) → ArgumentIs step (as_table s) records (record_length * i) result after
            → HeadRead table.head → (next : TableAt) → MatchResult result (λ reached. ◌≡◌ {A = Result TableAt Unplaced} (Ok next) (Ok reached)) (λ fault. ⊥)
            → TableStanding table t ks before (as_table next) (i + 1) after
        standing_next (Ok reached) argument head next e = let same : next ≡ reached = cc in rw same (standing_on head reached argument)
        standing_next (Err fault) argument head next never = absurd never

        pub standing_hit : (result : Result TableAt Fault) → ArgumentIs step (as_table s) records (record_length * i) result after
            → length after ≡ length records
            → (unplaced : Unplaced) → MatchResult result (λ reached. ◌≡◌ {A = Result TableAt Unplaced} (Err unplaced) (Ok reached)) (λ fault. unplaced ≡ Faulty i fault)
            → WalkMakes (by_table table t) ks before (Err unplaced) after
        standing_hit (Ok reached) argument long unplaced never = absurd (cc)
        standing_hit (Err fault) argument long unplaced e =
            rw e (make_hit (by_table table t) ks before records (as_table s) i standing.makes after fault h (rw (of.x, of.shape, of.head) at argument.found) long)
