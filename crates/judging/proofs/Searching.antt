-- One turn of the search, on plain values: the kinds from an entry, and then the entries, in the order of the scan.
use Prim.Native.Nat.{ℕ, suc, ◌+◌, ◌≤◌, ◌<◌}
use native.Mathlib.Numerals.{add-one}
use native.Mathlib.Omega.{arith}
use mathlib.Core.Path.{◌≡◌, sym, ap, subst, ◌∙◌}
use mathlib.Core.List.{List}
use lib.ListN.{length}
use Rattle.std.specs.Prelude.{Option, Some, None, Result, Ok, Err}
use Rattle.std.proofs.lemmas.List.{length-map}
use borrow.Author.Count.{below_more}
use borrow.Author.Tests.{eq-eqb}
use Rattle.convention.specs.declared.Table.{Table}
use Rattle.convention.specs.declared.Fault.{Fault}
use Rattle.convention.specs.Results.{fault_number, fault_of}
use Rattle.convention.specs.Promised.{TableRead}
use Rattle.convention.proofs.Results.{fault_some}
use Rattle.convention.specs.Numbers.{state_limit}
use Rattle.convention.specs.Explored.{Automaton, Entry, meet, met_from, met, met_up_to}
use Rattle.convention.proofs.Numbering.{whole, up_to_all, up_to_there, up_to_grows, up_to_node}
use Rattle.convention.proofs.Numbered.{entries_below}
use Rattle.table.specs.Within.{InTable}
use Rattle.walking.specs.declared.step.Step.{Step}
use Rattle.walking.specs.Steps.{StepOf}
use Rattle.exploring.specs.declared.Entry.{Entry as Met}
use Rattle.exploring.specs.Stored.{read_as, entry_of, MeetAsks, MeetIs, NodeIs}
use Rattle.judging.specs.declared.search.Found.{Found}
use Rattle.judging.specs.Limits.{node_limit}
use Rattle.judging.specs.Watched.{Watch, node_state, node_flag, watched_steps, watched, nodes, scan, node_fault, node_after, Hit, FirstHit}
use Rattle.judging.specs.Searched.{WatchedStepIs, HoldsWatched, ThroughAsks, node_here, GoingThrough, FirstFault, ThroughIs, SearchAsks, Searching, HoldsUpTo, SearchIs}
use Rattle.judging.proofs.Watched.{watched_tree, watched_bounded, after_below, nodes_few}
use Rattle.judging.proofs.Stepping.{step_fault, step_after}

-- As many entries are kept as the walk has met.
pub held_long : (table : Table) (t : List ℕ) (watch : Watch) (l : List (Entry (watched table t watch))) (kept : List Met) → HoldsWatched table t watch l kept
    → length kept ≡ length l
held_long table t watch l kept holds = sym (length-map kept (read_as (watched_steps table t watch))) ∙ ap length holds

-- ---- the kinds from entry i

module _ (table : Table) (t : List ℕ) (watch : Watch) (read : TableRead state_limit table t) (i node : ℕ) (before : List Met) (asks : ThroughAsks table t watch i node before) where
  abbrev walk : Automaton
  walk = watched table t watch

  -- There is entry i.
  there : i < length (met walk i)
  there = omega (arith, asks.inside, held_long table t watch _ before asks.holds)

  -- Its node is one of the table's.
  pub through_inside : node < nodes table
  through_inside =
      let bounded = watched_bounded state_limit table t read watch in
      rw asks.here (entries_below (watched_steps table t watch) (nodes table) bounded (met walk i) (watched_tree table t watch i) i there)

  pub through_state : node_state node < state_limit
  through_state = omega (arith, through_inside, read.states)

  -- Before the first kind.
  pub through_begin : GoingThrough table t watch i 0 before
  unfolding met_from
  through_begin = record { clean = λ q h. absurd (omega arith); holds = asks.holds }

  module _ (k : ℕ) (kept : List Met) (through : GoingThrough table t watch i k kept) (h : k < table.head.kinds) where
    -- The table has it.
    pub through_in : InTable table (node_state node) k
    through_in = record { state = omega (arith, through_inside); kind = h }

    module _ (step : Step) (of : StepOf table t (node_state node) k step) where
      module _ (r : Result ℕ Fault) (is : WatchedStepIs step watch (node_flag node) r) where
        faults : fault_of r ≡ node_fault table t watch (node_here table t watch i) k
        faults = rw (← asks.here) (step_fault table t node k step of watch r is)

        -- It is faulty.
        pub through_hit : (fault : Fault) → r ≡ Err fault → ThroughIs table t watch i (Some k) kept
        through_hit fault e =
            let says : fault_of r ≡ fault_number fault = ap fault_of e in
            let some : 0 < node_fault table t watch (node_here table t watch i) k = omega (arith, faults, says, fault_some fault) in
            let first : FirstFault table t watch i k kept = record { below = h; through = through; faulty = some } in
            record { some = λ q e. let same : k ≡ q = cc in rw same at first; none = λ e. absurd (cc) }

        module _ (next : ℕ) (e : r ≡ Ok next) where
          leads : next ≡ node_after table t watch node k
          leads = step_after table t node k step of watch r is next e

          -- It is not, and where it leads can be met.
          pub through_meets : MeetAsks node_limit kept next i k
          through_meets = record {
            known =
                let inside : next < nodes table = rw leads (after_below state_limit table t read watch node k through_inside h) in
                omega (arith, read.states);
            from = omega (arith, up_to_there walk i there k, held_long table t watch _ kept through.holds);
            small = omega (arith, read.head.kinds);
          }

          clean_here : node_fault table t watch (node_here table t watch i) k ≡ 0
          clean_here = sym faults ∙ ap fault_of e

          grown : met_up_to walk i (suc k) ≡ meet walk (met_up_to walk i k) (entry_of (watched_steps table t watch) next i k)
          unfolding met_from
          grown = rw (eq-eqb (node_fault table t watch (node_here table t watch i) k) 0 clean_here, met_from, leads, asks.here)

          -- One more kind gone through.
          pub through_turn : (number : ℕ) (after : List Met) → MeetIs kept next i k number after → GoingThrough table t watch i (k + 1) after
          through_turn number after meets = record {
            clean = below_more (λ q. node_fault table t watch (node_here table t watch i) q ≡ 0) k through.clean clean_here;
            holds = rw (add-one, grown, meets.meets (watched_steps table t watch), through.holds);
          }

-- ---- the entries

module _ (table : Table) (t : List ℕ) (watch : Watch) (read : TableRead state_limit table t) (before : List Met) (asks : SearchAsks table t watch before) where
  -- After as many entries as there are nodes there are no more.
  pub search_end : (i : ℕ) (kept : List Met) → Searching table t watch i kept → nodes table ≤ i → SearchIs table t watch None kept
  search_end i kept searching h = record {
    hit = λ f e. absurd (cc);
    holds = λ f e. absurd (cc);
    none = λ _ j q hit. searching.clean j q (omega (arith, hit.inside, nodes_few state_limit table t read watch (nodes table))) hit;
  }

  module _ (i : ℕ) (kept : List Met) (searching : Searching table t watch i kept) (inside : i < nodes table) (r : Option ℕ) (is : NodeIs kept i r) where
    -- There is no entry i.
    pub search_none : r ≡ None → SearchIs table t watch None kept
    search_none e =
        let done : length (met (watched table t watch) i) ≤ i = omega (arith, is.none e, held_long table t watch _ kept searching.holds) in
        let all : scan table t watch ≡ met (watched table t watch) i = whole (watched table t watch) i (nodes table) done (omega arith) in
        record {
          hit = λ f e. absurd (cc);
          holds = λ f e. absurd (cc);
          none = λ _ j q hit. searching.clean j q (omega (arith, rw all at hit.inside)) hit;
        }

    module _ (node : ℕ) (e : r ≡ Some node) where
      there_next : i < length (met (watched table t watch) i)
      there_next = omega (arith, (is.some node e).0, held_long table t watch _ kept searching.holds)

      -- It can be gone through.
      pub search_through : ThroughAsks table t watch i node kept
      search_through = record {
        holds = searching.holds;
        inside = (is.some node e).0;
        here = (is.some node e).1 (watched_steps table t watch) ∙ rw searching.holds;
      }

      -- The kinds below k do not hit.
      lower : (k : ℕ) (after : List Met) → GoingThrough table t watch i k after → (q : ℕ) → q < k → Hit table t watch i q → ⊥
      lower k after gone q l hit = omega (arith, gone.clean q l, rw (up_to_node (watched table t watch) i there_next (nodes table) inside) at hit.faulty)

      module _ (gone : Option ℕ) (after : List Met) (through : ThroughIs table t watch i gone after) where
        -- Kind k hits.
        pub search_hit : (k : ℕ) → gone ≡ Some k → SearchIs table t watch (Some (record { entry = i; kind = k })) after
        search_hit k g =
            let first = through.some k g in
            let grows = up_to_grows (watched table t watch) i there_next k (nodes table) (omega (arith, first.below)) inside in
            let here : FirstHit table t watch i k = record {
              hit = record {
                inside = omega (arith, up_to_there (watched table t watch) i there_next k, grows.longer);
                below = first.below;
                faulty = rw (up_to_node (watched table t watch) i there_next (nodes table) inside) first.faulty;
              };
              earlier = searching.clean;
              lower = lower k after first.through;
            } in
            let held : HoldsUpTo table t watch i k after = record { holds = first.through.holds; there = there_next } in
            record {
              hit = λ f q. let same : record { entry = i; kind = k } ≡ f = cc in subst (λ (f : Found). FirstHit table t watch f.entry f.kind) same here;
              holds = λ f q. let same : record { entry = i; kind = k } ≡ f = cc in subst (λ (f : Found). HoldsUpTo table t watch f.entry f.kind after) same held;
              none = λ q. absurd (cc);
            }

        -- Nothing hits at entry i.
        pub search_turn : gone ≡ None → Searching table t watch (i + 1) after
        search_turn g =
            let all = through.none g in
            record {
              clean = λ j q o.
                  below_more (λ j. (q : ℕ) → Hit table t watch j q → ⊥) i (λ j o q. searching.clean j q o)
                  (λ q hit. lower table.head.kinds after all q hit.below hit) j o q;
              holds = rw (add-one, up_to_all (watched table t watch) i there_next) all.holds;
            }
