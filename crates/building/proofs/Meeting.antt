-- Each turn of the loops of the exploration, on plain values: the states met are those of the entries that the definition meets, and the rows made are theirs, until
-- there are too many.
use Prim.Native.Nat.{ℕ, suc, ◌+◌, ◌≤◌, ◌<◌}
use mathlib.Core.Path.{◌≡◌, refl, sym, ap, ◌∙◌}
use mathlib.Core.Logic.{inl, inr}
use mathlib.Core.List.{List, [], ◌∷◌}
use native.Mathlib.Decide.{dec_lt, ℕ_discrete}
use native.Mathlib.Nat.{zero-add, mul-le-mul_left}
use native.Mathlib.Numerals.{add-one}
use native.Mathlib.Omega.{arith}
use lib.Dec.{eqb}
use lib.ListN.{length, get_or}
use borrow.Author.Tests.{eq-eqb, ne_eqb}
use Rattle.std.proofs.lemmas.List.{get_or-map, length-map, map-append}
use Rattle.convention.specs.declared.Sheet.{Sheet}
use Rattle.convention.specs.declared.Placement.{Placement}
use Rattle.convention.specs.declared.Allocation.{Allocation}
use Rattle.convention.specs.declared.Refusal.{Refusal}
use Rattle.convention.specs.Numbers.{state_limit}
use Rattle.convention.specs.Bytes.{written}
use Rattle.convention.specs.Layout.{transition_length, row_length, rows_length, in_row}
use Rattle.convention.specs.Sheets.{sheet_kind}
use Rattle.convention.specs.Tables.{transition_bytes}
use Rattle.convention.specs.Promised.{SheetRead}
use Rattle.convention.specs.Rules.{place_fault}
use Rattle.convention.specs.Explored.{Automaton, Entry, first_entry, entry, number, meet, met_from, met as met_before}
use Rattle.convention.specs.Built.{same_allocation, allocations, made, built_cell, built_row, built_states, first_allocation}
use Rattle.convention.proofs.Runs.{either}
use Rattle.convention.proofs.Numbering.{meet_known, meet_new, met_from_grows, met_grows, whole, up_to_all, up_to_node}
use Rattle.building.specs.Deciding.{rows_version, rows_most, DecidedIs, ManyStates}
use Rattle.building.specs.Holding.{nodes, place_of, met_with, met_by, cell_by, Meets, TooMany, LeadIs, MeetsLed, Passes, PassKindsAsks, PassesKinds, PassingKinds, Exploring}
use Rattle.building.proofs.Readable.{cell_wide, row_wide}
use Rattle.building.proofs.Keeping.{place_within, known_met, new_met}
use Rattle.building.proofs.Writing.{blocks_begin, blocks_on, blocks_end, rows_room, rows_made}
use Rattle.building.proofs.Staying.{nowhere_made, cell_stays}

module _ (sheet : Sheet) where
  abbrev X : Automaton
  X = allocations sheet

  -- A state's number among the states is that among the entries, and the same is met with one more.
  number_place : (l : List (Entry X)) (a : Allocation) → place_of (nodes sheet l) a ≡ number X l a
  unfolding number place_of
  number_place [] a = refl
  number_place (e ∷ l) a = elim (either (same_allocation e.node a)) [
    | inl t ↦ rw (t, number, place_of)
    | inr f ↦ rw (f, number, place_of) (ap suc (number_place l a))
  ]

  nodes_many : (l : List (Entry X)) → length (nodes sheet l) ≡ length l
  nodes_many l = length-map l (λ (e : Entry X). e.node)

  nodes_met : (l : List (Entry X)) (e : Entry X) → met_with (nodes sheet l) e.node ≡ nodes sheet (meet X l e)
  nodes_met l e = elim (dec_lt (number X l e.node) (length l)) [
    | yes h ↦ rw (meet_known X l e h) (known_met (nodes sheet l) e.node (omega (arith, number_place l e.node, nodes_many l)))
    | no h ↦
        let new = new_met (nodes sheet l) e.node (omega (arith, number_place l e.node, nodes_many l, place_within (nodes sheet l) e.node)) in
        rw (meet_new X l e (omega arith), map-append (λ (x : Entry X). x.node) l (e ∷ [])) new
  ]

  node_at : (l : List (Entry X)) (i : ℕ) (a : Allocation) → i < length l → a ≡ get_or (nodes sheet l) i first_allocation → (entry X l i).node ≡ a
  node_at l i a h e = sym (e ∙ get_or-map (λ (x : Entry X). x.node) l i (first_entry X) first_allocation h)

  -- One kind more gone through from state a, which is entry i.
  module _ (l : List (Entry X)) (a : Allocation) (i k : ℕ) where
    from_more : met_by sheet k a (nodes sheet (met_from X l a i k)) ≡ nodes sheet (met_from X l a i (suc k))
    unfolding met_from met_by
    from_more = elim (either (X.goes a k)) [
      | inl t ↦ rw (t, met_by, met_from) (nodes_met (met_from X l a i k) (record { node = X.next a k; parent = i; kind = k }))
      | inr f ↦ rw (f, met_by, met_from)
    ]

  cell_among : (l : List (Entry X)) (a : Allocation) (k : ℕ) → cell_by sheet k a (nodes sheet l) ≡ built_cell rows_version sheet l a k
  unfolding cell_by built_cell
  cell_among l a k = rw (number_place l (X.next a k))

-- One kind gone through at a state: what it leads to is met, and its transition is made.
module _ (sheet : Sheet) (k : ℕ) (a : Allocation) (place : Placement) (next : Allocation) (lead : LeadIs sheet.head (sheet_kind sheet k) a place next)
    (states : List Allocation) where
  goes : eqb (place_fault place) 0 ≡ (allocations sheet).goes a k
  goes = rw (← lead.placed)

  by_on : place_fault place ≡ 0 → met_by sheet k a states ≡ met_with states next
  unfolding met_by
  by_on z = rw (← goes, eq-eqb _ 0 z, met_by, lead.after)

  by_nowhere : (place_fault place ≡ 0 → ⊥) → met_by sheet k a states ≡ states
  unfolding met_by
  by_nowhere nz = rw (← goes, ne_eqb _ 0 nz, met_by)

  pub pass_over : (refusal : Refusal) → (place_fault place ≡ 0) × TooMany (met_with states next) refusal → TooMany (met_by sheet k a states) refusal
  pass_over refusal over = rw (by_on over.0) over.1

  pub passes : (n : ℕ) (after : List Allocation) (rows : List ℕ) (at : ℕ) (made' : List ℕ) → MeetsLed place next states n after
      → made' ≡ written rows at (transition_bytes rows_version (made sheet.head.modulus place n)) → Passes sheet k a states rows at after made'
  unfolding cell_by
  passes n after rows at made' led e = elim (ℕ_discrete (place_fault place) 0) [
    | yes z ↦ let meets = led.on z in record { met = rw (by_on z) meets.met; cell = e ∙ rw (meets.is, lead.placed, lead.after) }
    | no nz ↦ record {
      met = rw (by_nowhere nz) (led.nowhere nz);
      cell =
          e
          ∙ ap (λ x. written rows at (transition_bytes rows_version x)) (nowhere_made sheet.head.modulus place n (place_of after next) nz)
          ∙ rw (lead.placed, lead.after);
    }
  ]

-- State i gone through, before kind k of it.
module _ (sheet : Sheet) (i : ℕ) (a : Allocation) (states₀ : List Allocation) (rows₀ : List ℕ) (read : SheetRead sheet)
    (asks : PassKindsAsks sheet i a states₀ rows₀) where
  abbrev Y : Automaton
  Y = allocations sheet

  abbrev cells : ℕ → List ℕ
  cells = built_cell rows_version sheet (built_states state_limit sheet) a

  inside : i < length (met_before Y i)
  inside = omega (arith, asks.inside, ap length asks.holds, nodes_many sheet (met_before Y i))

  below : i < state_limit
  below = omega (arith, asks.inside, asks.few)

  node : (entry Y (met_before Y i) i).node ≡ a
  node = node_at sheet (met_before Y i) i a inside (rw asks.holds at asks.is)

  all : met_before Y (suc i) ≡ met_from Y (met_before Y i) a i sheet.head.kinds
  all = up_to_all Y i inside ∙ rw node

  pub passing_begin : PassingKinds sheet a i 0 rows₀ states₀ rows₀
  unfolding met_from
  passing_begin = record { holds = asks.holds; cells = blocks_begin cells _ _ rows₀ }

  module _ (k : ℕ) (states : List Allocation) (rows : List ℕ) (passing : PassingKinds sheet a i k rows₀ states rows) where
    more : met_by sheet k a states ≡ nodes sheet (met_from Y (met_before Y i) a i (suc k))
    more = rw passing.holds (from_more sheet (met_before Y i) a i k)

    -- Kind k: its transition has room among the rows, and is the one that comes next.
    module _ (h : k < sheet.head.kinds) (row at : ℕ) (er : row ≡ rows_length rows_version sheet.head i) (ea : at ≡ in_row rows_version row k) where
      cell_room : in_row rows_version (rows_length rows_version sheet.head i) k + transition_length rows_version ≤ length rows₀
      cell_room =
          let whole = rows_room sheet.head (suc i) read.head.kinds below in
          omega (arith, whole, asks.room, mul-le-mul_left (transition_length rows_version) h)

      pub cell_there : at + transition_length rows_version ≤ length rows
      cell_there = rw (ea, er, passing.cells.long) cell_room

      pub passing_on : (after : List Allocation) (made : List ℕ) → Passes sheet k a states rows at after made → PassingKinds sheet a i (k + 1) rows₀ after made
      passing_on after made passes =
          let now : after ≡ nodes sheet (met_from Y (met_before Y i) a i (suc k)) = passes.met ∙ more in
          let cell = cell_among sheet (met_from Y (met_before Y i) a i (suc k)) a k ∙ cell_stays rows_version sheet i k state_limit a inside h below node in
          record {
            holds = rw add-one now;
            cells =
                blocks_on cells _ _ rows₀ (transition_length rows_version) k rows made (cell_wide rows_version sheet _ a) passing.cells h cell_room
                (rw (ea, er, now, cell) at passes.cell);
          }

      -- Too many were met: going on meets no fewer.
      pub passing_over : (refusal : Refusal) → TooMany (met_by sheet k a states) refusal → TooMany (nodes sheet (met_before Y (i + 1))) refusal
      passing_over refusal over =
          let longer = (met_from_grows Y (met_before Y i) a i (suc k) sheet.head.kinds h).longer in
          record {
            number = over.number;
            more = rw (add-one, all) (omega (
              arith,
              over.more,
              ap length more,
              nodes_many sheet (met_from Y (met_before Y i) a i (suc k)),
              nodes_many sheet (met_from Y (met_before Y i) a i sheet.head.kinds),
              longer,
            ));
          }

    -- After the last kind.
    pub passing_end : sheet.head.kinds ≤ k → PassesKinds sheet i rows₀ states rows
    unfolding built_row
    passing_end h =
        let last : k ≡ sheet.head.kinds = omega (arith, passing.cells.within) in
        record {
          holds = rw (add-one, all) (rw last at passing.holds);
          row = rw (up_to_node Y i inside state_limit below, node) (blocks_end cells _ _ rows₀ k rows passing.cells h);
        }

-- The exploration, before state i is gone through.
module _ (sheet : Sheet) (rows₀ : List ℕ) (read : SheetRead sheet) (room : rows_most ≤ length rows₀) where
  abbrev row : ℕ → List ℕ
  row = built_row rows_version sheet (built_states state_limit sheet)

  abbrev Z : Automaton
  Z = allocations sheet

  -- The first state alone was met.
  pub exploring_begin : (first : Allocation) (n : ℕ) (after : List Allocation) → first ≡ first_allocation → Meets [] first n after
      → Exploring sheet 0 rows₀ after rows₀
  unfolding met_before met_with place_of
  exploring_begin first n after e meets = record {
    holds = rw e at meets.met;
    passed = omega arith;
    done = blocks_begin row 0 state_limit rows₀;
  }

  module _ (i : ℕ) (states : List Allocation) (rows : List ℕ) (exploring : Exploring sheet i rows₀ states rows) where
    many : length states ≡ length (met_before Z i)
    many = ap length exploring.holds ∙ nodes_many sheet (met_before Z i)

    -- State i is gone through.
    module _ (few : length states ≤ state_limit) (h : i < length states) where
      pub exploring_on : (after : List Allocation) (made : List ℕ) → PassesKinds sheet i rows after made → Exploring sheet (i + 1) rows₀ after made
      exploring_on after made passes =
          let grown = (met_grows Z i (i + 1) (omega arith)).longer in
          record {
            holds = passes.holds;
            passed = omega (arith, many, grown, ap length passes.holds, nodes_many sheet (met_before Z (i + 1)));
            done =
                blocks_on row 0 state_limit rows₀ (row_length rows_version sheet.head) i rows made (row_wide rows_version sheet _) exploring.done (omega arith)
                (omega (arith, rows_room sheet.head (suc i) read.head.kinds (omega arith), room)) (rw zero-add passes.row);
          }

      -- Too many were met: going on meets no fewer.
      pub exploring_over : (refusal : Refusal) → TooMany (nodes sheet (met_before Z (i + 1))) refusal → ManyStates sheet refusal
      exploring_over refusal over = record {
        number = over.number;
        more = omega (arith, over.more, nodes_many sheet (met_before Z (i + 1)), (met_grows Z (i + 1) state_limit (omega arith)).longer);
      }

    -- All that were met were gone through: going on meets nothing more.
    pub exploring_end : length states ≤ state_limit → length states ≤ i → DecidedIs sheet (length states) rows
    exploring_end few h =
        let last : i ≡ length states = omega (arith, exploring.passed) in
        let same = whole Z i state_limit (omega (arith, many)) (omega (arith, few)) in
        record {
          few = few;
          all = record { many = rw same many; made = rows_made sheet (length states) rows₀ rows (rw last at exploring.done.there) };
        }

-- There is room for the first state.
pub first_fits : (sheet : Sheet) (a : Allocation) (refusal : Refusal) → TooMany (met_with [] a) refusal → ManyStates sheet refusal
unfolding met_with place_of
first_fits sheet a refusal over = absurd (omega (arith, over.more))
