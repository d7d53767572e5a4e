-- Why a built table places exactly like its sheet: while the rules stand in an allocation state, the table stands in that state's number, with the same p.
-- From there each kind has the same place, since the residue that is stored leads from p to the rules' offset; and the table finds no fault of its own, since it
-- has given no register that is available by the rules.
use Prim.Native.Nat.{ℕ, ◌%◌, ◌≤◌, ◌<◌}
use mathlib.Core.Path.{◌≡◌, refl, ap, ◌∙◌}
use mathlib.Core.Bool.{Bool, true}
use mathlib.Core.List.{List}
use native.Mathlib.Nat.{zero-mod}
use native.Mathlib.Omega.{arith}
use lib.ListN.{length, take}
use borrow.Author.Tests.{eq-eqb}
use Rattle.convention.specs.declared.Head.{Head}
use Rattle.convention.specs.declared.Sheet.{Sheet}
use Rattle.convention.specs.declared.SheetKind.{SheetKind}
use Rattle.convention.specs.declared.ByRules.{ByRules}
use Rattle.convention.specs.declared.ByTable.{ByTable}
use Rattle.convention.specs.declared.Placement.{Placement}
use Rattle.convention.specs.declared.Placement.TheVariants.{Registers, Stack, Nowhere}
use Rattle.convention.specs.Sheets.{sheet_kind}
use Rattle.convention.specs.Offsets.{least_offset}
use Rattle.convention.specs.Tables.{table_of, transition}
use Rattle.convention.specs.Lists.{fault_from, stop_from, state_from, places_from, KindsBelow}
use Rattle.convention.specs.Rules.{place_fault, place_taken, place_p, rules_after, by_rules}
use Rattle.convention.specs.Walked.{table_place, table_fault, table_after}
use Rattle.convention.specs.Explored.{Automaton, Entry, entry, number}
use Rattle.convention.specs.Built.{allocation, allocations, made, built_states, built_table}
use Rattle.convention.specs.Promised.{HeadRead, SheetKindRead, SheetRead}
use Rattle.convention.proofs.Numbers.{or_on, unless_true}
use Rattle.convention.specs.Shapes.{right_count}
use Rattle.convention.proofs.Offsets.{modulus_pos, aligned_residue, residue_aligned}
use Rattle.convention.proofs.Shapes.{needed_right}
use Rattle.convention.proofs.Numbering.{node_number, met_some, met_start}
use Rattle.convention.proofs.Scanning.{met_scanned}
use Rattle.convention.proofs.Exploring.{closed}
use Rattle.stepping.specs.Sets.{Among}
use Rattle.stepping.proofs.Runs.{free_among}
use Rattle.building.specs.Made.{by_built}
use Rattle.building.proofs.Allocations.{allocations_decide, alignment_divides, goes_placed, next_after, made_here}
use Rattle.building.proofs.Places.{Gives, rules_give, taken_among, after_among, after_length_lem}
use Rattle.building.proofs.Readable.{made_next, built_head, built_kind_lem, built_transition_lem}
use Rattle.building.proofs.InStep.{InStep, step_fault, step_stop, step_before, step_places, step_state}

-- One step by the transition made of a place that the rules give a kind in state s.
module _ (h : Head) (kind : SheetKind) (s : ByRules) (H : HeadRead h) (K : SheetKindRead h kind) where
  aligned : 0 < kind.shape.alignment
  aligned = modulus_pos kind.shape.alignment K.shape.alignment

  -- The table gives that place.
  made_place : (place : Placement) (next : ℕ) → Gives h kind s place → table_place h (made h.modulus place next) s.p.0 ≡ place
  made_place (Registers first count) next g = refl
  made_place (Stack offset count) next g =
      let stored = aligned_residue kind.shape.alignment h.modulus s.p.0 aligned (modulus_pos h.modulus H.modulus) (alignment_divides H K) in
      let same : least_offset h.modulus (offset.0 % h.modulus) s.p.0 ≡ offset.0 = rw g.0 stored in
      rw same
  made_place Nowhere next g = refl

  -- It has the rules' fault, and no other, where it has given no register that is available in s.
  made_fault : (place : Placement) (next : ℕ) (given : List Bool) → Gives h kind s place → Among given s.unavailable
      → table_fault h kind.shape (made h.modulus place next) given ≡ place_fault place
  unfolding table_fault
  made_fault (Registers first count) next given g within =
      let right : right_count h.width count kind.shape ≡ true = rw g.2 (needed_right h.width kind.shape) in
      or_on _ _ (unless_true _ 2 (free_among given s.unavailable first.0 count within g.0)) ∙ unless_true _ 3 right
  made_fault (Stack offset count) next given g within =
      let stored = residue_aligned kind.shape.alignment h.modulus s.p.0 aligned (alignment_divides H K) in
      let residue : offset.0 % h.modulus % kind.shape.alignment ≡ 0 = rw g.0 stored in
      or_on _ _ (unless_true _ 3 (eq-eqb _ _ g.1)) ∙ unless_true _ 4 (eq-eqb _ 0 residue)
  made_fault Nowhere next given g within = refl

  -- Where there is none, it goes on in the next state, with the registers of the place given, and from the p after it.
  made_after : (place : Placement) (next : ℕ) (u : ByTable) → Gives h kind s place → u.p ≡ s.p → place_fault place ≡ 0
      → table_after h (made h.modulus place next) u ≡ record { state = next; given = place_taken place u.given; p = place_p place s.p }
  unfolding table_after
  made_after place next u g e f =
      let same : table_place h (made h.modulus place next) u.p.0 ≡ place = rw e (made_place place next g) in
      λ i. record { state = made_next h.modulus place next f i; given = place_taken (same i) u.given; p = place_p (same i) (e i) }

-- The rules stand in s and the table in u: in the number of the allocation state of s, at the same p, with no register given that is available. l holds the states.
pub record Together (sheet : Sheet) (l : List (Entry (allocations sheet))) (s : ByRules) (u : ByTable) : Type 0 where
  pub inside : u.state < length l
  pub node : (entry (allocations sheet) l u.state).node ≡ allocation sheet.head.modulus s
  pub offset : u.p ≡ s.p
  pub given : Among u.given s.unavailable
  pub sixteen : length s.unavailable ≡ 16

module _ (limit : ℕ) (sheet : Sheet) (R : SheetRead sheet) (whole : length (built_states limit sheet) ≤ limit) where
  abbrev X : Automaton
  X = allocations sheet

  abbrev l : List (Entry X)
  l = built_states limit sheet

  abbrev h : Head
  h = sheet.head

  -- They begin together.
  pub begin_together : Together sheet (built_states limit sheet) (by_rules sheet).begin (by_built limit sheet).begin
  begin_together = record {
    inside = met_some X limit;
    node = rw (met_start X limit, zero-mod);
    offset = refl;
    given = λ r e. e;
    sixteen = refl;
  }

  -- One step of both, by a kind of the sheet's.
  module _ (s : ByRules) (u : ByTable) (k : ℕ) (t : Together sheet l s u) (b : k < h.kinds) where
    abbrev kind : SheetKind
    kind = sheet_kind sheet k

    abbrev place : Placement
    place = (by_rules sheet).place s k

    abbrev next : ℕ
    next = number X l (allocation h.modulus ((by_rules sheet).after s k))

    gives : Gives h kind s place
    gives = rules_give h kind s (R.kind k b)

    -- The table's transition is made of the place that the rules give in s.
    stored : transition (table_of (built_table limit sheet)) (built_table limit sheet) u.state k ≡ made h.modulus place next
    stored = built_transition_lem _ sheet l u.state k t.inside b ∙ rw t.node (made_here sheet R s k b l)

    place_together : (by_built limit sheet).place u k ≡ (by_rules sheet).place s k
    place_together =
        ap (λ x. table_place (table_of (built_table limit sheet)).head x u.p.0) stored
        ∙ rw (built_head _ sheet l, t.offset) (made_place h kind s R.head (R.kind k b) place next gives)

    fault_together : (by_built limit sheet).fault u k ≡ (by_rules sheet).fault s k
    fault_together =
        rw (stored, built_kind_lem _ sheet l k b, built_head _ sheet l) (made_fault h kind s R.head (R.kind k b) place next u.given gives t.given)

    -- Where there is a place, there is a next state.
    next_inside : (by_rules sheet).fault s k ≡ 0 → next < length l
    next_inside f =
        let goes : X.goes (entry X l u.state).node k ≡ true = rw t.node ((goes_placed sheet R s k b).1 f) in
        let met = closed X (allocations_decide sheet) l limit (met_scanned X (allocations_decide sheet) limit) u.state k (omega (arith, t.inside)) t.inside b goes in
        rw (t.node, next_after sheet R s k b) at met

    after_together : (by_rules sheet).fault s k ≡ 0 → Together sheet l ((by_rules sheet).after s k) ((by_built limit sheet).after u k)
    unfolding rules_after
    after_together f =
        let room : h.registers ≤ length s.unavailable = omega (arith, R.head.registers, t.sixteen) in
        rw (stored, built_head _ sheet l, made_after h kind s R.head (R.kind k b) place next u gives t.offset f) (record {
          inside = next_inside f;
          node = node_number X (allocations_decide sheet) l _ (next_inside f);
          offset = refl;
          given = λ r e. after_among h.width kind s r (taken_among h kind s place u.given gives room t.given r e);
          sixteen = after_length_lem h.width kind s ∙ t.sixteen;
        })

  -- So the two walk in step.
  pub in_step : InStep (by_rules sheet) (by_built limit sheet) sheet.head.kinds (Together sheet (built_states limit sheet))
  in_step = record { fault = fault_together; place = place_together; after = after_together; p = λ s u t. t.offset }

  -- Over every list of the sheet's kinds, of any length.
  module _ (ks : List ℕ) (below : KindsBelow sheet.head.kinds ks) where
    -- The built table finds the fault that the rules find, or none where they find none.
    pub agree_fault : fault_from (by_built limit sheet) (by_built limit sheet).begin ks ≡ fault_from (by_rules sheet) (by_rules sheet).begin ks
    agree_fault = step_fault _ _ _ _ in_step _ _ ks begin_together below

    -- It finds it at the same argument.
    pub agree_stop : stop_from (by_built limit sheet) (by_built limit sheet).begin ks ≡ stop_from (by_rules sheet) (by_rules sheet).begin ks
    agree_stop = step_stop _ _ _ _ in_step _ _ ks begin_together below

    -- The places before that argument are the same.
    pub agree_before :
        take (stop_from (by_built limit sheet) (by_built limit sheet).begin ks) (places_from (by_built limit sheet) (by_built limit sheet).begin ks)
        ≡ take (stop_from (by_rules sheet) (by_rules sheet).begin ks) (places_from (by_rules sheet) (by_rules sheet).begin ks)
    agree_before = step_before _ _ _ _ in_step _ _ ks begin_together below

    -- Where there is no fault, all places are the same.
    pub agree_places : fault_from (by_rules sheet) (by_rules sheet).begin ks ≡ 0
        → places_from (by_built limit sheet) (by_built limit sheet).begin ks ≡ places_from (by_rules sheet) (by_rules sheet).begin ks
    agree_places e = step_places _ _ _ _ in_step _ _ ks begin_together below e

    -- So is then the final p.
    pub agree_p : fault_from (by_rules sheet) (by_rules sheet).begin ks ≡ 0
        → (by_built limit sheet).p (state_from (by_built limit sheet) (by_built limit sheet).begin ks)
        ≡ (by_rules sheet).p (state_from (by_rules sheet) (by_rules sheet).begin ks)
    agree_p e = (step_state _ _ _ _ in_step _ _ ks begin_together below e).offset
