-- The built table can be read, by the reader's own definition, and what is read is what was built: each part stands where the reader looks for it, since kinds,
-- transitions and rows are blocks of one length each.
use Prim.Native.Nat.{ℕ, ◌+◌, ◌*◌, ◌≤◌, ◌<◌}
use mathlib.Core.Path.{◌≡◌, refl, sym, ap, ◌∙◌}
use mathlib.Core.Bool.{true, and-eq-true_iff}
use mathlib.Core.List.{List, [], ◌++◌, append-nil}
use native.Mathlib.Nat.{add-zero, mod-lt}
use native.Mathlib.Omega.{arith}
use lib.Dec.{lit<}
use lib.ListN.{length, take, drop, length-append, get_or-append, take-append-drop}
use lib.Seq.{drop-drop, drop_at, take_at}
use borrow.Author.Tests.{le-leb, lt-ltb, ltb-true, eq-eqb, ne_eqb}
use Rattle.convention.specs.declared.Head.{Head}
use Rattle.convention.specs.declared.Sheet.{Sheet}
use Rattle.convention.specs.declared.SheetKind.{SheetKind}
use Rattle.convention.specs.declared.Allocation.{Allocation}
use Rattle.convention.specs.declared.ByRules.{ByRules}
use Rattle.convention.specs.declared.Placement.{Placement}
use Rattle.convention.specs.declared.Placement.TheVariants.{Registers, Stack, Nowhere}
use Rattle.convention.specs.Bytes.{blocks}
use Rattle.convention.specs.Layout.{kinds_at, shape_length, state_length, states_at, rows_at, transition_length, row_length, row_at, transition_at, table_length, LengthSaid}
use Rattle.convention.specs.Fields.{length_no, version_of, head_of, state_field, state_bytes}
use Rattle.convention.specs.Shapes.{registers_needed}
use Rattle.convention.specs.Sheets.{sheet_kind, blank_shape}
use Rattle.convention.specs.Tables.{table_kinds_of, is_transition, table_no, table_of, table_kind, transition}
use Rattle.convention.specs.Rules.{place_fault, by_rules}
use Rattle.convention.specs.Lists.{parts_of}
use Rattle.convention.specs.Explored.{Entry, entry}
use Rattle.convention.specs.Built.{from_allocation, allocations, made, built_transition, built_version, built_cell, built_row, built_kind, built_body}
use Rattle.convention.specs.Built.{table_of_states, built_states, built_table}
use Rattle.convention.specs.Promised.{SheetRead, TableRead}
use Rattle.convention.proofs.Numbers.{unless_zero}
use Rattle.convention.proofs.Bytes.{length_blocks, block_in}
use Rattle.convention.proofs.Fields.{filled_length}
use Rattle.convention.proofs.Positions.{shape_wide, shape_back, shape_part, state_wide, state_back, state_part, transition_wide, transition_back, transition_part}
use Rattle.convention.proofs.Positions.{table_most}
use Rattle.convention.proofs.Tables.{table_kinds_count, table_kind_at_lem}
use Rattle.convention.proofs.Offsets.{modulus_pos}
use Rattle.convention.proofs.Numbering.{met_some}
use Rattle.convention.proofs.Scanning.{met_scanned}
use Rattle.convention.proofs.Exploring.{closed}
use Rattle.building.proofs.Allocations.{allocations_decide}
use Rattle.building.proofs.Places.{Gives, rules_give}
use Rattle.building.proofs.Passing.{length_pass, table_pass}

-- Where there is a place it is of form 1 or 2, and leads to the next state.
pub made_form : (modulus : ℕ) (place : Placement) (next : ℕ) → place_fault place ≡ 0 → 0 < (made modulus place next).form
made_form modulus place next f = ltb-true 0 (parts_of place).form (unless_zero _ 1 (lit< tt) f)

pub made_next : (modulus : ℕ) (place : Placement) (next : ℕ) → place_fault place ≡ 0 → (made modulus place next).next ≡ next
made_next modulus place next f = rw (ne_eqb (parts_of place).form 0 (omega (arith, made_form modulus place next f)))

-- It is as 01 allows it, where the next state is one of the table's.
made_right : (h : Head) (kind : SheetKind) (s : ByRules) (place : Placement) (states next : ℕ) → Gives h kind s place → 0 < h.modulus
    → (place_fault place ≡ 0 → next < states) → is_transition h states (made h.modulus place next) ≡ true
made_right h kind s (Registers first count) states next g a n = (and-eq-true_iff _ _).1 (le-leb _ _ g.1, lt-ltb _ _ (n refl))
made_right h kind s (Stack offset count) states next g a n = (and-eq-true_iff _ _).1 (lt-ltb _ _ (mod-lt offset.0 a), lt-ltb _ _ (n refl))
made_right h kind s Nowhere states next g a n = refl

-- Where the place is in registers, they are exactly those that the kind's size needs.
parts_exact : (h : Head) (kind : SheetKind) (s : ByRules) (place : Placement) → Gives h kind s place → (parts_of place).form ≡ 1
    → (parts_of place).count ≡ registers_needed h.width kind.shape
parts_exact h kind s (Registers first count) g e = g.2
parts_exact h kind s (Stack offset count) g e = absurd (omega (arith, e))
parts_exact h kind s Nowhere g e = absurd (omega (arith, e))

-- How long the kinds are.
pub kind_wide : (v : ℕ) (sheet : Sheet) (k : ℕ) → length (built_kind v sheet k) ≡ shape_length v
kind_wide v sheet k = shape_wide v (sheet_kind sheet k).shape

pub kinds_length : (v : ℕ) (sheet : Sheet) → length (blocks (built_kind v sheet) sheet.head.kinds) ≡ shape_length v * sheet.head.kinds
kinds_length v sheet = length_blocks (built_kind v sheet) (shape_length v) sheet.head.kinds (λ k b. kind_wide v sheet k)

-- The table whose states are the entries of l.
module _ (v : ℕ) (sheet : Sheet) (l : List (Entry (allocations sheet))) where
  abbrev bytes : List ℕ
  bytes = table_of_states v sheet l

  abbrev h : Head
  h = sheet.head

  abbrev kinds : List ℕ
  kinds = blocks (built_kind v sheet) h.kinds

  abbrev rows : List ℕ
  rows = blocks (built_row v sheet l) (length l)

  abbrev node : ℕ → Allocation
  node i = (entry (allocations sheet) l i).node

  -- How long the blocks are.
  pub cell_wide : (a : Allocation) (k : ℕ) → length (built_cell v sheet l a k) ≡ transition_length v
  unfolding built_cell
  cell_wide a k = transition_wide v (built_transition sheet l a k)

  pub row_wide : (i : ℕ) → length (built_row v sheet l i) ≡ row_length v sheet.head
  unfolding built_row
  row_wide i = length_blocks _ (transition_length v) h.kinds (λ k b. cell_wide (node i) k)

  rows_length_lem : length rows ≡ row_length v h * length l
  rows_length_lem = length_blocks (built_row v sheet l) (row_length v h) (length l) (λ i b. row_wide i)

  -- So the table is as long as the reader counts.
  pub built_length : length (table_of_states v sheet l) ≡ table_length v sheet.head (length l)
  unfolding table_of_states built_body
  built_length = simp (length-append, kinds_length, state_wide, rows_length_lem) (omega arith)

  -- The length is right.
  length_right : length bytes < 65536 → length_no bytes ≡ 0
  unfolding table_of_states
  length_right b = length_pass (built_body v sheet l) (omega arith)

  -- The version, the head, and what stands from the kinds, from N and from the rows on.
  version_bytes : version_of bytes ≡ v
  unfolding table_of_states built_body version_of
  version_bytes = refl

  head_bytes : head_of bytes ≡ h
  unfolding table_of_states built_body head_of
  head_bytes = refl

  from_kinds : drop kinds_at bytes ≡ kinds ++ (state_bytes v (length l) ++ rows)
  unfolding table_of_states built_body
  from_kinds = refl

  from_states : drop (states_at v h) bytes ≡ state_bytes v (length l) ++ rows
  from_states = sym (drop-drop (shape_length v * h.kinds) kinds_at bytes) ∙ rw from_kinds (drop_at kinds _ _ (kinds_length v sheet))

  from_rows : drop (rows_at v h) bytes ≡ rows
  from_rows = sym (drop-drop (state_length v) (states_at v h) bytes) ∙ rw from_states (drop_at (state_bytes v (length l)) rows _ (state_wide v (length l)))

  -- The bytes of kind k, and those of the transition of state i and kind k.
  kind_bytes : (k : ℕ) → k < h.kinds → take (shape_length v) (drop (shape_length v * k) (drop kinds_at bytes)) ≡ built_kind v sheet k
  kind_bytes k b = rw from_kinds (block_in (built_kind v sheet) (shape_length v) h.kinds (λ k b. kind_wide v sheet k) _ k b)

  cell_bytes : (i k : ℕ) → i < length l → k < h.kinds
      → take (transition_length v) (drop (transition_at v h i k) bytes) ≡ built_cell v sheet l (node i) k
  unfolding built_row
  cell_bytes i k b c =
      let here = drop (row_length v h * i) rows in
      let row : take (row_length v h) here ≡ built_row v sheet l i =
      rw append-nil at (block_in (built_row v sheet l) (row_length v h) (length l) (λ i b. row_wide i) [] i b) in
      let from_row : here ≡ drop (row_at v h i) bytes = rw (← from_rows, drop-drop) in
      let place : drop (transition_at v h i k) bytes ≡ drop (transition_length v * k) (built_row v sheet l i ++ drop (row_length v h) here) =
      sym (drop-drop (transition_length v * k) (row_at v h i) bytes) ∙ rw (← from_row, ← row, take-append-drop) in
      rw place (block_in (built_cell v sheet l (node i)) (transition_length v) h.kinds (λ k b. cell_wide (node i) k) _ k c)

  -- The version and the head that are read are the sheet's.
  pub built_version_lem : (table_of (table_of_states v sheet l)).version ≡ v
  unfolding table_of
  built_version_lem = version_bytes

  pub built_head : (table_of (table_of_states v sheet l)).head ≡ sheet.head
  unfolding table_of
  built_head = head_bytes

  -- N is the number of states.
  pub built_states_lem : (table_of (table_of_states v sheet l)).states ≡ length l
  unfolding table_of
  built_states_lem =
      let part : take (state_length v) (drop (states_at v h) bytes) ≡ state_bytes v (length l) =
      rw from_states (take_at (state_bytes v (length l)) rows _ (state_wide v (length l))) in
      let there : state_field v bytes (states_at v h + 0) ≡ length l =
      sym (state_part v bytes (states_at v h) (state_length v) 0 (omega arith)) ∙ rw (part, ← append-nil (state_bytes v (length l))) (state_back v (length l) [] []) in
      rw (version_bytes, head_bytes) (rw add-zero at there)

  -- The kinds fill an array of eight.
  kinds_eight : h.kinds ≤ 8 → length (table_of bytes).kinds ≡ 8
  unfolding table_of
  kinds_eight b =
      rw (version_bytes, head_bytes) (filled_length (table_kinds_of v (drop kinds_at bytes) h.kinds) h.kinds 8 blank_shape (table_kinds_count v _ h.kinds) b)

  -- Their shapes are the sheet's.
  pub built_kind_lem : (k : ℕ) → k < sheet.head.kinds → table_kind (table_of (table_of_states v sheet l)) k ≡ (sheet_kind sheet k).shape
  unfolding table_of
  built_kind_lem k b =
      let from = drop kinds_at bytes in
      rw (
        version_bytes,
        head_bytes,
        get_or-append (table_kinds_of v from h.kinds) _ _ k (rw table_kinds_count b),
        table_kind_at_lem v from h.kinds k _ b,
        ← shape_part v (drop (shape_length v * k) from),
        kind_bytes k b,
      )
      (shape_back v (sheet_kind sheet k).shape)

  -- Each transition is the one made of the rules' place in that state and of the next state's number.
  pub built_transition_lem : (i k : ℕ) → i < length l → k < sheet.head.kinds
      → transition (table_of (table_of_states v sheet l)) (table_of_states v sheet l) i k ≡ built_transition sheet l (entry (allocations sheet) l i).node k
  unfolding table_of built_cell
  built_transition_lem i k b c =
      rw (version_bytes, head_bytes, ← transition_part v bytes (transition_at v h i k), cell_bytes i k b c)
      (transition_back v (built_transition sheet l (node i) k))

  -- Document 02, W-202, 'Built tables never differed': where a transition gives registers, they are exactly those that its kind's size needs.
  pub built_exact : SheetRead sheet → (i k : ℕ) → i < length l → k < sheet.head.kinds
      → (transition (table_of (table_of_states v sheet l)) (table_of_states v sheet l) i k).form ≡ 1
      → (transition (table_of (table_of_states v sheet l)) (table_of_states v sheet l) i k).b
      ≡ registers_needed (table_of (table_of_states v sheet l)).head.width (table_kind (table_of (table_of_states v sheet l)) k)
  built_exact R i k b c e =
      let from = from_allocation (node i) in
      let gives = rules_give h (sheet_kind sheet k) from (R.kind k c) in
      let stored = built_transition_lem i k b c in
      ap (λ x. x.b) stored
      ∙ rw (built_head, built_kind_lem k c) (parts_exact h (sheet_kind sheet k) from ((by_rules sheet).place from k) gives (sym (ap (λ x. x.form) stored) ∙ e))

-- The built table, where the states are no more than the limit, and its length can be said in two bytes.
module _ (limit : ℕ) (sheet : Sheet) (R : SheetRead sheet) (whole : length (built_states limit sheet) ≤ limit) (said : LengthSaid limit) where
  abbrev l : List (Entry (allocations sheet))
  l = built_states limit sheet

  abbrev v : ℕ
  v = built_version sheet (length l)

  abbrev table : List ℕ
  table = built_table limit sheet

  -- Each transition is as 01 allows it: where there is a place, the next state was met.
  right : (i k : ℕ) → i < length l → k < sheet.head.kinds
      → is_transition sheet.head (length l) (built_transition sheet l (entry (allocations sheet) l i).node k) ≡ true
  right i k h b =
      let from = from_allocation (entry (allocations sheet) l i).node in
      made_right sheet.head (sheet_kind sheet k) from ((by_rules sheet).place from k) (length l) _
      (rules_give sheet.head (sheet_kind sheet k) from (R.kind k b)) (modulus_pos sheet.head.modulus R.head.modulus)
      (λ f. closed (allocations sheet) (allocations_decide sheet) l limit (met_scanned (allocations sheet) (allocations_decide sheet) limit) i k (omega arith) h b (eq-eqb _ 0 f))

  -- So the table has all that is promised of one.
  promised : TableRead limit (table_of table) table
  unfolding built_version
  promised = record {
    version = rw (built_version_lem v sheet l);
    head = rw (built_head v sheet l) R.head;
    eight = kinds_eight v sheet l R.head.kinds;
    kind = rw (built_head v sheet l) (λ k b. rw (built_kind_lem v sheet l k b) (R.kind k b).shape);
    some = rw (built_states_lem v sheet l) (met_some (allocations sheet) limit);
    states = rw (built_states_lem v sheet l) whole;
    whole = rw (built_version_lem v sheet l, built_head v sheet l, built_states_lem v sheet l) (built_length v sheet l);
    transition = rw (built_head v sheet l, built_states_lem v sheet l) (λ i k h b.
        ap (is_transition sheet.head (length l)) (rw (built_head v sheet l) at (built_transition_lem v sheet l i k h b)) ∙ right i k h b);
  }

  -- The built table can be read.
  pub readable : table_no limit (built_table limit sheet) ≡ 0
  readable =
      let most = table_most v sheet.head (length l) limit R.head.kinds whole in
      let short : length table < 65536 = rw built_length (omega (arith, most, said v)) in
      table_pass limit table promised (length_right v sheet l short)
