-- Laws of writing the table: stores one after the other, blocks one after the other, and the parts put together.
use Prim.Native.Nat.{ℕ, ◌+◌, ◌-◌, ◌*◌, ◌≤◌, ◌<◌, zero-le}
use mathlib.Core.Path.{◌≡◌, refl, sym, ap, ◌∙◌}
use mathlib.Core.List.{List, [], ◌∷◌, ◌++◌, append_assoc}
use native.Mathlib.Numerals.{add-one}
use native.Mathlib.Nat.{add-zero, mul-le-mul}
use native.Mathlib.Omega.{arith}
use lib.ListN.{length, set, take, drop, length-append, length-take, length-drop, length-set, drop_of_length-le}
use Rattle.convention.specs.declared.Head.{Head}
use Rattle.convention.specs.declared.Shape.{Shape}
use Rattle.convention.specs.declared.Sheet.{Sheet}
use Rattle.convention.specs.Bytes.{written, blocks}
use Rattle.convention.specs.Numbers.{state_limit}
use Rattle.convention.specs.Layout.{length_bytes, kinds_at, size_at, alignment_at, shape_length, table_kind_at, state_length, states_at, rows_at}
use Rattle.convention.specs.Layout.{row_length, rows_length, table_length}
use Rattle.convention.specs.Fields.{shape_bytes, state_bytes}
use Rattle.convention.specs.Sheets.{sheet_kind}
use Rattle.convention.specs.Promised.{SheetRead}
use Rattle.convention.specs.Explored.{Entry}
use Rattle.convention.specs.Built.{allocations, built_version, built_row, built_kind, built_body, table_of_states, built_states, built_table}
use Rattle.convention.proofs.Bytes.{length_written, written_nothing, written_sets, written_one, part_written, written_more, length_blocks, written_block}
use Rattle.convention.proofs.Positions.{state_wide, kind_inside}
use Rattle.building.specs.Deciding.{rows_version, rows_most, WriteAsks}
use Rattle.building.specs.Writing.{CopyAsks, KindsAsk, opening_bytes, FrontAsks, front_bytes, BlocksSoFar}
use Rattle.building.proofs.Readable.{built_length, kind_wide, kinds_length, row_wide}

-- The stores of each part are the bytes of the part written: a state's number, a shape, the opening, a transition.
pub stored_state : (v : ℕ) (d : List ℕ) (at n : ℕ) → at + state_length v ≤ length d → set d at n ≡ written d at (state_bytes v n)
unfolding state_length state_bytes
stored_state v d at n h = written_one d at n (omega arith)

pub stored_shape : (v : ℕ) (d : List ℕ) (at : ℕ) (shape : Shape) → at + shape_length v ≤ length d
    → set (set d (at + size_at) shape.size) (at + alignment_at) shape.alignment ≡ written d at (shape_bytes v shape)
unfolding shape_length shape_bytes
stored_shape v d at shape h = rw (add-zero, add-one) (written_sets d at (shape.size ∷ shape.alignment ∷ []) h)

-- For tactics.
pub ruleset shape_stores = (stored_shape, length-set)

-- The rows of as many states as a table may have are in the room for them.
pub rows_room : (h : Head) (states : ℕ) → h.kinds ≤ 8 → states ≤ state_limit → rows_length rows_version h states ≤ rows_most
unfolding state_length
rows_room h states few counted =
    let row : row_length rows_version h ≤ 4 * 8 = omega arith in
    mul-le-mul row counted

-- Blocks of w bytes, one after the other from byte `at` on: none yet, one more, all.
module _ (f : ℕ → List ℕ) (at all : ℕ) (before : List ℕ) where
  pub blocks_begin : BlocksSoFar f at 0 all before before
  unfolding blocks
  blocks_begin = record { within = omega arith; there = sym (written_nothing before at); long = refl }

  pub blocks_on : (w n : ℕ) (out after : List ℕ) → ((i : ℕ) → length (f i) ≡ w) → BlocksSoFar f at n all before out → n < all
      → at + w * n + w ≤ length before → after ≡ written out (at + w * n) (f n) → BlocksSoFar f at (n + 1) all before after
  blocks_on w n out after wide half h room e =
      let place : at + w * n + length (f n) ≤ length out = omega (arith, wide n, half.long) in
      record {
        within = omega arith;
        there = rw (e, half.there, add-one) (written_block before at f w n (λ i _. wide i) (omega arith));
        long = rw e (length_written out (at + w * n) (f n) place) ∙ half.long;
      }

  pub blocks_end : (n : ℕ) (out : List ℕ) → BlocksSoFar f at n all before out → all ≤ n → out ≡ written before at (blocks f all)
  blocks_end n out half h = let same : n ≡ all = omega (arith, half.within) in rw same at half.there

-- The kinds.
module _ (v : ℕ) (sheet : Sheet) (k : ℕ) (before out : List ℕ) (asks : KindsAsk v sheet before) (h : k < sheet.head.kinds)
    (half : BlocksSoFar (built_kind v sheet) kinds_at k sheet.head.kinds before out) (at : ℕ) (ea : at ≡ table_kind_at v k) where
  inside : table_kind_at v k + shape_length v ≤ length before
  inside = omega (arith, kind_inside v sheet.head k h, asks.there)

  pub kind_on : (after : List ℕ) → after ≡ written out at (shape_bytes v (sheet_kind sheet k).shape)
      → BlocksSoFar (built_kind v sheet) kinds_at (k + 1) sheet.head.kinds before after
  kind_on after e =
      blocks_on (built_kind v sheet) kinds_at _ before (shape_length v) k out after (kind_wide v sheet) half h inside (rw ea at e)

rows_long : (sheet : Sheet) (states : ℕ) → length (blocks (built_row rows_version sheet (built_states state_limit sheet)) states) ≡ rows_length rows_version sheet.head states
rows_long sheet states = length_blocks _ (row_length rows_version sheet.head) states (λ i _. row_wide rows_version sheet _ i)

-- The rows of so many states, written from the first byte on, are the first bytes.
pub rows_made : (sheet : Sheet) (states : ℕ) (before rows : List ℕ)
    → rows ≡ written before 0 (blocks (built_row rows_version sheet (built_states state_limit sheet)) states)
    → take (rows_length rows_version sheet.head states) rows ≡ blocks (built_row rows_version sheet (built_states state_limit sheet)) states
rows_made sheet states before rows e = rw (← rows_long sheet states, e) (part_written before 0 _ zero-le)

-- One more part, written right after those from the first byte on.
next_part : (d bs cs out next : List ℕ) (at : ℕ) → out ≡ written d 0 bs → at ≡ length bs → next ≡ written out at cs → next ≡ written d 0 (bs ++ cs)
next_part d bs cs out next at eo ea en =
    let place : at ≡ 0 + length bs = omega arith in
    en ∙ rw (eo, place) (written_more d 0 bs zero-le cs)

-- What stands before the rows, part by part.
module _ (v : ℕ) (sheet : Sheet) (states : ℕ) where
  abbrev opening : List ℕ
  opening = opening_bytes v sheet.head (table_length v sheet.head states - length_bytes)

  abbrev kinds : List ℕ
  kinds = blocks (built_kind v sheet) sheet.head.kinds

  kinds_end : states_at v sheet.head ≡ length (opening ++ kinds)
  kinds_end = simp kinds_length (omega arith)

  front_end : rows_at v sheet.head ≡ length (front_bytes v sheet states)
  front_end = rw (length-append, state_wide) (omega (arith, kinds_end))

  module _ (at : ℕ) (d opened named : List ℕ) (asks : FrontAsks v sheet states d)
      (eo : opened ≡ written d 0 (opening_bytes v sheet.head (table_length v sheet.head states - length_bytes)))
      (en : named ≡ written opened kinds_at (blocks (built_kind v sheet) sheet.head.kinds)) (ea : at ≡ states_at v sheet.head) where
    named_is : named ≡ written d 0 (opening ++ kinds)
    named_is = next_part d opening kinds opened named kinds_at eo refl en

    pub front_written : (out : List ℕ) → out ≡ written named at (state_bytes v states) → out ≡ written d 0 (front_bytes v sheet states)
    front_written out e = next_part d (opening ++ kinds) (state_bytes v states) named out (states_at v sheet.head) named_is kinds_end (rw ea at e)

-- That and the rows are the table.
module _ (sheet : Sheet) (states : ℕ) (rows d : List ℕ) (read : SheetRead sheet) (asks : WriteAsks sheet states rows d) where
  abbrev l : List (Entry (allocations sheet))
  l = built_states state_limit sheet

  abbrev v : ℕ
  v = built_version sheet states

  -- The version is that in whose form the rows are.
  same_version : v ≡ rows_version
  unfolding built_version
  same_version = refl

  table_is : built_table state_limit sheet ≡ table_of_states v sheet l
  table_is = rw asks.made.many

  table_long : length (built_table state_limit sheet) ≡ table_length v sheet.head states
  table_long = ap length table_is ∙ built_length v sheet l ∙ ap (λ n. table_length v sheet.head n) (sym asks.made.many)

  -- As many bytes follow the length as it says.
  follow : table_length v sheet.head states - length_bytes ≡ length (built_body v sheet l)
  unfolding table_of_states
  follow = omega (arith, rw (← asks.made.many) at (built_length v sheet l))

  parts : front_bytes v sheet states ++ blocks (built_row v sheet l) states ≡ built_table state_limit sheet
  unfolding table_of_states built_body
  parts = rw (table_is, append_assoc, follow, asks.made.many)

  pub front_asks : FrontAsks (built_version sheet states) sheet states d
  front_asks = record { read = read; room = asks.few; there = omega (arith, asks.there, table_long) }

  module _ (front : List ℕ) (ef : front ≡ written d 0 (front_bytes (built_version sheet states) sheet states)) where
    -- The rows are there, and there is room for them.
    pub copy_asks : CopyAsks rows (rows_length rows_version sheet.head states) front (rows_at (built_version sheet states) sheet.head)
    copy_asks =
        let rows_same : row_length v sheet.head * states ≡ rows_length rows_version sheet.head states = rw same_version in
        let front_there : 0 + length (front_bytes v sheet states) ≤ length d = omega (arith, front_end v sheet states, front_asks.there) in
        record {
          made = omega (arith, ap length asks.made.made, rows_long sheet states, length-take (rows_length rows_version sheet.head states) rows);
          there = rw (ef, length_written d 0 (front_bytes v sheet states) front_there) (omega (arith, asks.there, table_long, rows_same));
        }

    pub table_written : (out : List ℕ) → out ≡ written front (rows_at (built_version sheet states) sheet.head) (take (rows_length rows_version sheet.head states) rows)
        → out ≡ written d 0 (built_table state_limit sheet)
    table_written out e =
        let rows_are : blocks (built_row v sheet l) states ≡ take (rows_length rows_version sheet.head states) rows = rw same_version (sym asks.made.made) in
        rw (← parts) (next_part d (front_bytes v sheet states) _ front out (rows_at v sheet.head) ef (front_end v sheet states) (rw rows_are e))
