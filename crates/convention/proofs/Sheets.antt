-- Laws of reading a sheet: what is promised where its number is 0, and where its kinds and their starts stand.
use Prim.Native.Nat.{ℕ, zero, suc, ◌+◌, ◌*◌, ◌≤◌, ◌<◌}
use mathlib.Core.Path.{◌≡◌, refl, ◌∙◌}
use mathlib.Core.Bool.{true}
use mathlib.Core.List.{List}
use native.Mathlib.Nat.{add_assoc, one-mul, le_refl, mul-le-mul_left}
use native.Mathlib.Numerals.{add-one}
use native.Mathlib.Omega.{arith}
use lib.Dec.{leb, lit<}
use lib.ListN.{length, get_or, take, drop, length-drop, get_or-append}
use lib.Seq.{length-take-le, get_or-take, get_or-drop, drop-drop}
use borrow.Author.Tests.{leb-true}
use Rattle.convention.specs.declared.Head.{Head}
use Rattle.convention.specs.declared.SheetKind.{SheetKind}
use Rattle.convention.specs.Answers.{Reading}
use Rattle.convention.specs.Answers.{SheetAnswer}
use Rattle.convention.specs.Numbers.{reading}
use Rattle.convention.specs.Layout.{kinds_at, flags_at, tries_at, starts_at, sheet_kind_most, longest_sheet}
use Rattle.convention.specs.Fields.{field_no, version_of, is_version, head_of, head_no, opening_no, shape_no, shape_of}
use Rattle.convention.specs.Shapes.{registers_needed}
use Rattle.convention.specs.Sheets.{starts_no, sheet_kind_length, sheet_kind_no, sheet_kind_of, sheet_kinds_no, sheet_kinds_of, sheet_kinds_length}
use Rattle.convention.specs.Sheets.{sheet_kind_at, first_start_at, sheet_no, blank_kind, sheet_of, read_sheet, sheet_kind}
use Rattle.convention.specs.Promised.{SheetKindRead, SheetRead}
use Rattle.convention.proofs.Numbers.{or_zero, unless_zero, field_zero, read_number, refused_number, refused_some}
use Rattle.convention.proofs.Fields.{fields_zero, after_count, after_at, after_read, filled_length, head_there, head_read, opening_head, opening_version, shape_read}
use Rattle.convention.proofs.Positions.{shape_small}

-- The starts: each is there and leaves room for the kind's registers; and so the last one's end is within the bytes.
pub starts_fit : (n k : ℕ) (s : List ℕ) (at left : ℕ) → starts_no n k s at left ≡ 0
    → (i : ℕ) → i < left → (at + i < length s) × (get_or s (at + i) 0 + k ≤ n)
unfolding starts_no
starts_fit n k s at left e i h =
    let passed = fields_zero 1 (λ at. field_no s at (leb (get_or s at 0 + k) n) 5) (starts_no n k s) (λ at left. refl) at left e i h in
    let start = field_zero s (at + i) _ 5 (lit< tt) (rw one-mul at passed) in
    (start.0, leb-true _ n start.1)

starts_end : (n k : ℕ) (s : List ℕ) (at left : ℕ) → starts_no n k s at left ≡ 0 → at ≤ length s → at + left ≤ length s
starts_end n k s at zero e h = omega arith
starts_end n k s at (suc left) e h = omega (arith, (starts_fit n k s at (suc left) e left (le_refl (suc left))).0)

-- What a kind's tests say, one by one.
record KindTests (v : ℕ) (h : Head) (s : List ℕ) : Type 0 where
  shape : shape_no v h s ≡ 0
  flags : get_or s (flags_at v) 0 ≤ 3
  there : starts_at v ≤ length s
  tries : get_or s (tries_at v) 0 ≤ 16
  starts : starts_no h.registers (registers_needed h.width (shape_of v s)) s (starts_at v) (get_or s (tries_at v) 0) ≡ 0

module _ (v : ℕ) (h : Head) (s : List ℕ) (e : sheet_kind_no v h s ≡ 0) where
  kind_tests : KindTests v h s
  unfolding sheet_kind_no
  kind_tests =
      let a = or_zero (shape_no v h s) _ e in
      let b = or_zero _ _ a.1 in
      let c = or_zero _ _ b.1 in
      let tries = field_zero s (tries_at v) _ 5 (lit< tt) c.0 in
      record {
        shape = a.0;
        flags = leb-true _ 3 (field_zero s (flags_at v) _ 5 (lit< tt) b.0).1;
        there = omega (arith, tries.0);
        tries = leb-true _ 16 tries.1;
        starts = c.1;
      }

  -- The bytes before the starts are there, there are at most sixteen starts, and they are there.
  pub starts_there : starts_at v ≤ length s
  starts_there = kind_tests.there

  pub kind_tries : get_or s (tries_at v) 0 ≤ 16
  kind_tries = kind_tests.tries

  pub kind_length : sheet_kind_length v s ≤ length s
  kind_length = starts_end _ _ s (starts_at v) _ kind_tests.starts starts_there

  -- The kind has the values that 01 allows.
  pub kind_read : SheetKindRead h (sheet_kind_of v s)
  unfolding sheet_kind_of
  kind_read =
      let given = take (get_or s (tries_at v) 0) (drop (starts_at v) s) in
      let count = length-take-le (get_or s (tries_at v) 0) (drop (starts_at v) s) (rw length-drop (omega (arith, kind_length))) in
      record {
        shape = shape_read v h s kind_tests.shape;
        flags = kind_tests.flags;
        tries = kind_tries;
        sixteen = filled_length given (get_or s (tries_at v) 0) 16 0 count kind_tries;
        starts = λ i l.
            rw (get_or-append given _ 0 i (omega (arith, count)), get_or-take, get_or-drop)
            (starts_fit _ _ s (starts_at v) _ kind_tests.starts i l).1;
      }

-- The kinds: how many, each with its values, all within the bytes, and none longer than the longest.
pub kinds_count : (v : ℕ) (s : List ℕ) (left : ℕ) → length (sheet_kinds_of v s left) ≡ left
unfolding sheet_kinds_of
kinds_count v = after_count (sheet_kind_length v) (sheet_kind_of v) (sheet_kinds_of v) (λ s. refl) (λ s left. refl)

pub kinds_read : (v : ℕ) (h : Head) (s : List ℕ) (left : ℕ) → sheet_kinds_no v h s left ≡ 0
    → (i : ℕ) → i < left → (d : SheetKind) → SheetKindRead h (get_or (sheet_kinds_of v s left) i d)
unfolding sheet_kinds_no sheet_kinds_of
kinds_read v h =
    after_read (sheet_kind_length v) (sheet_kind_of v) (sheet_kinds_of v) (λ s. refl) (λ s left. refl)
    (sheet_kind_no v h) (sheet_kinds_no v h) (λ s left. refl) (SheetKindRead h) (kind_read v h)

pub kinds_within : (v : ℕ) (h : Head) (s : List ℕ) (left : ℕ) → sheet_kinds_no v h s left ≡ 0 → sheet_kinds_length v s left ≤ length s
unfolding sheet_kinds_no sheet_kinds_length
kinds_within v h s zero e = omega arith
kinds_within v h s (suc left) e =
    let both = or_zero (sheet_kind_no v h s) _ e in
    omega (arith, kind_length v h s both.0, rw length-drop at (kinds_within v h (drop (sheet_kind_length v s) s) left both.1))

kinds_most : (v : ℕ) (h : Head) (s : List ℕ) (left : ℕ) → sheet_kinds_no v h s left ≡ 0 → sheet_kinds_length v s left ≤ sheet_kind_most v * left
unfolding sheet_kinds_no sheet_kinds_length
kinds_most v h s zero e = omega arith
kinds_most v h s (suc left) e =
    let both = or_zero (sheet_kind_no v h s) _ e in
    omega (arith, kind_tries v h s both.0, kinds_most v h (drop (sheet_kind_length v s) s) left both.1)

-- One kind more, where the kinds before it end.
kinds_next : (v : ℕ) (s : List ℕ) (k : ℕ) → sheet_kinds_length v s (suc k) ≡ sheet_kinds_length v s k + sheet_kind_length v (drop (sheet_kinds_length v s k) s)
unfolding sheet_kinds_length
kinds_next v s zero = omega arith
kinds_next v s (suc k) =
    rw (kinds_next v (drop (sheet_kind_length v s) s) k, drop-drop) (omega arith)

pub kind_next : (v : ℕ) (s : List ℕ) (k : ℕ) → sheet_kind_at v s (k + 1) ≡ sheet_kind_at v s k + sheet_kind_length v (drop (sheet_kind_at v s k) s)
kind_next v s k = rw (add-one, kinds_next, drop-drop) (omega arith)

-- Where nothing is wrong with the kinds, nothing is with the first k of them.
kinds_first : (v : ℕ) (h : Head) (s : List ℕ) (left k : ℕ) → sheet_kinds_no v h s left ≡ 0 → k ≤ left → sheet_kinds_no v h s k ≡ 0
unfolding sheet_kinds_no
kinds_first v h s left zero e l = refl
kinds_first v h s zero (suc k) e l = absurd (omega arith)
kinds_first v h s (suc left) (suc k) e l =
    let both = or_zero (sheet_kind_no v h s) _ e in
    rw both.0 (kinds_first v h (drop (sheet_kind_length v s) s) left k both.1 (omega arith))

-- What a sheet's tests say, one by one.
record SheetTests (s : List ℕ) : Type 0 where
  version : is_version (version_of s) ≡ true
  head : head_no s ≡ 0
  kinds : sheet_kinds_no (version_of s) (head_of s) (drop kinds_at s) (head_of s).kinds ≡ 0
  end : length s ≤ sheet_kind_at (version_of s) s (head_of s).kinds

module _ (s : List ℕ) (e : sheet_no s ≡ 0) where
  abbrev v : ℕ
  v = version_of s

  abbrev h : Head
  h = head_of s

  sheet_tests : SheetTests s
  unfolding sheet_no
  sheet_tests =
      let a = or_zero (opening_no s) _ e in
      let b = or_zero (sheet_kinds_no v h (drop kinds_at s) h.kinds) _ a.1 in
      record {
        version = opening_version s a.0;
        head = opening_head s a.0;
        kinds = b.0;
        end = leb-true _ _ (unless_zero _ 6 (lit< tt) b.1);
      }

  -- The sheet has the values that 01 allows.
  pub sheet_read : SheetRead (sheet_of s)
  unfolding sheet_of
  sheet_read =
      let head = head_read s sheet_tests.head in
      let kinds = sheet_kinds_of v (drop kinds_at s) h.kinds in
      let count = kinds_count v (drop kinds_at s) h.kinds in
      record {
        version = sheet_tests.version;
        head = head;
        eight = filled_length kinds h.kinds 8 blank_kind count head.kinds;
        kind = λ k l.
            rw (get_or-append kinds _ _ k (omega (arith, count)))
            (kinds_read v h (drop kinds_at s) h.kinds sheet_tests.kinds k l _);
      }

  -- Its bytes end where its last kind does, and are no more than the longest sheet's.
  pub sheet_whole : length s ≡ sheet_kind_at (version_of s) s (head_of s).kinds
  sheet_whole =
      let kinds = kinds_within v h (drop kinds_at s) h.kinds sheet_tests.kinds in
      omega (arith, sheet_tests.end, head_there s sheet_tests.head, rw length-drop at kinds)

  sheet_short : length s ≤ longest_sheet v
  sheet_short =
      let kinds = kinds_most v h (drop kinds_at s) h.kinds sheet_tests.kinds in
      omega (arith, sheet_whole, kinds, mul-le-mul_left (sheet_kind_most v) (head_read s sheet_tests.head).kinds)

  -- The k kinds before a kind lie within the bytes.
  pub kind_within : (k : ℕ) → k ≤ (head_of s).kinds → sheet_kind_at (version_of s) s k ≤ length s
  kind_within k l =
      let right = kinds_first v h (drop kinds_at s) h.kinds k sheet_tests.kinds l in
      omega (arith, head_there s sheet_tests.head, rw length-drop at (kinds_within v h (drop kinds_at s) k right))

  module _ (k : ℕ) (l : k < (head_of s).kinds) where
    -- A kind is read from where it stands.
    pub kind_is : sheet_kind (sheet_of s) k ≡ sheet_kind_of (version_of s) (drop (sheet_kind_at (version_of s) s k) s)
    unfolding sheet_of sheet_kinds_of sheet_kinds_length
    kind_is =
        let kinds = sheet_kinds_of v (drop kinds_at s) h.kinds in
        rw (get_or-append kinds _ _ k (omega (arith, kinds_count v (drop kinds_at s) h.kinds)))
        (after_at (sheet_kind_length v) (sheet_kind_of v) (sheet_kinds_of v) (λ s. refl) (λ s left. refl) (sheet_kinds_length v) (λ s. refl) (λ s i. refl)
        (drop kinds_at s) h.kinds k _ l ∙ rw drop-drop)

    -- Its starts stand in the sheet one after the other from its first start on, and end within the bytes.
    pub starts_within : first_start_at (version_of s) s k + (sheet_kind (sheet_of s) k).tries ≤ length s
    unfolding sheet_kind_of
    starts_within = rw kind_is (omega (arith, kind_next v s k, kind_within (k + 1) (omega arith)))

    pub first_start_fits : first_start_at (version_of s) s k < 65536
    first_start_fits = omega (arith, starts_within, sheet_short, shape_small v)

    pub start_is : (i : ℕ) → i < (sheet_kind (sheet_of s) k).tries
        → get_or s (first_start_at (version_of s) s k + i) 0 ≡ get_or (sheet_kind (sheet_of s) k).starts i 0
    unfolding sheet_kind_of
    start_is i h =
        let here = drop (sheet_kind_at v s k) s in
        let given = take (get_or here (tries_at v) 0) (drop (starts_at v) here) in
        let few : i < get_or here (tries_at v) 0 = rw kind_is at h in
        let count = length-take-le (get_or here (tries_at v) 0) (drop (starts_at v) here) (rw (length-drop, length-drop) (omega (arith, rw kind_is at starts_within))) in
        rw (kind_is, get_or-append given _ 0 i (omega (arith, count)), get_or-take, get_or-drop, get_or-drop) (simp add_assoc)

-- What the reader's answer tells: where it read the sheet, the sheet; where it refused, the number.
module _ (s : List ℕ) (a : SheetAnswer) (ea : a ≡ read_sheet s) where
  sheet_reading : reading (sheet_no s) ≡ a.reading
  unfolding read_sheet
  sheet_reading = rw ea

  pub sheet_right : a.reading ≡ Reading.Read → sheet_no s ≡ 0
  sheet_right e = read_number (sheet_no s) (sheet_reading ∙ e)

  pub sheet_is : a.reading ≡ Reading.Read → a.sheet ≡ sheet_of s
  unfolding read_sheet
  sheet_is e = rw (ea, sheet_right e)

  pub sheet_refused : (n : ℕ) → a.reading ≡ Reading.Refused n → sheet_no s ≡ n
  sheet_refused n e = refused_number (sheet_no s) n (sheet_reading ∙ e)

  pub sheet_wrong : (n : ℕ) → a.reading ≡ Reading.Refused n → 0 < n
  sheet_wrong n e = rw (← sheet_refused n e) (refused_some (sheet_no s) n (sheet_reading ∙ e))
