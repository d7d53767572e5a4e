-- Laws of reading a table and of asking for a row: what is promised, where the number is 0, of fields, of transitions and of the row's part.
use Prim.Native.Nat.{ℕ, zero, suc, ◌+◌, ◌*◌, ◌≤◌, ◌<◌}
use mathlib.Core.Path.{◌≡◌, refl, ◌∙◌}
use mathlib.Core.Logic.{inl, inr}
use mathlib.Core.Bool.{Bool, true, ◌&&◌, cond, and-eq-true_iff}
use mathlib.Core.List.{List, []}
use native.Mathlib.Nat.{mul-zero, mul_assoc, mul-le-mul_left, le_refl, eq-zero-or-pos, mul-pos}
use native.Mathlib.Omega.{arith}
use lib.Dec.{ltb, leb, eqb, lit<}
use lib.ListN.{length, get_or, take, drop, length-take, length-drop, get_or-append}
use borrow.Author.Tests.{ltb-true, leb-true, eqb-true, ne_eqb}
use Rattle.convention.specs.declared.Head.{Head}
use Rattle.convention.specs.declared.Shape.{Shape}
use Rattle.convention.specs.declared.Transition.{Transition}
use Rattle.convention.specs.Answers.{Reading}
use Rattle.convention.specs.Answers.{TableAnswer}
use Rattle.convention.specs.Numbers.{reading}
use Rattle.convention.specs.Layout.{kinds_at, shape_length, states_at, state_length, rows_at, transition_length, row_length, row_at, transition_at, table_length}
use Rattle.convention.specs.Fields.{version_of, is_version, head_of, head_no, opening_no, shape_no, shape_of}
use Rattle.convention.specs.Sheets.{blank_shape}
use Rattle.convention.specs.Tables.{table_kinds_no, table_kinds_of, states_of, states_no, transition_of, is_transition, transition_no, transitions_no}
use Rattle.convention.specs.Tables.{table_no, table_of, read_table, row_no, row_given, row, start_given, row_start}
use Rattle.convention.specs.Promised.{ShapeRead, TableRead}
use Rattle.convention.proofs.Numbers.{or_zero, unless_zero, part_zero, read_number, refused_number, refused_some}
use Rattle.convention.proofs.Fields.{fields_zero, after_count, after_at, after_read, filled_length, head_read, opening_head, opening_version, shape_read}
use Rattle.convention.proofs.Positions.{row_inside, transition_counted}

-- The part of a transition's test that speaks of its place.
abbrev place_right : Head → Transition → Bool
place_right h x = cond (eqb x.form 1) (leb (x.a + x.b) h.registers) (eqb x.form 2 && ltb x.a h.modulus)

module _ (h : Head) (states : ℕ) (x : Transition) (e : is_transition h states x ≡ true) where
  transition_place : 0 < x.form → (place_right h x ≡ true) × (ltb x.next states ≡ true)
  transition_place f = (and-eq-true_iff (place_right h x) (ltb x.next states)).0 (rw (ne_eqb x.form 0 (omega arith)) at e)

  -- A transition as 01 allows it: no place; registers; stack; the next state.
  pub transition_none : x.form ≡ 0 → (x.a ≡ 0) × (x.b ≡ 0) × (x.next ≡ 0)
  transition_none f =
      let c = (and-eq-true_iff _ _).0 (rw f at e) in
      let b = (and-eq-true_iff _ _).0 c.0 in
      (eqb-true _ 0 b.0, eqb-true _ 0 b.1, eqb-true _ 0 c.1)

  pub transition_registers : x.form ≡ 1 → x.a + x.b ≤ h.registers
  transition_registers f = leb-true _ _ (rw f at (transition_place (omega arith)).0)

  pub transition_residue : x.form ≡ 2 → x.a < h.modulus
  transition_residue f = ltb-true _ _ (rw f at (transition_place (omega arith)).0)

  pub transition_next : 0 < states → x.next < states
  transition_next some =
      elim (eq-zero-or-pos x.form) [
        | inl f ↦ omega (arith, (transition_none f).2)
        | inr f ↦ ltb-true _ _ (transition_place f).1
      ]

-- The kinds: how many, and each with its values.
pub table_kinds_count : (v : ℕ) (s : List ℕ) (left : ℕ) → length (table_kinds_of v s left) ≡ left
unfolding table_kinds_of
table_kinds_count v = after_count (λ s. shape_length v) (shape_of v) (table_kinds_of v) (λ s. refl) (λ s left. refl)

-- Kind k is read from where k kinds end.
pub table_kind_at_lem : (v : ℕ) (s : List ℕ) (left k : ℕ) (d : Shape) → k < left → get_or (table_kinds_of v s left) k d ≡ shape_of v (drop (shape_length v * k) s)
unfolding table_kinds_of
table_kind_at_lem v =
    after_at (λ s. shape_length v) (shape_of v) (table_kinds_of v) (λ s. refl) (λ s left. refl)
    (λ s k. shape_length v * k) (λ s. mul-zero (shape_length v)) (λ s k. omega arith)

table_kinds_read : (v : ℕ) (h : Head) (s : List ℕ) (left : ℕ) → table_kinds_no v h s left ≡ 0
    → (i : ℕ) → i < left → (d : Shape) → ShapeRead h (get_or (table_kinds_of v s left) i d)
unfolding table_kinds_no table_kinds_of
table_kinds_read v h =
    after_read (λ s. shape_length v) (shape_of v) (table_kinds_of v) (λ s. refl) (λ s left. refl)
    (shape_no v h) (table_kinds_no v h) (λ s left. refl) (ShapeRead h) (shape_read v h)

-- The transitions: each is there and as 01 allows it; and so the last one's end is within the bytes.
transitions_read : (v : ℕ) (h : Head) (states : ℕ) (t : List ℕ) (at left : ℕ) → transitions_no v h states t at left ≡ 0
    → (i : ℕ) → i < left
    → (at + transition_length v * i + transition_length v ≤ length t) × (is_transition h states (transition_of v t (at + transition_length v * i)) ≡ true)
unfolding transitions_no transition_no
transitions_read v h states t at left e i l =
    part_zero t _ (transition_length v) _ 7 (lit< tt)
    (fields_zero (transition_length v) (transition_no v h states t) (transitions_no v h states t) (λ at left. refl) at left e i l)

transitions_end : (v : ℕ) (h : Head) (states : ℕ) (t : List ℕ) (at left : ℕ) → transitions_no v h states t at left ≡ 0
    → at ≤ length t → at + transition_length v * left ≤ length t
transitions_end v h states t at zero e l = omega arith
transitions_end v h states t at (suc left) e l = omega (arith, (transitions_read v h states t at (suc left) e left (le_refl (suc left))).0)

-- What a table's tests say, one by one.
record TableTests (limit : ℕ) (t : List ℕ) : Type 0 where
  version : is_version (version_of t) ≡ true
  head : head_no t ≡ 0
  kinds : table_kinds_no (version_of t) (head_of t) (drop kinds_at t) (head_of t).kinds ≡ 0
  there : rows_at (version_of t) (head_of t) ≤ length t
  some : 1 ≤ states_of t
  states : states_of t ≤ limit
  transitions : transitions_no (version_of t) (head_of t) (states_of t) t (rows_at (version_of t) (head_of t)) ((head_of t).kinds * states_of t) ≡ 0
  end : length t ≤ table_length (version_of t) (head_of t) (states_of t)

module _ (limit : ℕ) (t : List ℕ) (e : table_no limit t ≡ 0) where
  abbrev v : ℕ
  v = version_of t

  abbrev h : Head
  h = head_of t

  table_tests : TableTests limit t
  unfolding table_no
  table_tests =
      let a = or_zero (opening_no t) _ e in
      let b = or_zero (table_kinds_no v h (drop kinds_at t) h.kinds) _ a.1 in
      let c = or_zero (states_no limit t) _ b.1 in
      let d = or_zero (transitions_no v h (states_of t) t (rows_at v h) (h.kinds * states_of t)) _ c.1 in
      let field = part_zero t (states_at v h) (state_length v) _ 4 (lit< tt) c.0 in
      let states = (and-eq-true_iff _ _).0 field.1 in
      record {
        version = opening_version t a.0;
        head = opening_head t a.0;
        kinds = b.0;
        there = field.0;
        some = leb-true 1 _ states.0;
        states = leb-true _ limit states.1;
        transitions = d.0;
        end = leb-true _ _ (unless_zero _ 6 (lit< tt) d.1);
      }

  -- Its bytes end where its last row does.
  table_whole : length t ≡ table_length v h (states_of t)
  table_whole =
      let rows = transitions_end v h (states_of t) t (rows_at v h) (h.kinds * states_of t) table_tests.transitions table_tests.there in
      omega (arith, table_tests.end, rows, mul_assoc (transition_length v) h.kinds (states_of t))

  -- Transition k of row `state` is number m * state + k of all.
  table_transition : (state k : ℕ) → state < states_of t → k < h.kinds
      → is_transition h (states_of t) (transition_of v t (transition_at v h state k)) ≡ true
  table_transition state k l below =
      let within : h.kinds * state + k < h.kinds * states_of t = omega (arith, mul-le-mul_left h.kinds l) in
      let each = transitions_read v h (states_of t) t (rows_at v h) (h.kinds * states_of t) table_tests.transitions in
      rw (transition_counted v h state k) at (each (h.kinds * state + k) within).1

  -- The table has the values that 01 allows.
  pub table_read : TableRead limit (table_of t) t
  unfolding table_of
  table_read =
      let head = head_read t table_tests.head in
      let kinds = table_kinds_of v (drop kinds_at t) h.kinds in
      let count = table_kinds_count v (drop kinds_at t) h.kinds in
      record {
        version = table_tests.version;
        head = head;
        eight = filled_length kinds h.kinds 8 blank_shape count head.kinds;
        kind = λ k l.
            rw (get_or-append kinds _ _ k (omega (arith, count)))
            (table_kinds_read v h (drop kinds_at t) h.kinds table_tests.kinds k l _);
        some = table_tests.some;
        states = table_tests.states;
        whole = table_whole;
        transition = table_transition;
      }

-- What the reader's answer tells: where it read the table, the table; where it refused, the number.
pub table_given_lem : (limit : ℕ) (t : List ℕ) → table_no limit t ≡ 0 → (read_table limit t).table ≡ table_of t
unfolding read_table
table_given_lem limit t e = rw e

module _ (limit : ℕ) (t : List ℕ) (a : TableAnswer) (ea : a ≡ read_table limit t) where
  table_reading : reading (table_no limit t) ≡ a.reading
  unfolding read_table
  table_reading = rw ea

  pub table_right : a.reading ≡ Reading.Read → table_no limit t ≡ 0
  table_right e = read_number (table_no limit t) (table_reading ∙ e)

  pub table_is : a.reading ≡ Reading.Read → a.table ≡ table_of t
  table_is e = rw ea (table_given_lem limit t (table_right e))

  pub table_refused : (n : ℕ) → a.reading ≡ Reading.Refused n → table_no limit t ≡ n
  table_refused n e = refused_number (table_no limit t) n (table_reading ∙ e)

  pub table_wrong : (n : ℕ) → a.reading ≡ Reading.Refused n → 0 < n
  table_wrong n e = rw (← table_refused n e) (refused_some (table_no limit t) n (table_reading ∙ e))

-- A row that is refused is the empty part, where the table starts.
pub row_refused : (limit : ℕ) (t : List ℕ) (state : ℕ) → (row_no limit t state ≡ 0 → ⊥) → (row limit t state ≡ []) × (row_start limit t state ≡ 0)
unfolding row row_start
row_refused limit t state nz = none (row_no limit t state) _ _ nz
  where
    none : (n : ℕ) (part : List ℕ) (start : ℕ) → (n ≡ 0 → ⊥) → (row_given n part ≡ []) × (start_given n start ≡ 0)
    none zero part start nz = absurd (nz refl)
    none (suc n) part start nz = (refl, refl)

module _ (limit : ℕ) (t : List ℕ) (state : ℕ) (e : row_no limit t state ≡ 0) where
  pub row_tests : (table_no limit t ≡ 0) × (state < states_of t)
  unfolding row_no
  row_tests =
      let both = or_zero (table_no limit t) _ e in
      (both.0, ltb-true state (states_of t) (unless_zero _ 13 (lit< tt) both.1))

  -- A row that is given: it lies within the table's bytes, and is not empty.
  pub row_part : row_at (version_of t) (head_of t) state + row_length (version_of t) (head_of t) ≤ length t
  row_part = rw (table_whole limit t row_tests.0) (row_inside (version_of t) (head_of t) (states_of t) state row_tests.1)

  pub row_is : row limit t state ≡ take (row_length (version_of t) (head_of t)) (drop (row_at (version_of t) (head_of t) state) t)
  unfolding row
  row_is = rw e

  pub row_start_lem : row_start limit t state ≡ row_at (version_of t) (head_of t) state
  unfolding row_start
  row_start_lem = rw e

  pub row_length_lem : length (row limit t state) ≡ row_length (version_of t) (head_of t)
  row_length_lem = rw (row_is, length-take, length-drop) (omega (arith, row_part))

  pub row_some : 0 < length (row limit t state)
  row_some =
      let wide : 0 < transition_length (version_of t) = omega arith in
      rw row_length_lem (mul-pos wide (head_read t (table_tests limit t row_tests.0).head).some)
