-- Document 01, 'Bytes of a sheet and of a table': reading a table, and handing out one row of it.
use Rattle.std.specs.Prelude.{ℕ, zero, suc, ◌+◌, ◌-◌, ◌*◌, Bool, ◌&&◌, cond, List, [], ◌∷◌, ◌++◌, ltb, leb, eqb, get_or, take, drop, replicate}
use Rattle.convention.specs.declared.Head.{Head}
use Rattle.convention.specs.declared.Shape.{Shape}
use Rattle.convention.specs.declared.Table.{Table}
use Rattle.convention.specs.Answers.{TableAnswer}
use Rattle.convention.specs.declared.Transition.{Transition}
use Rattle.convention.specs.Numbers.{or_else, unless, reading}
use Rattle.convention.specs.Layout.{kinds_at, shape_length, states_at, state_length, rows_at, form_at, a_at, b_at, next_at}
use Rattle.convention.specs.Layout.{transition_length, row_length, row_at, transition_at, table_length}
use Rattle.convention.specs.Fields.{part_no, version_of, head_of, opening_no, shape_no, shape_of, state_field, state_bytes, left_over_no}
use Rattle.convention.specs.Sheets.{blank_shape, blank_head}

-- 'Table kind: size, alignment, with the values a sheet allows.' The numbers and the values of the kinds, one after the other, of which `left` are left.
unfoldable pub table_kinds_no : ℕ → Head → List ℕ → ℕ → ℕ
table_kinds_no v h s zero = 0
table_kinds_no v h s (suc left) = or_else (shape_no v h s) (table_kinds_no v h (drop (shape_length v) s) left)

unfoldable pub table_kinds_of : ℕ → List ℕ → ℕ → List Shape
table_kinds_of v s zero = []
table_kinds_of v s (suc left) = shape_of v s ∷ table_kinds_of v (drop (shape_length v) s) left

-- 'After the kinds: number of states N'.
abbrev pub states_of : List ℕ → ℕ
states_of t = state_field (version_of t) t (states_at (version_of t) (head_of t))

-- Number 4, for N: 1 to the limit.
abbrev pub states_no : ℕ → List ℕ → ℕ
states_no limit t =
    part_no t (states_at (version_of t) (head_of t)) (state_length (version_of t)) (leb 1 (states_of t) && leb (states_of t) limit) 4

-- 'transitions of four bytes: form, a, b, next': the one whose first byte is byte `at`, and the bytes of one.
abbrev pub transition_of : ℕ → List ℕ → ℕ → Transition
transition_of v t at = record {
  form = get_or t (at + form_at) 0;
  a = get_or t (at + a_at) 0;
  b = get_or t (at + b_at) 0;
  next = state_field v t (at + next_at);
}

abbrev pub transition_bytes : ℕ → Transition → List ℕ
transition_bytes v x = x.form ∷ x.a ∷ x.b ∷ state_bytes v x.next

-- 'form 0: a, b and next are 0. form 1: a + b at most n. form 2: a is below A. next is below N.'
abbrev pub is_transition : Head → ℕ → Transition → Bool
is_transition h states x =
    cond (eqb x.form 0)
    (eqb x.a 0 && eqb x.b 0 && eqb x.next 0)
    (cond (eqb x.form 1) (leb (x.a + x.b) h.registers) (eqb x.form 2 && ltb x.a h.modulus) && ltb x.next states)

-- Number 7, 'when its four bytes are there', and 3 where they are not.
unfoldable pub transition_no : ℕ → Head → ℕ → List ℕ → ℕ → ℕ
transition_no v h states t at = part_no t at (transition_length v) (is_transition h states (transition_of v t at)) 7

-- The same for the transitions from byte `at` on, of which `left` are left.
unfoldable pub transitions_no : ℕ → Head → ℕ → List ℕ → ℕ → ℕ → ℕ
transitions_no v h states t at zero = 0
transitions_no v h states t at (suc left) = or_else (transition_no v h states t at) (transitions_no v h states t (at + transition_length v) left)

-- The number of the first thing that is wrong with a table, 0 where it can be read: 1, then left to right, 6 last.
unfoldable pub table_no : ℕ → List ℕ → ℕ
table_no limit t =
    let v = version_of t in
    let h = head_of t in
    or_else (opening_no t)
    (or_else (table_kinds_no v h (drop kinds_at t) h.kinds)
    (or_else (states_no limit t)
    (or_else (transitions_no v h (states_of t) t (rows_at v h) (h.kinds * states_of t))
    (left_over_no t (table_length v h (states_of t))))))

-- What stands in the place of a table that cannot be read.
abbrev pub blank_table : Table
blank_table = record { version = 0; head = blank_head; kinds = replicate 8 blank_shape; states = 0 }

-- Every field of the head and the kinds, and N.
unfoldable pub table_of : List ℕ → Table
table_of t = record {
  version = version_of t;
  head = head_of t;
  kinds = table_kinds_of (version_of t) (drop kinds_at t) (head_of t).kinds ++ replicate (8 - (head_of t).kinds) blank_shape;
  states = states_of t;
}

-- The table that a number lets through.
abbrev pub table_given : ℕ → Table → Table
table_given zero table = table
table_given (suc number) table = blank_table

-- The answer of reading a table.
unfoldable pub read_table : ℕ → List ℕ → TableAnswer
read_table limit t = record { reading = reading (table_no limit t); table = table_given (table_no limit t) (table_of t) }

-- Kind k of a table, and its transition at a state.
abbrev pub table_kind : Table → ℕ → Shape
table_kind table k = get_or table.kinds k blank_shape

abbrev pub transition : Table → List ℕ → ℕ → ℕ → Transition
transition table t state k = transition_of table.version t (transition_at table.version table.head state k)

-- The number of asking for a row: the reader's, then 13.
unfoldable pub row_no : ℕ → List ℕ → ℕ → ℕ
row_no limit t state = or_else (table_no limit t) (unless (ltb state (states_of t)) 13)

-- 'Asking for a row returns the caller's own bytes of that state'; 'an empty part means refused'.
abbrev pub row_given : ℕ → List ℕ → List ℕ
row_given zero part = part
row_given (suc number) part = []

unfoldable pub row : ℕ → List ℕ → ℕ → List ℕ
row limit t state = row_given (row_no limit t state) (take (row_length (version_of t) (head_of t)) (drop (row_at (version_of t) (head_of t) state) t))

-- Where that part starts: where the row does, and where the table does if it is refused.
abbrev pub start_given : ℕ → ℕ → ℕ
start_given zero start = start
start_given (suc number) start = 0

unfoldable pub row_start : ℕ → List ℕ → ℕ → ℕ
row_start limit t state = start_given (row_no limit t state) (row_at (version_of t) (head_of t) state)
