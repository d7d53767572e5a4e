-- Document 01, 'Bytes of a sheet and of a table': where every field of both files stands, and how long every part is. All of it is a function of a file's version v and its head h, and is
-- said in this file alone, but for where a sheet's kind stands, which the starts of the kinds before it decide (`sheet_kind_at`, Sheets). A position within a kind, or within a transition, is
-- counted from its first byte on.
use Rattle.std.specs.Prelude.{ℕ, ◌+◌, ◌*◌, ◌<◌}
use Rattle.convention.specs.declared.Head.{Head}

-- 'two bytes, big-endian, the number of bytes that follow'.
abbrev pub length_at : ℕ
length_at = 0

abbrev pub length_bytes : ℕ
length_bytes = 2

-- 'one version byte, 1'.
abbrev pub version_at : ℕ
version_at = 2

-- 'the head': n, w, A and m.
abbrev pub registers_at : ℕ
registers_at = 3

abbrev pub width_at : ℕ
width_at = 4

abbrev pub modulus_at : ℕ
modulus_at = 5

abbrev pub kinds_count_at : ℕ
kinds_count_at = 6

-- 'the kinds'.
abbrev pub kinds_at : ℕ
kinds_at = 7

-- A kind begins with its 'size, alignment', in both files: where these stand, and how many bytes they take together.
abbrev pub size_at : ℕ
size_at = 0

abbrev pub alignment_at : ℕ
alignment_at = 1

unfoldable pub shape_length : ℕ → ℕ
shape_length v = 2

-- In a sheet: 'flags, number of starts t, then t start registers'.
abbrev pub flags_at : ℕ → ℕ
flags_at v = shape_length v

abbrev pub tries_at : ℕ → ℕ
tries_at v = shape_length v + 1

abbrev pub starts_at : ℕ → ℕ
starts_at v = shape_length v + 2

-- The most bytes that a sheet's kind takes, with sixteen starts, and that a sheet does, with eight kinds.
abbrev pub sheet_kind_most : ℕ → ℕ
sheet_kind_most v = starts_at v + 16

abbrev pub longest_sheet : ℕ → ℕ
longest_sheet v = kinds_at + sheet_kind_most v * 8

-- A table says nothing else of a kind. Where kind k stands.
abbrev pub table_kind_at : ℕ → ℕ → ℕ
table_kind_at v k = kinds_at + shape_length v * k

-- How many bytes a number of states, or of a state, takes: 'All other fields are one byte.'
unfoldable pub state_length : ℕ → ℕ
state_length v = 1

-- 'After the kinds: number of states N, then for each state a row'.
abbrev pub states_at : ℕ → Head → ℕ
states_at v h = table_kind_at v h.kinds

abbrev pub rows_at : ℕ → Head → ℕ
rows_at v h = states_at v h + state_length v

-- 'transitions of four bytes: form, a, b, next'.
abbrev pub form_at : ℕ
form_at = 0

abbrev pub a_at : ℕ
a_at = 1

abbrev pub b_at : ℕ
b_at = 2

abbrev pub next_at : ℕ
next_at = 3

abbrev pub transition_length : ℕ → ℕ
transition_length v = next_at + state_length v

-- 'a row of m transitions': how long it is, and those of so many states; where row `state` starts; and where the transition of kind k does, in a row that starts at some byte, and in that row.
abbrev pub row_length : ℕ → Head → ℕ
row_length v h = transition_length v * h.kinds

abbrev pub rows_length : ℕ → Head → ℕ → ℕ
rows_length v h states = row_length v h * states

abbrev pub row_at : ℕ → Head → ℕ → ℕ
row_at v h state = rows_at v h + rows_length v h state

abbrev pub in_row : ℕ → ℕ → ℕ → ℕ
in_row v row k = row + transition_length v * k

abbrev pub transition_at : ℕ → Head → ℕ → ℕ → ℕ
transition_at v h state k = in_row v (row_at v h state) k

-- How long a table of so many states is: its last row ends it.
abbrev pub table_length : ℕ → Head → ℕ → ℕ
table_length v h states = row_at v h states

-- How long the longest table is: eight kinds, and as many states as a table may have.
abbrev pub longest_table : ℕ → ℕ → ℕ
longest_table v limit = kinds_at + shape_length v * 8 + state_length v + transition_length v * 8 * limit

-- Two bytes can say the length of every table of so many states.
abbrev pub LengthSaid : ℕ → Type 0
LengthSaid limit = (v : ℕ) → longest_table v limit < 65536
