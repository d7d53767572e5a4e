-- Document 01, 'Bytes of a sheet and of a table': reading a sheet.
use Rattle.std.specs.Prelude.{ℕ, zero, suc, ◌+◌, ◌-◌, ◌%◌, Bool, List, [], ◌∷◌, ◌++◌, leb, eqb, get_or, take, drop, replicate}
use Rattle.convention.specs.declared.Head.{Head}
use Rattle.convention.specs.declared.Shape.{Shape}
use Rattle.convention.specs.declared.SheetKind.{SheetKind}
use Rattle.convention.specs.declared.Sheet.{Sheet}
use Rattle.convention.specs.Answers.{SheetAnswer}
use Rattle.convention.specs.Numbers.{or_else, reading}
use Rattle.convention.specs.Layout.{kinds_at, flags_at, tries_at, starts_at}
use Rattle.convention.specs.Fields.{field_no, version_of, head_of, opening_no, shape_no, shape_of, left_over_no}
use Rattle.convention.specs.Shapes.{registers_needed}

-- 'flags (1 = may use the stack, 2 = closing, any sum of them)'.
abbrev pub may_use_stack : SheetKind → Bool
may_use_stack k = eqb (k.flags % 2) 1

abbrev pub is_closing : SheetKind → Bool
is_closing k = leb 2 k.flags

-- How many bytes a kind takes; s begins at its first byte.
abbrev pub sheet_kind_length : ℕ → List ℕ → ℕ
sheet_kind_length v s = starts_at v + get_or s (tries_at v) 0

-- 'Each start s must have s + k at most n': number 5, for the starts from byte `at` on, of which `left` are left.
unfoldable pub starts_no : ℕ → ℕ → List ℕ → ℕ → ℕ → ℕ
starts_no n k s at zero = 0
starts_no n k s at (suc left) = or_else (field_no s at (leb (get_or s at 0 + k) n) 5) (starts_no n k s (at + 1) left)

-- Number 5, for a kind's fields in turn; s is 'the rest of the sheet from that kind's first byte on'.
unfoldable pub sheet_kind_no : ℕ → Head → List ℕ → ℕ
sheet_kind_no v h s =
    or_else (shape_no v h s)
    (or_else (field_no s (flags_at v) (leb (get_or s (flags_at v) 0) 3) 5)
    (or_else (field_no s (tries_at v) (leb (get_or s (tries_at v) 0) 16) 5)
    (starts_no h.registers (registers_needed h.width (shape_of v s)) s (starts_at v) (get_or s (tries_at v) 0))))

-- 'size, alignment, flags, number of starts t, then t start registers'. The starts fill an array of sixteen.
unfoldable pub sheet_kind_of : ℕ → List ℕ → SheetKind
sheet_kind_of v s = record {
  shape = shape_of v s;
  flags = get_or s (flags_at v) 0;
  tries = get_or s (tries_at v) 0;
  starts = take (get_or s (tries_at v) 0) (drop (starts_at v) s) ++ replicate (16 - get_or s (tries_at v) 0) 0;
}

-- The numbers, the values and the bytes of the kinds, one after the other, of which `left` are left.
unfoldable pub sheet_kinds_no : ℕ → Head → List ℕ → ℕ → ℕ
sheet_kinds_no v h s zero = 0
sheet_kinds_no v h s (suc left) = or_else (sheet_kind_no v h s) (sheet_kinds_no v h (drop (sheet_kind_length v s) s) left)

unfoldable pub sheet_kinds_of : ℕ → List ℕ → ℕ → List SheetKind
sheet_kinds_of v s zero = []
sheet_kinds_of v s (suc left) = sheet_kind_of v s ∷ sheet_kinds_of v (drop (sheet_kind_length v s) s) left

unfoldable pub sheet_kinds_length : ℕ → List ℕ → ℕ → ℕ
sheet_kinds_length v s zero = 0
sheet_kinds_length v s (suc left) = sheet_kind_length v s + sheet_kinds_length v (drop (sheet_kind_length v s) s) left

-- Where kind k of a sheet stands: after the k kinds before it.
abbrev pub sheet_kind_at : ℕ → List ℕ → ℕ → ℕ
sheet_kind_at v s k = kinds_at + sheet_kinds_length v (drop kinds_at s) k

-- Where its first start stands, or would if it has none. Its t starts stand there one after the other.
abbrev pub first_start_at : ℕ → List ℕ → ℕ → ℕ
first_start_at v s k = sheet_kind_at v s k + starts_at v

-- The number of the first thing that is wrong with a sheet, 0 where it can be read: 1, then left to right, 6 last, after its last kind.
unfoldable pub sheet_no : List ℕ → ℕ
sheet_no s =
    or_else (opening_no s)
    (or_else (sheet_kinds_no (version_of s) (head_of s) (drop kinds_at s) (head_of s).kinds)
    (left_over_no s (sheet_kind_at (version_of s) s (head_of s).kinds)))

-- What stands in the places of kinds that a sheet does not have.
abbrev pub blank_shape : Shape
blank_shape = record { size = 0; alignment = 0 }

abbrev pub blank_kind : SheetKind
blank_kind = record { shape = blank_shape; flags = 0; tries = 0; starts = replicate 16 0 }

abbrev pub blank_head : Head
blank_head = record { registers = 0; width = 0; modulus = 0; kinds = 0 }

abbrev pub blank_sheet : Sheet
blank_sheet = record { version = 0; head = blank_head; kinds = replicate 8 blank_kind }

-- Every field of the head and the kinds, starts included.
unfoldable pub sheet_of : List ℕ → Sheet
sheet_of s = record {
  version = version_of s;
  head = head_of s;
  kinds = sheet_kinds_of (version_of s) (drop kinds_at s) (head_of s).kinds ++ replicate (8 - (head_of s).kinds) blank_kind;
}

-- The sheet that a number lets through.
abbrev pub sheet_given : ℕ → Sheet → Sheet
sheet_given zero sheet = sheet
sheet_given (suc number) sheet = blank_sheet

-- The answer of reading a sheet.
unfoldable pub read_sheet : List ℕ → SheetAnswer
read_sheet s = record { reading = reading (sheet_no s); sheet = sheet_given (sheet_no s) (sheet_of s) }

-- Kind k of a sheet. (Past the eighth an array reads as this record of zeros; no call asks for one.)
abbrev pub sheet_kind : Sheet → ℕ → SheetKind
sheet_kind sheet k = get_or sheet.kinds k (record { shape = blank_shape; flags = 0; tries = 0; starts = [] })
