-- Document 01, 'Bytes of a sheet and of a table': what both have, which is the length, the version, the head, a kind's shape and the number of a state.
use Rattle.std.specs.Prelude.{ℕ, ◌+◌, ◌-◌, ◌*◌, Bool, ◌&&◌, ◌||◌, List, [], ◌∷◌, leb, eqb, length, get_or}
use Rattle.convention.specs.declared.Head.{Head}
use Rattle.convention.specs.declared.Shape.{Shape}
use Rattle.convention.specs.Numbers.{or_else, unless}
use Rattle.convention.specs.Layout.{length_at, length_bytes, version_at, registers_at, width_at, modulus_at, kinds_count_at, size_at, alignment_at}

-- 'a missing byte gives 3, and a wrong value gives its number as soon as its field is read': `long` bytes from byte `at` on, whose value is right or not.
abbrev pub part_no : List ℕ → ℕ → ℕ → Bool → ℕ → ℕ
part_no s at long right wrong = or_else (unless (leb (at + long) (length s)) 3) (unless right wrong)

-- The same of a field of one byte.
abbrev pub field_no : List ℕ → ℕ → Bool → ℕ → ℕ
field_no s at right wrong = part_no s at 1 right wrong

-- 'the number of bytes that follow', as the length field says it.
abbrev pub length_field : List ℕ → ℕ
length_field s = 256 * get_or s length_at 0 + get_or s (length_at + 1) 0

-- Number 1: 'fewer than 2 bytes, or the length field is not the count of bytes after it'.
abbrev pub length_no : List ℕ → ℕ
length_no s = unless (leb length_bytes (length s) && eqb (length_field s) (length s - length_bytes)) 1

-- Number 2: 'version not 1'.
unfoldable pub version_of : List ℕ → ℕ
version_of s = get_or s version_at 0

abbrev pub is_version : ℕ → Bool
is_version v = eqb v 1

abbrev pub version_no : List ℕ → ℕ
version_no s = field_no s version_at (is_version (version_of s)) 2

-- 'register width w (1, 2, 4 or 8 bytes)'.
abbrev pub is_width : ℕ → Bool
is_width w = eqb w 1 || eqb w 2 || eqb w 4 || eqb w 8

-- 'stack modulus A (1, 2, 4, 8 or 16)', which are an alignment's values too.
abbrev pub is_modulus : ℕ → Bool
is_modulus a = eqb a 1 || eqb a 2 || eqb a 4 || eqb a 8 || eqb a 16

-- 'Head: registers n, register width w, stack modulus A, number of kinds m'.
unfoldable pub head_of : List ℕ → Head
head_of s = record { registers = get_or s registers_at 0; width = get_or s width_at 0; modulus = get_or s modulus_at 0; kinds = get_or s kinds_count_at 0 }

-- Number 4, for n, w, A and m in turn.
unfoldable pub head_no : List ℕ → ℕ
head_no s =
    or_else (field_no s registers_at (leb (get_or s registers_at 0) 16) 4)
    (or_else (field_no s width_at (is_width (get_or s width_at 0)) 4)
    (or_else (field_no s modulus_at (is_modulus (get_or s modulus_at 0)) 4)
    (field_no s kinds_count_at (leb 1 (get_or s kinds_count_at 0) && leb (get_or s kinds_count_at 0) 8) 4)))

-- What both read before the kinds: numbers 1, 2 and 4.
unfoldable pub opening_no : List ℕ → ℕ
opening_no s = or_else (length_no s) (or_else (version_no s) (head_no s))

-- A kind's 'size (1 to 64)' and 'alignment (1, 2, 4, 8 or 16, at most A)'.
abbrev pub is_size : ℕ → Bool
is_size x = leb 1 x && leb x 64

abbrev pub is_alignment : Head → ℕ → Bool
is_alignment h x = is_modulus x && leb x h.modulus

-- Number 5, for a kind's size and alignment in turn; s begins at the kind's first byte.
unfoldable pub shape_no : ℕ → Head → List ℕ → ℕ
shape_no v h s = or_else (field_no s size_at (is_size (get_or s size_at 0)) 5) (field_no s alignment_at (is_alignment h (get_or s alignment_at 0)) 5)

-- Both, as the bytes say them; and the bytes that say them.
unfoldable pub shape_of : ℕ → List ℕ → Shape
shape_of v s = record { size = get_or s size_at 0; alignment = get_or s alignment_at 0 }

unfoldable pub shape_bytes : ℕ → Shape → List ℕ
shape_bytes v shape = shape.size ∷ shape.alignment ∷ []

-- The number of states, or of a state, that stands at byte `at`; and the bytes that say it.
unfoldable pub state_field : ℕ → List ℕ → ℕ → ℕ
state_field v s at = get_or s at 0

unfoldable pub state_bytes : ℕ → ℕ → List ℕ
state_bytes v n = n ∷ []

-- Number 6: 'bytes left over', after the first n.
abbrev pub left_over_no : List ℕ → ℕ → ℕ
left_over_no s n = unless (leb (length s) n) 6
