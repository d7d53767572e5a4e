-- How many bytes a number and a line have at most.
use Rattle.std.specs.Prelude.{ℕ, ◌+◌, ◌*◌, length}
use Rattle.convention.specs.Program.{decimal}

-- How many decimal digits a number has.
abbrev pub digits : ℕ → ℕ
digits n = length (decimal n)

-- The longest line of a table of at most `limit` states, 8 kinds and a list of at most `most` kinds: the states; a space and the number of kinds, one digit;
-- ` fault`, a space and its number, one digit; a space and the length of the list; a space and a digit for each kind of it; the line feed.
abbrev pub line_most : ℕ → ℕ → ℕ
line_most limit most = digits limit + 2 + (6 + 2 + (1 + digits most) + 2 * most) + 1
