-- Document 01, 'Bytes of a sheet and of a table': which part of the caller's bytes a row is.
use Rattle.std.specs.Prelude.{ℕ, ◌+◌, ◌≡◌, List}
use Rattle.std.specs.Borrow.{Bor}
use Rattle.convention.specs.Tables.{row, row_start}

-- The place so many bytes after another: a place is a block of memory and an offset in it.
abbrev pub after : ℕ × ℕ → ℕ → ℕ × ℕ
after place n = (place.0, n + place.1)

-- 'Asking for a row returns the caller's own bytes of that state, 4m of them, and no copy': what the part r holds, and where in the caller's t it lies.
pub record RowPart (limit : ℕ) (t : Bor (List ℕ)) (state : ℕ) (r : Bor (List ℕ)) : Type 0 where
  pub bytes : r.now ≡ row limit t.now state
  pub place : r.ref_ptr ≡ after t.ref_ptr (row_start limit t.now state)
