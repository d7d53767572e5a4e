-- The bytes that building wrote: where it answers `Built n len`, the sheet was read, its states were all met, and the first len bytes of the memory are its table.
use Prim.Native.Nat.{ℕ, zero, suc, ◌≤◌}
use mathlib.Core.Path.{◌≡◌, refl, sym}
use mathlib.Core.List.{List, ◌++◌}
use native.Mathlib.Nat.{zero-add}
use native.Mathlib.Omega.{arith}
use lib.ListN.{length, take, drop, length-append}
use lib.Seq.{take_at, drop_at}
use borrow.Author.Tests.{leb-true}
use Rattle.convention.specs.Answers.BuildingAnswer.{Built}
use Rattle.convention.specs.Layout.{LengthSaid}
use Rattle.convention.specs.Sheets.{sheet_no, sheet_of}
use Rattle.convention.specs.Tables.{table_no}
use Rattle.convention.specs.Built.{built_version, built_most, built_states, built_table, many_states_no, build_no, built_or_refused, build, build_memory}
use Rattle.convention.proofs.Numbers.{or_zero, unless_zero}
use Rattle.convention.proofs.Positions.{table_most}
use Rattle.convention.proofs.Sheets.{sheet_read}
use Rattle.building.proofs.Readable.{built_length, readable}

-- The states fit where number 11 is not given.
pub states_fit : (limit : ℕ) (s : List ℕ) → many_states_no limit (sheet_of s) ≡ 0 → length (built_states limit (sheet_of s)) ≤ limit
states_fit limit s e = leb-true _ limit (unless_zero _ 11 (omega arith) e)

-- A built table is no longer than the longest.
pub built_most_lem : (limit : ℕ) (s : List ℕ) → sheet_no s ≡ 0 → many_states_no limit (sheet_of s) ≡ 0 → length (built_table limit (sheet_of s)) ≤ built_most limit
unfolding built_version
built_most_lem limit s read e =
    rw (built_length _ (sheet_of s) (built_states limit (sheet_of s)))
    (table_most _ (sheet_of s).head _ limit (sheet_read s read).head.kinds (states_fit limit s e))

module _ (limit : ℕ) (s : List ℕ) (room n len : ℕ) (built : build limit s room ≡ Built n len) where
  abbrev table : List ℕ
  table = built_table limit (sheet_of s)

  -- Nothing was refused, and the answer is the number of states and the table's length.
  answer : (number : ℕ) → built_or_refused number (length (built_states limit (sheet_of s))) (length table) ≡ Built n len
      → (number ≡ 0) × (n ≡ length (built_states limit (sheet_of s))) × (len ≡ length table)
  answer zero e = (refl, cc, cc)
  answer (suc number) e = absurd (let z : ◌≡◌ {A = ℕ} 0 1 = cc in omega arith)

  pub built_says : (build_no limit s room ≡ 0) × (n ≡ length (built_states limit (sheet_of s))) × (len ≡ length (built_table limit (sheet_of s)))
  unfolding build
  built_says = answer (build_no limit s room) built

  -- The sheet was read, and all its states were met.
  pub built_sheet : (sheet_no s ≡ 0) × (length (built_states limit (sheet_of s)) ≤ limit)
  unfolding build_no
  built_sheet =
      let tests = or_zero (sheet_no s) _ built_says.0 in
      (tests.0, states_fit limit s (or_zero _ _ tests.1).0)

  -- The table can be read.
  pub built_readable : LengthSaid limit → table_no limit (built_table limit (sheet_of s)) ≡ 0
  built_readable said = readable limit (sheet_of s) (sheet_read s built_sheet.0) built_sheet.1 said

-- Its bytes are the first len of the memory.
module _ (limit : ℕ) (s out : List ℕ) (n len : ℕ) (built : build limit s (length out) ≡ Built n len) where
  there : build_memory limit s out ≡ built_table limit (sheet_of s) ++ drop (length (built_table limit (sheet_of s))) out
  unfolding build_memory
  there = rw ((built_says limit s (length out) n len built).0, zero-add)

  pub bytes_are : take len (build_memory limit s out) ≡ built_table limit (sheet_of s)
  bytes_are = rw there (take_at (built_table limit (sheet_of s)) _ len (sym (built_says limit s (length out) n len built).2))

  pub bytes_within : len ≤ length (build_memory limit s out)
  bytes_within =
      rw there
      (omega (arith, length-append (built_table limit (sheet_of s)) (drop (length (built_table limit (sheet_of s))) out), (built_says limit s (length out) n len built).2))

  -- The bytes after it are untouched.
  pub bytes_after : drop len (build_memory limit s out) ≡ drop len out
  bytes_after =
      let same = (built_says limit s (length out) n len built).2 in
      rw (there, same, drop_at (built_table limit (sheet_of s)) _ (length (built_table limit (sheet_of s))) refl)
