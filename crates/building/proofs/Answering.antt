-- The builder's answer and the lent memory: 11, 12 or the table, after the number that reading the sheet gave.
use Prim.Native.Nat.{ℕ, zero, suc, ◌≤◌, ◌<◌}
use mathlib.Core.Path.{◌≡◌, refl, sym, ◌∙◌}
use mathlib.Core.List.{List}
use native.Mathlib.Omega.{arith}
use lib.Dec.{leb}
use lib.ListN.{length}
use borrow.Author.Tests.{le-leb, lt-leb, leb-true}
use Rattle.std.proofs.Common.{Result, Ok, Err}
use Rattle.convention.specs.declared.Sheet.{Sheet}
use Rattle.convention.specs.declared.Built.{Built}
use Rattle.convention.specs.declared.Refusal.{Refusal}
use Rattle.convention.specs.Answers.{BuildingAnswer}
use Rattle.convention.specs.Numbers.{state_limit, unless}
use Rattle.convention.specs.Bytes.{written}
use Rattle.convention.specs.Sheets.{sheet_no, sheet_of}
use Rattle.convention.specs.Layout.{table_length}
use Rattle.convention.specs.Results.{refusal_number, building_answer}
use Rattle.convention.specs.Built.{built_version, built_states, built_table, build_sheet_no, build_no, built_or_refused, build, build_writes, build_memory}
use Rattle.convention.proofs.Numbers.{or_here, unless_zero}
use Rattle.convention.proofs.Results.{refusal_some}
use Rattle.building.specs.Deciding.{DecidedIs, ManyStates, WriteAsks, BuildingIs}
use Rattle.building.proofs.Readable.{built_length}

-- A number that is not 0 refuses, and leaves the memory.
number_answers : (number n len : ℕ) → 0 < number → built_or_refused number n len ≡ BuildingAnswer.Refused number
number_answers zero n len h = absurd (omega arith)
number_answers (suc number) n len h = refl

number_leaves : (number : ℕ) (table out : List ℕ) → 0 < number → build_writes number table out ≡ out
number_leaves zero table out h = absurd (omega arith)
number_leaves (suc number) table out h = refl

-- Number 11.
pub many_refused : (sheet : Sheet) (before : List ℕ) (refusal : Refusal) → ManyStates sheet refusal → BuildingIs sheet before (Err refusal) before
many_refused sheet before refusal many = rw many.number (record { answers = rw (lt-leb _ _ many.more); memory = rw (lt-leb _ _ many.more) })

-- A sheet that was read, whose table was decided and has this length.
module _ (sheet : Sheet) (states len : ℕ) (rows before : List ℕ) (is : DecidedIs sheet states rows)
    (el : len ≡ table_length (built_version sheet states) sheet.head states) where
  few : length (built_states state_limit sheet) ≤ state_limit
  few = omega (arith, is.few, is.all.many)

  whole : len ≡ length (built_table state_limit sheet)
  whole = el ∙ rw is.all.many (sym (built_length _ sheet (built_states state_limit sheet)))

  room_no : build_sheet_no state_limit sheet (length before) ≡ unless (leb len (length before)) 12
  room_no = rw (le-leb _ _ few, ← whole)

  -- Number 12.
  pub narrow_refused : (refusal : Refusal) → refusal_number refusal ≡ unless (leb len (length before)) 12 → BuildingIs sheet before (Err refusal) before
  narrow_refused refusal e =
      let twelve : build_sheet_no state_limit sheet (length before) ≡ refusal_number refusal = room_no ∙ sym e in
      record {
        answers = rw twelve (sym (number_answers (refusal_number refusal) _ _ (refusal_some refusal)));
        memory = rw twelve (sym (number_leaves (refusal_number refusal) _ before (refusal_some refusal)));
      }

  -- It has room.
  module _ (e : 0 ≡ unless (leb len (length before)) 12) where
    pub write_asks : WriteAsks sheet states rows before
    write_asks = record {
      few = is.few;
      made = is.all;
      there = rw (← whole) (leb-true _ _ (unless_zero _ 12 (omega arith) (sym e)));
    }

    pub table_built : (after : List ℕ) → after ≡ written before 0 (built_table state_limit sheet)
        → BuildingIs sheet before (Ok (record { states = states; length = len })) after
    table_built after w =
        let none : build_sheet_no state_limit sheet (length before) ≡ 0 = room_no ∙ sym e in
        record { answers = rw (none, is.all.many, whole); memory = rw none w }

-- The sheet was read: the answer is that of building its table.
module _ (s : List ℕ) (sheet : Sheet) (right : sheet_no s ≡ 0) (same : sheet ≡ sheet_of s) (out : List ℕ) (r : Result Built Refusal) (after : List ℕ)
    (is : BuildingIs sheet out r after) where
  pub built_answer : building_answer r ≡ build state_limit s (length out)
  unfolding build build_no
  built_answer = rw (right, ← same) is.answers

  pub built_memory : after ≡ build_memory state_limit s out
  unfolding build_memory build_no
  built_memory = rw (right, ← same) is.memory

-- The sheet was refused.
module _ (s : List ℕ) (refusal : Refusal) (e : refusal_number refusal ≡ sheet_no s) (out : List ℕ) where
  here : build_no state_limit s (length out) ≡ refusal_number refusal
  unfolding build_no
  here = rw (← e) (or_here (refusal_number refusal) _ (refusal_some refusal))

  pub refused_answer : BuildingAnswer.Refused (refusal_number refusal) ≡ build state_limit s (length out)
  unfolding build
  refused_answer = rw here (sym (number_answers (refusal_number refusal) _ _ (refusal_some refusal)))

  pub refused_memory : out ≡ build_memory state_limit s out
  unfolding build_memory
  refused_memory = rw here (sym (number_leaves (refusal_number refusal) _ out (refusal_some refusal)))
