-- What the structs of the boundary say: for each answer of crates/convention, 01's number and values, field by field.
use Rattle.std.specs.Prelude.{ℕ, zero, suc, ◌≡◌, List, ltb, length}
use Rattle.convention.specs.declared.Head.{Head}
use Rattle.convention.specs.Answers.{JudgingAnswer}
use Rattle.convention.specs.declared.SheetKind.{SheetKind}
use Rattle.convention.specs.Answers.{SheetAnswer}
use Rattle.convention.specs.declared.Shape.{Shape}
use Rattle.convention.specs.Answers.{TableAnswer}
use Rattle.convention.specs.Numbers.{Said, or_else, unless, reading_no, judging_says}
use Rattle.convention.specs.Judged.{Judges}
use Rattle.convention.specs.Fields.{version_of, head_of}
use Rattle.convention.specs.Sheets.{sheet_no, sheet_of, sheet_kind, first_start_at}
use Rattle.convention.specs.Tables.{table_no, table_of, table_kind, row_no, row, row_start}
use Rattle.teaselram.specs.declared.Answer.{Answer}
use Rattle.teaselram.specs.declared.HeadAnswer.{HeadAnswer}
use Rattle.teaselram.specs.declared.KindAnswer.{KindAnswer}

-- The fields of `teaselram_answer`.
abbrev pub answer_of : Said → Answer
answer_of said = record { number = said.number; fault = said.fault; count = said.count; value = said.value }

-- The fields of `teaselram_head`: of a sheet, and of a table.
abbrev pub head_says : ℕ → Head → ℕ → HeadAnswer
head_says number h states = record {
  number = number;
  registers = h.registers;
  width = h.width;
  modulus = h.modulus;
  kinds = h.kinds;
  zero = 0;
  states = states;
}

abbrev pub sheet_says : SheetAnswer → HeadAnswer
sheet_says a = head_says (reading_no a.reading) a.sheet.head 0

abbrev pub table_says : TableAnswer → HeadAnswer
table_says a = head_says (reading_no a.reading) a.table.head a.table.states

-- The fields of `teaselram_kind`: of a kind that the file has, and of one that is refused.
abbrev pub kind_says : Shape → ℕ → ℕ → ℕ → KindAnswer
kind_says shape flags starts first = record {
  number = 0;
  size = shape.size;
  alignment = shape.alignment;
  flags = flags;
  starts = starts;
  zero = 0;
  first_start = first;
}

abbrev pub kind_refusal : ℕ → KindAnswer
kind_refusal number = record { number = number; size = 0; alignment = 0; flags = 0; starts = 0; zero = 0; first_start = 0 }

abbrev pub kind_given : ℕ → KindAnswer → KindAnswer
kind_given zero answer = answer
kind_given (suc number) answer = kind_refusal (suc number)

-- The number of asking for kind k of a file with m kinds: the reader's, then 9.
abbrev pub asked_no : ℕ → ℕ → ℕ → ℕ
asked_no number m k = or_else number (unless (ltb k m) 9)

-- A sheet's kind: every field but the starts, and where in the sheet the first of them stands. A table's kind: size and alignment.
abbrev pub sheet_kind_fields : SheetKind → ℕ → KindAnswer
sheet_kind_fields kind first = kind_says kind.shape kind.flags kind.tries first

abbrev pub table_kind_fields : Shape → KindAnswer
table_kind_fields shape = kind_says shape 0 0 0

unfoldable pub sheet_kind_says : List ℕ → ℕ → KindAnswer
sheet_kind_says s k = kind_given (asked_no (sheet_no s) (head_of s).kinds k) (sheet_kind_fields (sheet_kind (sheet_of s) k) (first_start_at (version_of s) s k))

unfoldable pub table_kind_says : ℕ → List ℕ → ℕ → KindAnswer
table_kind_says limit t k = kind_given (asked_no (table_no limit t) (head_of t).kinds k) (table_kind_fields (table_kind (table_of t) k))

-- Asking for a row: the number, how long the part is, and where it starts in the table. A part that is refused is empty and starts at 0.
unfoldable pub row_says : ℕ → List ℕ → ℕ → Said
row_says limit t state = record { number = row_no limit t state; fault = 0; count = length (row limit t state); value = row_start limit t state }

-- The judge's answer says what a verdict says that `Judges` allows.
pub record JudgeSays (limit : ℕ) (t before : List ℕ) (a : Answer) (after : List ℕ) : Type 0 where
  pub verdict : JudgingAnswer
  pub means : Judges limit t before verdict after
  pub says : a ≡ answer_of (judging_says verdict)
