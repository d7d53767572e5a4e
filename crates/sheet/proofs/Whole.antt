-- How the number and the answer of a whole sheet come together from its parts.
use Rattle.std.proofs.Common.{ℕ, zero, suc, ◌≡◌, sym, List, Ok, Err}
use Rattle.convention.specs.declared.Refusal.{Refusal}
use Rattle.convention.specs.Answers.{Reading, SheetAnswer}
use Rattle.convention.specs.Numbers.{reading}
use Rattle.convention.specs.Results.{refusal_number, sheet_answer}
use Rattle.convention.specs.Fields.{version_of, head_of, opening_no}
use Rattle.convention.specs.Sheets.{sheet_no, sheet_of, sheet_given, blank_sheet, read_sheet}
use Rattle.convention.proofs.Numbers.{or_zero}
use Rattle.convention.proofs.Results.{refusal_not}
use Rattle.convention.proofs.Fields.{head_there, head_read, opening_head}
use Rattle.sheet.specs.Kinds.{HeadThere, KindsRight}

-- An opening that is right has a head.
pub opened : (s : List ℕ) → 0 ≡ opening_no s → HeadThere (head_of s) s
unfolding head_of
opened s ez =
    let right = opening_head s (sym ez) in
    record { wide = (head_read s right).width; within = head_there s right }

-- A sheet that can be read has kinds that are right.
pub read_right : (s : List ℕ) → sheet_no s ≡ 0 → KindsRight (version_of s) (head_of s) s
unfolding sheet_no
read_right s e =
    let opening = or_zero (opening_no s) _ e in
    let head = opening_head s opening.0 in
    record { within = head_there s head; count = (head_read s head).kinds; right = (or_zero _ _ opening.1).0 }

-- A sheet of which nothing is wrong is read; a refusal gives a blank one.
pub answer_read : (s : List ℕ) → 0 ≡ sheet_no s → sheet_answer (Ok (sheet_of s)) ≡ read_sheet s
unfolding read_sheet
answer_read s e = rw (← e)

refused : (n : ℕ) (refusal : Refusal) (s : List ℕ) → refusal_number refusal ≡ n
    → ◌≡◌ {A = SheetAnswer} (record { reading = Reading.Refused (refusal_number refusal); sheet = blank_sheet }) (record { reading = reading n; sheet = sheet_given n (sheet_of s) })
refused zero refusal s e = absurd (refusal_not refusal e)
refused (suc n) refusal s e = rw e

pub answer_refused : (s : List ℕ) (refusal : Refusal) → refusal_number refusal ≡ sheet_no s → sheet_answer (Err refusal) ≡ read_sheet s
unfolding read_sheet
answer_refused s refusal e = refused (sheet_no s) refusal s e
