-- What reading gives the public call, and how its answer and the lent memory come together.
use Prim.Native.Nat.{ℕ}
use mathlib.Core.Path.{◌≡◌, refl, sym}
use mathlib.Core.List.{List}
use lib.ListN.{length}
use Rattle.std.specs.Prelude.{Result, Ok, Err}
use Rattle.convention.specs.declared.Sheet.{Sheet}
use Rattle.convention.specs.declared.Placed.{Placed}
use Rattle.convention.specs.declared.Refusal.{Refusal}
use Rattle.convention.specs.declared.Unplaced.{Unplaced}
use Rattle.convention.specs.Answers.{PlacingAnswer}
use Rattle.convention.specs.Results.{refusal_number, sheet_answer, placing_answer}
use Rattle.convention.specs.Numbers.{argument_limit}
use Rattle.convention.specs.Sheets.{read_sheet, sheet_no, sheet_of}
use Rattle.convention.specs.Rules.{by_rules, place_by_rules, rules_memory}
use Rattle.convention.specs.Promised.{SheetRead}
use Rattle.convention.proofs.Sheets.{sheet_read, sheet_right, sheet_is, sheet_refused}
use Rattle.convention.proofs.Results.{refusal_some}
use Rattle.stepping.specs.Walks.{PlacingIs}
use Rattle.stepping.proofs.Calls.{read_answer, read_memory, unread_answer, unread_memory}

-- A sheet that could be read: nothing is wrong with its bytes, it is what they say, and it has the values that 01 allows.
module _ (s : List ℕ) (sheet : Sheet) (e : sheet_answer (Ok sheet) ≡ read_sheet s) where
  pub right : sheet_no s ≡ 0
  right = sheet_right s _ e refl

  pub is_sheet : sheet ≡ sheet_of s
  is_sheet = sheet_is s _ e refl

  pub was_read : SheetRead sheet
  was_read = rw is_sheet (sheet_read s right)

-- One that could not: its number is the refusal's.
pub was_refused : (s : List ℕ) (refusal : Refusal) → sheet_answer (Err refusal) ≡ read_sheet s → refusal_number refusal ≡ sheet_no s
was_refused s refusal e = sym (sheet_refused s _ e _ refl)

-- The call's answer and memory on either.
module _ (s : List ℕ) where
  module _ (sheet : Sheet) (z : sheet_no s ≡ 0) (is : sheet ≡ sheet_of s) (ks out : List ℕ) (result : Result Placed Unplaced) (after : List ℕ)
      (placed : PlacingIs argument_limit sheet.head.kinds (by_rules sheet) ks out result after) where
    by_bytes : PlacingIs argument_limit (sheet_of s).head.kinds (by_rules (sheet_of s)) ks out result after
    by_bytes = rw is at placed

    pub placed_answer : placing_answer result ≡ place_by_rules argument_limit s ks (length out)
    unfolding place_by_rules
    placed_answer = read_answer argument_limit _ _ _ ks out z result after by_bytes

    pub placed_memory : after ≡ rules_memory argument_limit s ks out
    unfolding rules_memory place_by_rules
    placed_memory = read_memory argument_limit _ _ _ ks out z result after by_bytes

  module _ (refusal : Refusal) (e : refusal_number refusal ≡ sheet_no s) (ks out : List ℕ) where
    pub refused_answer : PlacingAnswer.Refused (refusal_number refusal) ≡ place_by_rules argument_limit s ks (length out)
    unfolding place_by_rules
    refused_answer = unread_answer argument_limit _ _ _ ks out _ (sym e) (refusal_some refusal)

    pub refused_memory : out ≡ rules_memory argument_limit s ks out
    unfolding rules_memory place_by_rules
    refused_memory = unread_memory argument_limit _ _ _ ks out _ (sym e) (refusal_some refusal)
