-- Document 01, 'Placing by the rules'.
use Rattle.std.specs.Prelude.{ℕ, zero, suc, ◌+◌, Bool, true, false, cond, List, [], ◌∷◌, ltb, length, get_or, take, replicate}
use Rattle.std.proofs.lemmas.List.Edits.{sets}
use Rattle.convention.specs.declared.Offset.{Offset}
use Rattle.convention.specs.declared.Placement.{Placement}
use Rattle.convention.specs.declared.Placement.TheVariants.{Registers, Stack, Nowhere}
use Rattle.convention.specs.declared.SheetKind.{SheetKind}
use Rattle.convention.specs.declared.Sheet.{Sheet}
use Rattle.convention.specs.declared.ByRules.{ByRules}
use Rattle.convention.specs.Answers.{PlacingAnswer}
use Rattle.convention.specs.Numbers.{unless}
use Rattle.convention.specs.Shapes.{registers_needed, stack_bytes}
use Rattle.convention.specs.Sheets.{may_use_stack, is_closing, sheet_kind, sheet_no, sheet_of}
use Rattle.convention.specs.Offsets.{least_offset}
use Rattle.convention.specs.Lists.{Steps, parts_of, placing, placing_memory}

-- 'run s to s + k - 1 is wholly available': none of the `left` registers from `at` on is taken.
unfoldable pub free_run : List Bool → ℕ → ℕ → Bool
free_run taken at zero = true
free_run taken at (suc left) = elim (get_or taken at false) [ true ↦ false | false ↦ free_run taken (at + 1) left ]

-- 'the run becomes unavailable'.
abbrev pub mark_run : List Bool → ℕ → ℕ → List Bool
mark_run taken first count = sets taken first (replicate count true)

-- The same for the runs of several starts.
unfoldable pub mark_runs : List Bool → ℕ → List ℕ → List Bool
mark_runs taken count [] = taken
mark_runs taken count (s ∷ starts) = mark_runs (mark_run taken s count) count starts

-- Rule 1: 'Try the starts of its kind in order.' How many are tried and not taken: those before the first that fits, or all.
unfoldable pub skipped_before : List Bool → ℕ → List ℕ → ℕ
skipped_before taken count [] = 0
skipped_before taken count (s ∷ starts) = elim (free_run taken s count) [ true ↦ 0 | false ↦ suc (skipped_before taken count starts) ]

-- The starts of a kind, and how many registers it needs.
abbrev pub starts_of : SheetKind → List ℕ
starts_of kind = take kind.tries kind.starts

abbrev pub needed : ℕ → SheetKind → ℕ
needed w kind = registers_needed w kind.shape

abbrev pub skipped_of : ℕ → SheetKind → List Bool → ℕ
skipped_of w kind taken = skipped_before taken (needed w kind) (starts_of kind)

-- Whether a start was taken, and which.
abbrev pub fits : ℕ → SheetKind → List Bool → Bool
fits w kind taken = ltb (skipped_of w kind taken) (length (starts_of kind))

abbrev pub start_taken : ℕ → SheetKind → List Bool → ℕ
start_taken w kind taken = get_or (starts_of kind) (skipped_of w kind taken) 0

-- Rule 2: 'the least offset o, at least p, that is a multiple of the alignment'.
abbrev pub stack_offset : SheetKind → ℕ → ℕ
stack_offset kind p = least_offset kind.shape.alignment 0 p

-- Rules 1, 2 and 3: registers; otherwise, if the stack is allowed, stack; otherwise no place.
unfoldable pub rules_place : ℕ → SheetKind → ByRules → Placement
rules_place w kind s =
    cond (fits w kind s.unavailable) (Registers (record { 0 = start_taken w kind s.unavailable }) (needed w kind))
    (cond (may_use_stack kind) (Stack (record { 0 = stack_offset kind s.p.0 }) (stack_bytes kind.shape)) Nowhere)

-- 'by the rules: no place, fault 1'.
abbrev pub place_fault : Placement → ℕ
place_fault place = unless (ltb 0 (parts_of place).form) 1

-- 'The run becomes unavailable'; 'p becomes o + size'.
abbrev pub place_taken : Placement → List Bool → List Bool
place_taken (Registers first count) taken = mark_run taken first.0 count
place_taken (Stack offset count) taken = taken
place_taken Nowhere taken = taken

abbrev pub place_p : Placement → Offset → Offset
place_p (Registers first count) p = p
place_p (Stack offset count) p = record { 0 = offset.0 + count }
place_p Nowhere p = p

-- Rule 4: 'if the kind is closing, every register in the run of each start tried and not taken becomes unavailable too'.
-- (Where there is no place the walk stops, and this is never asked.)
unfoldable pub rules_after : ℕ → SheetKind → ByRules → ByRules
rules_after w kind s = record {
  unavailable =
      cond (is_closing kind)
      (mark_runs (place_taken (rules_place w kind s) s.unavailable) (needed w kind) (take (skipped_of w kind s.unavailable) (starts_of kind)))
      (place_taken (rules_place w kind s) s.unavailable);
  p = place_p (rules_place w kind s) s.p;
}

-- No register of the sixteen.
abbrev pub no_registers : List Bool
no_registers = replicate 16 false

-- 'Begin with every register available and p = 0.'
abbrev pub rules_begin : ByRules
rules_begin = record { unavailable = no_registers; p = record { 0 = 0 } }

-- 'For each argument in turn: ..'
abbrev pub by_rules : Sheet → Steps
by_rules sheet = record {
  State = ByRules;
  begin = rules_begin;
  place = λ s k. rules_place sheet.head.width (sheet_kind sheet k) s;
  fault = λ s k. place_fault (rules_place sheet.head.width (sheet_kind sheet k) s);
  after = λ s k. rules_after sheet.head.width (sheet_kind sheet k) s;
  p = λ s. s.p;
}

-- The answer of placing by the rules, and the lent memory afterwards.
unfoldable pub place_by_rules : ℕ → List ℕ → List ℕ → ℕ → PlacingAnswer
place_by_rules limit s ks room = placing limit (sheet_no s) (sheet_of s).head.kinds (by_rules (sheet_of s)) ks room

unfoldable pub rules_memory : ℕ → List ℕ → List ℕ → List ℕ → List ℕ
rules_memory limit s ks out = placing_memory (place_by_rules limit s ks (length out)) (by_rules (sheet_of s)) ks out
