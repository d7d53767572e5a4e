-- What places by the rules are like, over every list of kinds of a sheet that was read: no two share anything, each offset is aligned, and all are small.
use Prim.Native.Nat.{ℕ, zero, suc, ◌+◌, ◌*◌, ◌/◌, ◌%◌, ◌^◌, ◌≤◌, ◌<◌}
use mathlib.Core.Path.{◌≡◌, refl, ◌∙◌}
use mathlib.Core.Bool.{Bool, true, false, cond}
use mathlib.Core.List.{List, [], ◌∷◌}
use native.Mathlib.Omega.{arith}
use lib.ListN.{length, get_or}
use Rattle.convention.specs.declared.Head.{Head}
use Rattle.convention.specs.declared.Offset.{Offset}
use Rattle.convention.specs.declared.SheetKind.{SheetKind}
use Rattle.convention.specs.declared.Placement.{Placement}
use Rattle.convention.specs.declared.Placement.TheVariants.{Registers, Stack, Nowhere}
use Rattle.convention.specs.declared.Sheet.{Sheet}
use Rattle.convention.specs.declared.ByRules.{ByRules}
use Rattle.convention.specs.Answers.{Placed}
use Rattle.convention.specs.Numbers.{argument_limit}
use Rattle.convention.specs.Sheets.{is_closing, sheet_no, sheet_of, sheet_kind}
use Rattle.convention.specs.Lists.{fault_from, state_from, places_from, KindsBelow}
use Rattle.convention.specs.Rules.{mark_run, mark_runs, starts_of, needed, start_taken, place_taken, rules_place, rules_after, by_rules, place_by_rules}
use Rattle.convention.specs.WellPlaced.{Share}
use Rattle.convention.specs.Promised.{SheetRead}
use Rattle.convention.proofs.Bytes.{four_read}
use Rattle.convention.proofs.Sheets.{sheet_read}
use Rattle.convention.proofs.Offsets.{least_ge, least_is}
use Rattle.convention.proofs.Rules.{place_cases}
use Rattle.stepping.specs.Ends.{stack_end}
use Rattle.stepping.proofs.Runs.{length_mark}
use Rattle.stepping.proofs.Accepted.{Accepted, accepted}
use Rattle.stepping.proofs.Apart.{FreeIn, FromP, StepGives, mark_stays, place_length, apart, p_most_lem}
use Rattle.convention.specs.Shapes.{p_most}
use Rattle.placing.specs.RulesSteps.{MayBegin}
use Rattle.placing.proofs.Starts.{skipped_free, skipped_stay}
use Rattle.placing.proofs.Steps.{aligned, run_ends, stack_end_lem, p_grows}

-- The places of a list by the rules of a sheet.
abbrev places : Sheet → List ℕ → List Placement
places sheet ks = places_from (by_rules sheet) (by_rules sheet).begin ks

-- A place that is stack lies at a multiple of a.
abbrev Aligned : ℕ → Placement → Type 0
Aligned a (Registers first count) = Unit {0}
Aligned a (Stack offset count) = offset.0 % a ≡ 0
Aligned a Nowhere = Unit {0}

-- One place by the rules: its registers are free, its stack bytes begin at p or after it, and at a multiple of the alignment.
module _ (w : ℕ) (k : SheetKind) (s : ByRules) where
  place_free : FreeIn s.unavailable (rules_place w k s)
  place_free =
      place_cases w k s.unavailable (λ at. FreeIn s.unavailable (at s.p.0)) (skipped_free s.unavailable (needed w k) (starts_of k)) (λ _. tt) (λ _. tt)

  place_above : FromP s.p (rules_place w k s)
  place_above = place_cases w k s.unavailable (λ at. FromP s.p (at s.p.0)) (λ l. tt) (λ _. least_ge k.shape.alignment 0 s.p.0) (λ _. tt)

  place_aligned : 0 < k.shape.alignment → Aligned k.shape.alignment (rules_place w k s)
  place_aligned h =
      place_cases w k s.unavailable (λ at. Aligned k.shape.alignment (at s.p.0)) (λ l. tt) (λ _. (least_is k.shape.alignment 0 s.p.0 h).remainder) (λ _. tt)

-- Closing keeps the number of registers, and what was taken.
marks_length : (taken : List Bool) (count : ℕ) (starts : List ℕ) → length (mark_runs taken count starts) ≡ length taken
unfolding mark_runs
marks_length taken count [] = refl
marks_length taken count (s ∷ starts) = marks_length (mark_run taken s count) count starts ∙ length_mark taken s count

marks_stay : (taken : List Bool) (count : ℕ) (starts : List ℕ) (r : ℕ) → get_or taken r false ≡ true → get_or (mark_runs taken count starts) r false ≡ true
unfolding mark_runs
marks_stay taken count [] r e = e
marks_stay taken count (s ∷ starts) r e = marks_stay (mark_run taken s count) count starts r (mark_stays taken s count r e)

pub closed_length : (closing : Bool) (taken : List Bool) (count : ℕ) (starts : List ℕ) → length (cond closing (mark_runs taken count starts) taken) ≡ length taken
closed_length true taken count starts = marks_length taken count starts
closed_length false taken count starts = refl

pub closed_stays : (closing : Bool) (taken : List Bool) (count : ℕ) (starts : List ℕ) (r : ℕ) → get_or taken r false ≡ true
    → get_or (cond closing (mark_runs taken count starts) taken) r false ≡ true
closed_stays true taken count starts r e = marks_stay taken count starts r e
closed_stays false taken count starts r e = e

-- A register that is unavailable stays so over a step.
step_stays : (w : ℕ) (k : SheetKind) (s : ByRules) (r : ℕ) → get_or s.unavailable r false ≡ true → get_or (rules_after w k s).unavailable r false ≡ true
unfolding rules_after
step_stays w k s r e =
    closed_stays (is_closing k) (place_taken (rules_place w k s) s.unavailable) _ _ r
    (place_cases w k s.unavailable (λ at. get_or (place_taken (at s.p.0) s.unavailable) r false ≡ true)
    (λ _. mark_stays s.unavailable (start_taken w k s.unavailable) (needed w k) r e) (λ _. e) (λ _. e))

-- So a kind's search may begin where it might before a step, of whatever kind.
pub begins_still : (h : Head) (k stepped : SheetKind) (s next : ByRules) → next ≡ rules_after h.width stepped s
    → (from : ℕ) → MayBegin h k s from → MayBegin h k next from
begins_still h k stepped s next e from cursor =
    let later = (rules_after h.width stepped s).unavailable in
    let grows = skipped_stay s.unavailable later (step_stays h.width stepped s) (needed h.width k) (starts_of k) in
    rw e (record { low = omega (arith, cursor.low, grows); closes = cursor.closes })

module _ (sheet : Sheet) (read : SheetRead sheet) where
  -- A step gives out what is free, and marks it.
  rules_give : (s : ByRules) (k : ℕ) → length s.unavailable ≡ 16 → k < sheet.head.kinds
      → StepGives (by_rules sheet) (λ s. s.unavailable) (λ s. length s.unavailable ≡ 16) s k
  unfolding rules_after
  rules_give s k good h =
      let kind = sheet_kind sheet k in
      let w = sheet.head.width in
      record {
        keeps = closed_length (is_closing kind) _ _ _ ∙ (place_length (rules_place w kind s) s.unavailable ∙ good);
        within = rw good (run_ends sheet.head kind read.head (read.kind k h) s (rules_place w kind s) refl);
        free = place_free w kind s;
        marks = closed_stays (is_closing kind) _ _ _;
        above = place_above w kind s;
        moves = refl;
        most = p_grows sheet.head kind s read.head (read.kind k h);
      }

  -- From a state on, every place's stack bytes end at most `p_most` after its p.
  places_low : (s : ByRules) (ks : List ℕ) → KindsBelow sheet.head.kinds ks → (i : ℕ)
      → stack_end (get_or (places_from (by_rules sheet) s ks) i Nowhere) ≤ s.p.0 + p_most (length ks)
  unfolding places_from KindsBelow
  places_low s [] below i = omega arith
  places_low s (k ∷ ks) below zero = omega (arith, stack_end_lem sheet.head (sheet_kind sheet k) read.head (read.kind k below.0) s)
  places_low s (k ∷ ks) below (suc i) =
      omega (arith, p_grows sheet.head (sheet_kind sheet k) s read.head (read.kind k below.0), places_low ((by_rules sheet).after s k) ks below.1 i)

  places_aligned : (s : ByRules) (ks : List ℕ) → KindsBelow sheet.head.kinds ks → (i : ℕ)
      → Aligned (sheet_kind sheet (get_or ks i 0)).shape.alignment (get_or (places_from (by_rules sheet) s ks) i Nowhere)
  unfolding places_from KindsBelow
  places_aligned s [] below i = tt
  places_aligned s (k ∷ ks) below zero =
      place_aligned sheet.head.width (sheet_kind sheet k) s (aligned sheet.head (sheet_kind sheet k) read.head (read.kind k below.0))
  places_aligned s (k ∷ ks) below (suc i) = places_aligned ((by_rules sheet).after s k) ks below.1 i

  -- A list of known kinds.
  module _ (ks : List ℕ) (below : KindsBelow sheet.head.kinds ks) where
    -- Two arguments of a list without a fault share no register and no stack byte.
    pub rules_apart : fault_from (by_rules sheet) (by_rules sheet).begin ks ≡ 0 → (i j : ℕ) → i < j → j < length ks
        → Share (get_or (places sheet ks) i Nowhere) (get_or (places sheet ks) j Nowhere) → ⊥
    rules_apart =
        apart (by_rules sheet) (λ s. s.unavailable) (λ s. length s.unavailable ≡ 16) sheet.head.kinds
        (λ s k good h f. rules_give s k good h) (by_rules sheet).begin ks refl below

    -- Each stack offset is a multiple of its kind's alignment.
    pub offset_aligned : (i : ℕ) (offset : Offset) (count : ℕ) → get_or (places sheet ks) i Nowhere ≡ Stack offset count
        → offset.0 % (sheet_kind sheet (get_or ks i 0)).shape.alignment ≡ 0
    offset_aligned i offset count e = rw e at (places_aligned (by_rules sheet).begin ks below i)

    -- Of a list that a call places, the final p is at most 31,600, and so is where any stack bytes end.
    module _ (short : length ks ≤ argument_limit) where
      pub final_most : fault_from (by_rules sheet) (by_rules sheet).begin ks ≡ 0 → (state_from (by_rules sheet) (by_rules sheet).begin ks).p.0 ≤ p_most argument_limit
      final_most clean =
          omega (
            arith,
            p_most_lem (by_rules sheet) (λ s. s.unavailable) (λ s. length s.unavailable ≡ 16) sheet.head.kinds
                (λ s k good h f. rules_give s k good h) (by_rules sheet).begin ks refl below clean,
          )

      pub offset_most : (i : ℕ) (offset : Offset) (count : ℕ) → get_or (places sheet ks) i Nowhere ≡ Stack offset count → offset.0 + count ≤ p_most argument_limit
      offset_most i offset count e =
          let low : stack_end (Stack offset count) ≤ 0 + p_most (length ks) = rw e at (places_low (by_rules sheet).begin ks below i) in
          omega arith

      -- So the four bytes of its record are the offset.
      pub offset_read : (i : ℕ) (offset : Offset) (count : ℕ) → get_or (places sheet ks) i Nowhere ≡ Stack offset count
          → 2 ^ 24 * (offset.0 / 2 ^ 24 % 256) + 2 ^ 16 * (offset.0 / 2 ^ 16 % 256) + 256 * (offset.0 / 256 % 256) + offset.0 % 256 ≡ offset.0
      offset_read i offset count e = four_read offset.0 (omega (arith, offset_most i offset count e))

-- So of a list that a call has placed.
module _ (s ks : List ℕ) (room n : ℕ) (p : Offset) (placed : place_by_rules argument_limit s ks room ≡ Placed n p) where
  means : Accepted argument_limit (sheet_no s) (sheet_of s).head.kinds (by_rules (sheet_of s)) ks n p
  unfolding place_by_rules
  means = accepted n p argument_limit (sheet_no s) (sheet_of s).head.kinds (by_rules (sheet_of s)) ks room placed

  -- The p that is answered is at most 31,600.
  pub answer_most : p.0 ≤ p_most argument_limit
  answer_most = rw (← means.final) (final_most (sheet_of s) (sheet_read s means.read) ks means.below means.short means.clean)

  -- No two arguments share anything.
  pub answer_apart : (i j : ℕ) → i < j → j < length ks
      → Share (get_or (places (sheet_of s) ks) i Nowhere) (get_or (places (sheet_of s) ks) j Nowhere) → ⊥
  answer_apart = rules_apart (sheet_of s) (sheet_read s means.read) ks means.below means.clean
