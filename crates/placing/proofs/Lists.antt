-- One turn of the walk over a list by the rules: what is left gives the rest of the answer and of the records, p is no further than the arguments so far can
-- take it, and each kind's search may begin where its cursor says.
use Prim.Native.Nat.{ℕ, ◌+◌, ◌*◌, ◌≤◌, ◌<◌}
use mathlib.Core.Path.{◌≡◌, refl, sym, subst, ap, ◌∙◌}
use mathlib.Core.List.{List}
use native.Mathlib.Omega.{arith}
use native.Mathlib.Decide.{ℕ_discrete}
use lib.ListN.{length, get_or, set, length-set}
use lib.Seq.{get_or-set_same, get_or-set_other}
use Rattle.convention.specs.declared.ByRules.{ByRules}
use Rattle.std.specs.Prelude.{Ok, Err}
use Rattle.convention.specs.declared.Placement.{Placement}
use Rattle.convention.specs.declared.Placement.TheVariants.{Registers, Stack, Nowhere}
use Rattle.convention.specs.declared.Unplaced.TheVariants.{Faulty}
use Rattle.convention.specs.declared.Fault.TheVariants.{NoPlace}
use Rattle.convention.specs.Promised.{SheetRead}
use Rattle.convention.specs.declared.Sheet.{Sheet}
use Rattle.convention.specs.Bytes.{written}
use Rattle.convention.specs.Sheets.{sheet_kind}
use Rattle.convention.specs.Lists.{record_length, record_of}
use Rattle.convention.specs.Rules.{place_fault, by_rules}
use Rattle.convention.specs.Shapes.{p_most}
use Rattle.convention.proofs.Lists.{known}
use Rattle.stepping.specs.Walks.{WalkAsks, WalkMakes}
use Rattle.stepping.proofs.Walks.{make_on, make_hit, make_end}
use Rattle.placing.specs.declared.RulesAt.{RulesAt}
use Rattle.placing.specs.RulesSteps.{as_rules, MayBegin, StepFromAsks, StepFromIs, RulesMaking}
use Rattle.placing.proofs.Steps.{p_grows}
use Rattle.placing.proofs.Given.{begins_still}

-- A place is no fault.
placed_clean : (place : Placement) → (place ≡ Nowhere → ⊥) → place_fault place ≡ 0
placed_clean (Registers first count) z = refl
placed_clean (Stack offset count) z = refl
placed_clean Nowhere z = absurd (z refl)

module _ (sheet : Sheet) (ks before : List ℕ) where
  module _ (made : List ℕ) (s : RulesAt) (from : List ℕ) (i : ℕ) (making : RulesMaking sheet ks before (as_rules s) from i made) where
    -- After the last one.
    pub making_end : length ks ≤ i → WalkMakes (by_rules sheet) ks before (Ok s.p) made
    making_end h = make_end (by_rules sheet) ks before made (as_rules s) i making.rest h

    module _ (read : SheetRead sheet) (asks : WalkAsks sheet.head.kinds ks (length before)) (h : i < length ks) where
      -- The next argument's kind is one of the sheet's, and so of the eight.
      kind_known : get_or ks i 0 < sheet.head.kinds
      kind_known = known sheet.head.kinds ks asks.listed.known i h

      pub kind_there : get_or ks i 0 < 8
      kind_there = omega (arith, kind_known, read.head.kinds)

      -- Its step can be taken, and its record has room.
      pub next_asks : StepFromAsks sheet.head (sheet_kind sheet (get_or ks i 0)) (as_rules s) (get_or from (get_or ks i 0) 0)
      next_asks = record {
        step = record { head = read.head; kind = read.kind _ kind_known; room = omega (arith, making.reach, asks.listed.short) };
        cursor = making.cursors (get_or ks i 0) kind_there;
      }

      -- At an argument that has no place, and after one that has.
      module _ (place : Placement) (next : RulesAt) (then : ℕ)
          (step : StepFromIs sheet.head (sheet_kind sheet (get_or ks i 0)) (as_rules s) place (as_rules next) then) where
        pub making_hit : place ≡ Nowhere → WalkMakes (by_rules sheet) ks before (Err (Faulty i NoPlace)) made
        making_hit e = make_hit (by_rules sheet) ks before made (as_rules s) i making.rest made NoPlace h (ap place_fault (sym e ∙ step.step.placed)) refl

        -- A search of each kind may begin where it might before, and of this one where the step says.
        cursors_on : (k : ℕ) → k < 8 → MayBegin sheet.head (sheet_kind sheet k) (as_rules next) (get_or (set from (get_or ks i 0) then) k 0)
        cursors_on k b = begins_still sheet.head (sheet_kind sheet k) (sheet_kind sheet (get_or ks i 0)) (as_rules s) (as_rules next) step.step.reached _ here
          where
            here : MayBegin sheet.head (sheet_kind sheet k) (as_rules s) (get_or (set from (get_or ks i 0) then) k 0)
            here = elim (ℕ_discrete k (get_or ks i 0)) [
              | yes e ↦ rw (e, get_or-set_same from (get_or ks i 0) then 0 (omega (arith, making.eight, kind_there))) step.cursor
              | no e ↦ rw (get_or-set_other from (get_or ks i 0) k then 0 e) (making.cursors k b)
            ]

        pub making_on : (after : List ℕ) → (place ≡ Nowhere → ⊥) → after ≡ written made (record_length * i) (record_of place)
            → RulesMaking sheet ks before (as_rules next) (set from (get_or ks i 0) then) (i + 1) after
        making_on after z ea = record {
          rest = make_on (by_rules sheet) ks before made (as_rules s) i making.rest after (as_rules next) 0 place h asks.room
              (sym (placed_clean place z) ∙ ap place_fault step.step.placed) refl step.step.placed ea step.step.reached;
          reach =
              let Within : ByRules → Type 0 = λ s'. s'.p.0 ≤ p_most (i + 1) in
              subst Within (sym step.step.reached)
              (omega (arith, making.reach, p_grows sheet.head _ (as_rules s) read.head (read.kind _ kind_known)));
          eight = length-set from _ then ∙ making.eight;
          cursors = cursors_on;
        }
