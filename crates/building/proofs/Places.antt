-- What the laws of built tables need to know of a place that the rules give: it is a free run, of as many registers as the kind needs and within the sheet's; or
-- the least offset, with the kind's stack bytes; or nothing. And of the flags after a step: what was unavailable stays so.
use Prim.Native.Nat.{ℕ, ◌+◌, ◌≤◌, ◌<◌}
use mathlib.Core.Path.{◌≡◌, refl, ◌∙◌}
use mathlib.Core.Bool.{Bool, true}
use mathlib.Core.List.{List}
use native.Mathlib.Omega.{arith}
use lib.ListN.{length, length-take}
use lib.Seq.{get_or-take}
use Rattle.convention.specs.declared.Head.{Head}
use Rattle.convention.specs.declared.SheetKind.{SheetKind}
use Rattle.convention.specs.declared.ByRules.{ByRules}
use Rattle.convention.specs.declared.Placement.{Placement}
use Rattle.convention.specs.declared.Placement.TheVariants.{Registers, Stack, Nowhere}
use Rattle.convention.specs.Sheets.{is_closing}
use Rattle.convention.specs.Rules.{free_run, starts_of, needed, skipped_of, start_taken, stack_offset}
use Rattle.convention.specs.Shapes.{stack_bytes}
use Rattle.convention.specs.Rules.{rules_place, place_taken, rules_after}
use Rattle.convention.specs.Promised.{SheetKindRead}
use Rattle.convention.proofs.Rules.{place_cases}
use Rattle.stepping.specs.Sets.{Among}
use Rattle.stepping.proofs.Runs.{mark_among}
use Rattle.stepping.proofs.Apart.{place_length}
use Rattle.placing.proofs.Starts.{skipped_free}
use Rattle.placing.proofs.Given.{closed_length, closed_stays}

-- The run of the start that is taken lies within the sheet's registers.
taken_fits : (h : Head) (kind : SheetKind) (taken : List Bool) → SheetKindRead h kind → skipped_of h.width kind taken < length (starts_of kind)
    → start_taken h.width kind taken + needed h.width kind ≤ h.registers
taken_fits h kind taken r l =
    let o : skipped_of h.width kind taken < kind.tries = omega (arith, rw length-take at l) in
    rw get_or-take (r.starts _ o)

-- What holds of a place that the rules give a kind in state s.
abbrev pub Gives : Head → SheetKind → ByRules → Placement → Type 0
Gives h kind s (Registers first count) =
    (free_run s.unavailable first.0 count ≡ true) × (first.0 + count ≤ h.registers) × (count ≡ needed h.width kind)
Gives h kind s (Stack offset count) = (offset.0 ≡ stack_offset kind s.p.0) × (count ≡ stack_bytes kind.shape)
Gives h kind s Nowhere = Unit {0}

-- The rules give such a place.
pub rules_give : (h : Head) (kind : SheetKind) (s : ByRules) → SheetKindRead h kind → Gives h kind s (rules_place h.width kind s)
rules_give h kind s r =
    place_cases h.width kind s.unavailable (λ at. Gives h kind s (at s.p.0)) (λ l. (skipped_free _ _ _ l, taken_fits h kind s.unavailable r l, refl))
    (λ _. (refl, refl)) (λ _. tt)

-- A place adds the same registers to both sets.
pub taken_among : (h : Head) (kind : SheetKind) (s : ByRules) (place : Placement) (taken : List Bool) → Gives h kind s place
    → h.registers ≤ length s.unavailable → Among taken s.unavailable → Among (place_taken place taken) (place_taken place s.unavailable)
taken_among h kind s (Registers first count) taken g n within = mark_among taken s.unavailable first.0 count within (omega arith)
taken_among h kind s (Stack offset count) taken g n within = within
taken_among h kind s Nowhere taken g n within = within

-- After a step.
module _ (w : ℕ) (kind : SheetKind) (s : ByRules) where
  -- The registers of its place are unavailable, and those that were.
  pub after_among : Among (place_taken (rules_place w kind s) s.unavailable) (rules_after w kind s).unavailable
  unfolding rules_after
  after_among r e = closed_stays (is_closing kind) _ _ _ r e

  -- There are as many registers as before.
  pub after_length_lem : length (rules_after w kind s).unavailable ≡ length s.unavailable
  unfolding rules_after
  after_length_lem = closed_length (is_closing kind) _ _ _ ∙ place_length (rules_place w kind s) s.unavailable
