-- A built table has no fault but 1, since the rules have none; and none at all where each kind may use the stack, which always has a place.
use Prim.Native.Nat.{ℕ, ◌≤◌, ◌<◌}
use mathlib.Core.Path.{◌≡◌, sym, ◌∙◌}
use mathlib.Core.Bool.{true, true≢false}
use mathlib.Core.List.{List}
use native.Mathlib.Omega.{arith}
use lib.ListN.{length}
use Rattle.convention.specs.declared.Sheet.{Sheet}
use Rattle.convention.specs.declared.SheetKind.{SheetKind}
use Rattle.convention.specs.declared.ByRules.{ByRules}
use Rattle.convention.specs.declared.Placement.{Placement}
use Rattle.convention.specs.declared.Placement.TheVariants.{Registers, Stack, Nowhere}
use Rattle.convention.specs.Sheets.{may_use_stack, sheet_kind}
use Rattle.convention.specs.Lists.{KindsBelow}
use Rattle.convention.specs.Rules.{place_fault, rules_place, by_rules}
use Rattle.convention.specs.Judged.{list_fault, FaultyList, CleanTable}
use Rattle.convention.specs.Built.{built_states, built_table}
use Rattle.convention.specs.Promised.{SheetRead}
use Rattle.convention.proofs.Lists.{faults_keep}
use Rattle.convention.proofs.Rules.{place_cases}
use Rattle.building.proofs.Readable.{built_head}
use Rattle.building.proofs.Agreement.{agree_fault}

-- A step's fault by the rules is at most 1, and 0 where the kind may use the stack.
place_most : (place : Placement) → place_fault place ≤ 1
place_most (Registers first count) = omega arith
place_most (Stack offset count) = omega arith
place_most Nowhere = omega arith

stack_placed : (w : ℕ) (kind : SheetKind) (s : ByRules) → may_use_stack kind ≡ true → place_fault (rules_place w kind s) ≤ 0
stack_placed w kind s u =
    place_cases w kind s.unavailable (λ at. place_fault (at s.p.0) ≤ 0) (λ _. omega arith) (λ _. omega arith) (λ f. absurd (true≢false (sym u ∙ f)))

module _ (limit : ℕ) (sheet : Sheet) (R : SheetRead sheet) (whole : length (built_states limit sheet) ≤ limit) where
  -- Every list's fault is 0 or 1.
  pub only_fault_one : (ks : List ℕ) → KindsBelow sheet.head.kinds ks → list_fault (built_table limit sheet) ks ≤ 1
  only_fault_one ks below =
      rw (agree_fault limit sheet R whole ks below)
      (faults_keep (by_rules sheet) (λ f. f ≤ 1) sheet.head.kinds (omega arith) (λ s k b. place_most ((by_rules sheet).place s k)) (by_rules sheet).begin ks below)

  -- No list goes wrong where every kind may use the stack.
  pub clean_if_stack : ((k : ℕ) → k < sheet.head.kinds → may_use_stack (sheet_kind sheet k) ≡ true) → CleanTable (built_table limit sheet)
  unfolding CleanTable FaultyList
  clean_if_stack stack ks faulty =
      let below : KindsBelow sheet.head.kinds ks = rw (built_head _ sheet (built_states limit sheet)) at faulty.0 in
      let none = faults_keep (by_rules sheet) (λ f. f ≤ 0) sheet.head.kinds (omega arith) (λ s k b. stack_placed _ _ s (stack k b)) (by_rules sheet).begin ks below in
      omega (arith, faulty.1, agree_fault limit sheet R whole ks below, none)
