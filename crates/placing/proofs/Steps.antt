-- Laws of one step, on plain values: what its parts ask, and how the place and what comes after it are put together from what each part answers.
use Prim.Native.Nat.{ℕ, ◌+◌, ◌≤◌, ◌<◌}
use mathlib.Core.Path.{◌≡◌, refl, sym, ◌∙◌}
use mathlib.Core.Bool.{Bool, true, false, cond}
use native.Mathlib.Omega.{arith}
use native.Mathlib.Nat.{le_refl}
use Rattle.std.specs.Prelude.{Option}
use lib.Dec.{ltb, leb}
use lib.Bits.{bit_or}
use lib.ListN.{length, get_or, take}
use lib.Seq.{length-take-le, get_or-take, take-take}
use borrow.Author.Tests.{ltb-true, leb-true, lt-ltb, le-ltb}
use Rattle.convention.specs.declared.Head.{Head}
use Rattle.convention.specs.declared.Offset.{Offset}
use Rattle.convention.specs.declared.SheetKind.{SheetKind}
use Rattle.convention.specs.declared.Placement.{Placement}
use Rattle.convention.specs.declared.Placement.TheVariants.{Registers, Stack, Nowhere}
use Rattle.convention.specs.declared.ByRules.{ByRules}
use Rattle.convention.specs.Offsets.{least_offset}
use Rattle.convention.specs.Sheets.{may_use_stack}
use Rattle.convention.specs.Shapes.{stack_bytes, step_most}
use Rattle.convention.specs.Promised.{HeadRead, SheetKindRead}
use Rattle.convention.specs.Rules.{skipped_before, skipped_of, starts_of, needed, start_taken, stack_offset, rules_place, place_taken, place_p, rules_after}
use Rattle.convention.proofs.Rules.{place_cases}
use Rattle.convention.proofs.Shapes.{stack_most}
use Rattle.convention.proofs.Offsets.{least_lt, modulus_pos, modulus_most}
use Rattle.stepping.specs.Ends.{run_end, stack_end}
use Rattle.stepping.specs.Sets.{set_of}
use Rattle.placing.specs.declared.RulesAt.{RulesAt}
use Rattle.placing.specs.RulesSteps.{as_rules, RunsWithin, SearchIs, skipped_by, place_found, AfterAsks, AfterIs, state_after, CursorIs, RulesStepAsks, MayBegin, StepFromIs}
use Rattle.placing.proofs.Starts.{skipped_le}

module _ (h : Head) (k : SheetKind) (head : HeadRead h) (kind : SheetKindRead h k) where
  -- The starts that are tried are there, and their runs lie within the sixteen.
  tries_there : k.tries ≤ length k.starts
  tries_there = omega (arith, kind.tries, kind.sixteen)

  starts_count : length (starts_of k) ≡ k.tries
  starts_count = length-take-le k.tries k.starts tries_there

  runs_within : (count : ℕ) → count ≡ needed h.width k → RunsWithin k.starts k.tries count
  runs_within count e = record { there = tries_there; within = λ i l. rw e (omega (arith, kind.starts i l, head.registers)) }

  -- An alignment is not 0.
  pub aligned : 0 < k.shape.alignment
  aligned = modulus_pos k.shape.alignment kind.shape.alignment

  -- The place's run lies within the sixteen, and its stack bytes end at most `step_most` after p.
  pub run_ends : (s : ByRules) (place : Placement) → place ≡ rules_place h.width k s → run_end place ≤ 16
  run_ends s place e = rw e (place_cases h.width k s.unavailable (λ at. run_end (at s.p.0) ≤ 16) registers (λ _. omega arith) (λ _. omega arith))
    where
      registers : skipped_of h.width k s.unavailable < length (starts_of k) → start_taken h.width k s.unavailable + needed h.width k ≤ 16
      registers l =
          let tried : skipped_of h.width k s.unavailable < k.tries = omega (arith, starts_count) in
          rw (get_or-take k.tries k.starts _ 0 tried) ((runs_within _ refl).within _ tried)

  pub stack_end_lem : (s : ByRules) → stack_end (rules_place h.width k s) ≤ s.p.0 + step_most
  stack_end_lem s = place_cases h.width k s.unavailable (λ at. stack_end (at s.p.0) ≤ s.p.0 + step_most) (λ l. omega arith) (λ _. stack) (λ _. omega arith)
    where
      stack : stack_offset k s.p.0 + stack_bytes k.shape ≤ s.p.0 + step_most
      stack = omega (arith, stack_most h k.shape kind.shape, modulus_most k.shape.alignment kind.shape.alignment, least_lt k.shape.alignment 0 s.p.0 aligned)

-- The place: registers, stack or nowhere, by which start was found and whether the stack is allowed.
module _ (k : SheetKind) (count : ℕ) (p : Offset) where
  pub found_registers : (i : ℕ) → i < k.tries → Registers (record { 0 = get_or k.starts i 0 }) count ≡ place_found k count i p
  unfolding place_found
  found_registers i l = rw (lt-ltb i k.tries l)

  pub found_stack : (may : Bool) (offset : Offset) (bytes : ℕ) → may ≡ may_use_stack k → may ≡ true → offset.0 ≡ least_offset k.shape.alignment 0 p.0
      → bytes ≡ stack_bytes k.shape → Stack offset bytes ≡ place_found k count k.tries p
  unfolding place_found
  found_stack may offset bytes em allowed e eb = rw (le-ltb k.tries k.tries (le_refl k.tries), ← em, allowed, ← e, eb)

  pub found_nowhere : (may : Bool) → may ≡ may_use_stack k → may ≡ false → Nowhere ≡ place_found k count k.tries p
  unfolding place_found
  found_nowhere may em barred = rw (le-ltb k.tries k.tries (le_refl k.tries), ← em, barred)

-- One step: once the starts were searched what the place is, what comes after it, and both together.
module _ (h : Head) (k : SheetKind) (s : RulesAt) (asks : RulesStepAsks h k (as_rules s)) where
  module _ (from count : ℕ) (found : Option ℕ) (passed : ℕ) (ec : count ≡ needed h.width k) (searched : SearchIs s.unavailable k.starts from k.tries count found passed)
      (place : Placement) (ep : place ≡ place_found k count (skipped_by k.tries found) s.p) where
    abbrev skipped : ℕ
    skipped = skipped_by k.tries found

    count_starts : length (starts_of k) ≡ k.tries
    count_starts = starts_count h k asks.head asks.kind

    es : skipped ≡ skipped_before (set_of 16 s.unavailable) count (starts_of k)
    es = searched.skips

    tried : skipped ≤ k.tries
    tried = omega (arith, es, count_starts, skipped_le (set_of 16 s.unavailable) count (starts_of k))

    placed : place ≡ rules_place h.width k (as_rules s)
    unfolding rules_place place_found
    placed = ep ∙ rw (← ec, ← es, count_starts) (go (ltb skipped k.tries) refl _)
      where
        go : (found : Bool) → ltb skipped k.tries ≡ found → (other : Placement)
            → cond found (Registers (record { 0 = get_or k.starts skipped 0 }) count) other ≡ cond found (Registers (record { 0 = get_or (starts_of k) skipped 0 }) count) other
        go true e other = rw (get_or-take k.tries k.starts skipped 0 (ltb-true _ _ e))
        go false e other = refl

    pub after_asks : AfterAsks place
    after_asks = record {
      run = run_ends h k asks.head asks.kind (as_rules s) place placed;
      stack = rw placed (omega (arith, asks.room, stack_end_lem h k asks.head asks.kind (as_rules s)));
    }

    pub step_is : MayBegin h k (as_rules s) from → (next : ByRules) → AfterIs k.flags passed place (as_rules s) next
        → (then : ℕ) → CursorIs k.flags skipped then → StepFromIs h k (as_rules s) place next then
    unfolding rules_after state_after
    step_is cursor next after then is = record {
      step = record {
        placed = placed;
        reached = after.state count (take skipped k.starts) (λ l. searched.passes (cursor.closes l))
            ∙ rw (← placed, ← ec, ← es, take-take skipped k.tries k.starts tried);
      };
      cursor = record { low = omega (arith, rw (es, ec) at is.low); closes = is.closes };
    }

-- What comes after a place: what it takes, and the registers that were passed too where the kind closes.
module _ (flags passed : ℕ) (place : Placement) (s : RulesAt) (taken : ℕ) (p : Offset)
    (et : set_of 16 taken ≡ place_taken place (set_of 16 s.unavailable)) (ep : p ≡ place_p place s.p) where
  pub after_open : (closing : Bool) → closing ≡ leb 2 flags → closing ≡ false → AfterIs flags passed place (as_rules s) (as_rules (record { unavailable = taken; p = p }))
  unfolding state_after
  after_open closing e not = record { state = λ count skipped marks. rw (← e, not, et, ep) }

  pub after_closed : (closing : Bool) → closing ≡ leb 2 flags → closing ≡ true → AfterIs flags passed place (as_rules s) (as_rules (record { unavailable = bit_or taken passed; p = p }))
  unfolding state_after
  after_closed closing e closed =
      let h : 2 ≤ flags = leb-true 2 flags (sym e ∙ closed) in
      record { state = λ count skipped marks. rw (← e, closed, ← marks h taken, et, ep) }

-- p grows by at most `step_most`.
pub p_grows : (h : Head) (k : SheetKind) (s : ByRules) → HeadRead h → SheetKindRead h k
    → (rules_after h.width k s).p.0 ≤ s.p.0 + step_most
unfolding rules_after
p_grows h k s head kind = grows (rules_place h.width k s) (stack_end_lem h k head kind s)
  where
    grows : (place : Placement) → stack_end place ≤ s.p.0 + step_most → (place_p place s.p).0 ≤ s.p.0 + step_most
    grows (Registers first count) l = omega arith
    grows (Stack offset count) l = l
    grows Nowhere l = omega arith
