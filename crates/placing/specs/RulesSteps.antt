-- What the functions of placing by the rules ask and promise of one another.
use Rattle.std.specs.Prelude.{ℕ, Option, Some, None, ◌+◌, ◌%◌, ◌≤◌, ◌<◌, ◌^◌, ◌≡◌, true, cond, List, ltb, leb, eqb, length, get_or, take, drop}
use Rattle.std.specs.Int.Bits.{bit_or}
use Rattle.std.specs.Option.{unwrap_or}
use Rattle.convention.specs.declared.Head.{Head}
use Rattle.convention.specs.declared.Offset.{Offset}
use Rattle.convention.specs.declared.SheetKind.{SheetKind}
use Rattle.convention.specs.declared.Placement.{Placement}
use Rattle.convention.specs.declared.Placement.TheVariants.{Registers, Stack, Nowhere}
use Rattle.convention.specs.declared.Sheet.{Sheet}
use Rattle.convention.specs.declared.ByRules.{ByRules}
use Rattle.convention.specs.Fields.{is_modulus}
use Rattle.convention.specs.Offsets.{least_offset}
use Rattle.convention.specs.Promised.{HeadRead, SheetKindRead}
use Rattle.convention.specs.Sheets.{sheet_kind}
use Rattle.convention.specs.Rules.{skipped_before, skipped_of, mark_runs, place_taken, place_p, rules_place, rules_after, by_rules}
use Rattle.convention.specs.Shapes.{stack_bytes, step_most, p_most}
use Rattle.stepping.specs.Ends.{run_end, stack_end}
use Rattle.stepping.specs.Sets.{set_of}
use Rattle.stepping.specs.Walks.{MakeRest}
use Rattle.placing.specs.declared.RulesAt.{RulesAt}

-- The definitions' state that the code's stands for: its unavailable registers as flags.
abbrev pub as_rules : RulesAt → ByRules
as_rules s = record { unavailable = set_of 16 s.unavailable; p = s.p }

-- The run of `count` registers of each of the first `tries` starts lies within the sixteen.
pub record RunsWithin (starts : List ℕ) (tries count : ℕ) : Type 0 where
  pub there : tries ≤ length starts
  pub within : (i : ℕ) → i < tries → get_or starts i 0 + count ≤ 16

-- The number of a set that holds the registers of the runs of these starts, and no other: adding it marks the runs, whatever was marked before.
abbrev pub Marks : ℕ → List ℕ → ℕ → Type 0
Marks count starts set = (b : ℕ) → mark_runs (set_of 16 b) count starts ≡ set_of 16 (bit_or b set)

-- A search of the first `tries` starts that begins at start `from`: those before it are skipped.
pub record SearchAsks (taken : ℕ) (starts : List ℕ) (from tries count : ℕ) : Type 0 where
  pub runs : RunsWithin starts tries count
  pub skips : from ≤ skipped_before (set_of 16 taken) count (take tries starts)

-- How many starts were skipped, those before the one that was found; all, where none was.
abbrev pub skipped_by : ℕ → Option ℕ → ℕ
skipped_by tries found = unwrap_or found tries

-- The one that was found is among those that were tried.
abbrev pub FoundIn : ℕ → Option ℕ → Type 0
FoundIn tries None = Unit {0}
FoundIn tries (Some i) = i < tries

-- What it found: how many were skipped, and the registers of their runs where it began at the first start.
pub record SearchIs (taken : ℕ) (starts : List ℕ) (from tries count : ℕ) (found : Option ℕ) (passed : ℕ) : Type 0 where
  pub within : FoundIn tries found
  pub skips : skipped_by tries found ≡ skipped_before (set_of 16 taken) count (take tries starts)
  pub passes : from ≡ 0 → Marks count (take (skipped_by tries found) starts) passed

-- Half way through it, before start i.
pub record Searching (taken : ℕ) (starts : List ℕ) (from tries count i passed : ℕ) : Type 0 where
  pub within : i ≤ tries
  pub skips : i + skipped_before (set_of 16 taken) count (drop i (take tries starts)) ≡ skipped_before (set_of 16 taken) count (take tries starts)
  pub passes : from ≡ 0 → Marks count (take i starts) passed

-- A place: an alignment that was read, the starts that are tried, with the one that was found, and room on the stack.
pub record PlaceAsks (k : SheetKind) (found : Option ℕ) (p : Offset) : Type 0 where
  pub aligned : is_modulus k.shape.alignment ≡ true
  pub there : k.tries ≤ length k.starts
  pub within : FoundIn k.tries found
  pub room : p.0 + step_most < 2 ^ 32

-- Rules 1, 2 and 3, of a kind whose search skipped so many starts: registers where one is left, otherwise stack if it is allowed, otherwise no place.
unfoldable pub place_found : SheetKind → ℕ → ℕ → Offset → Placement
place_found k count skipped p =
    cond (ltb skipped k.tries) (Registers (record { 0 = get_or k.starts skipped 0 }) count)
    (cond (eqb (k.flags % 2) 1) (Stack (record { 0 = least_offset k.shape.alignment 0 p.0 }) (stack_bytes k.shape)) Nowhere)

-- What comes after a place: its run lies within the sixteen, and its stack bytes end at an offset.
pub record AfterAsks (place : Placement) : Type 0 where
  pub run : run_end place ≤ 16
  pub stack : stack_end place < 2 ^ 32

-- Rule 4: what the place takes, and where the kind is closing the runs of the starts that were skipped too.
unfoldable pub state_after : ℕ → ℕ → List ℕ → Placement → ByRules → ByRules
state_after flags count skipped place s = record {
  unavailable = cond (leb 2 flags) (mark_runs (place_taken place s.unavailable) count skipped) (place_taken place s.unavailable);
  p = place_p place s.p;
}

-- The state after a place, whatever starts it was whose runs were passed; a kind that is not closing takes none of their registers.
pub record AfterIs (flags passed : ℕ) (place : Placement) (s next : ByRules) : Type 0 where
  pub state : (count : ℕ) (skipped : List ℕ) → (2 ≤ flags → Marks count skipped passed) → next ≡ state_after flags count skipped place s

-- Where a search may begin: after no more starts than are skipped, and at the first where the kind is closing.
pub record CursorIs (flags skipped from : ℕ) : Type 0 where
  pub low : from ≤ skipped
  pub closes : 2 ≤ flags → from ≡ 0

-- One step: a head and a kind that were read, and room on the stack.
pub record RulesStepAsks (h : Head) (k : SheetKind) (s : ByRules) : Type 0 where
  pub head : HeadRead h
  pub kind : SheetKindRead h k
  pub room : s.p.0 + step_most < 2 ^ 32

-- What a step answers: the place, and how far placing has come after it.
pub record RulesStepIs (h : Head) (k : SheetKind) (s : ByRules) (place : Placement) (next : ByRules) : Type 0 where
  pub placed : place ≡ rules_place h.width k s
  pub reached : next ≡ rules_after h.width k s

-- The same of a kind's search in a state.
abbrev pub MayBegin : Head → SheetKind → ByRules → ℕ → Type 0
MayBegin h k s from = CursorIs k.flags (skipped_of h.width k s.unavailable) from

-- One step whose search begins there.
pub record StepFromAsks (h : Head) (k : SheetKind) (s : ByRules) (from : ℕ) : Type 0 where
  pub step : RulesStepAsks h k s
  pub cursor : MayBegin h k s from

-- What it answers: that step, and where a search may begin.
pub record StepFromIs (h : Head) (k : SheetKind) (s : ByRules) (place : Placement) (next : ByRules) (from : ℕ) : Type 0 where
  pub step : RulesStepIs h k s place next
  pub cursor : MayBegin h k s from

-- Half way through a list, before argument i: what is left gives the rest of the answer and of the records, p is no further than i arguments can take it, and
-- each kind's search may begin where `from` says.
pub record RulesMaking (sheet : Sheet) (ks before : List ℕ) (s : ByRules) (from : List ℕ) (i : ℕ) (made : List ℕ) : Type 0 where
  pub rest : MakeRest (by_rules sheet) ks before s i made
  pub reach : s.p.0 ≤ p_most i
  pub eight : length from ≡ 8
  pub cursors : (k : ℕ) → k < 8 → MayBegin sheet.head (sheet_kind sheet k) s (get_or from k 0)
