-- The sets of a table, for each state the registers that may be given there and a mark that it is reached; what the check of them finds; and what a certificate says of lists.
use Rattle.std.specs.Prelude.{ℕ, ◌+◌, ◌≤◌, ◌<◌, ◌≡◌, Bool, true, false, Option, Some, None, List, eqb, get_or}
use Rattle.std.specs.Int.Bits.{bit_and}
use Rattle.convention.specs.declared.Head.{Head}
use Rattle.convention.specs.declared.Shape.{Shape}
use Rattle.convention.specs.declared.Table.{Table}
use Rattle.convention.specs.declared.Transition.{Transition}
use Rattle.convention.specs.Tables.{table_kind, transition}
use Rattle.convention.specs.declared.ByTable.{ByTable}
use Rattle.convention.specs.Rules.{no_registers}
use Rattle.convention.specs.Lists.{Steps, fault_from, state_from, KindsBelow}
use Rattle.convention.specs.Walked.{table_fault, by_table, walk_begin}
use Rattle.stepping.specs.Sets.{set_of, Among}
use Rattle.walking.specs.TableSteps.{given_after}
use Rattle.certifying.specs.declared.checks.Checks.{Checks}

-- The mark that a state is reached, above the sixteen registers of its set, and whether a set has it.
abbrev pub reached_mark : ℕ
reached_mark = 65536

abbrev pub is_reached : ℕ → Bool
is_reached set = eqb (bit_and set reached_mark) reached_mark

-- The fault of a step by itself, before which nothing was given.
abbrev pub own_fault : Head → Shape → Transition → ℕ
own_fault h shape x = table_fault h shape x no_registers

-- A transition gives register r.
abbrev pub Gives : Transition → ℕ → Type 0
Gives x r = (x.form ≡ 1) × (x.a ≤ r) × (r < x.a + x.b)

-- A transition for a kind of this shape, from a state with the set `here` to one with the set `next`. Where the sets are closed and it has no fault by itself, the next state is
-- reached, and its set has what is given after it; where all are clean it has no fault by itself; and a register that it gives and that `here` has is found.
pub record TransitionHolds (h : Head) (shape : Shape) (x : Transition) (here next : ℕ) (c : Checks) : Type 0 where
  pub reached : c.closed ≡ true → own_fault h shape x ≡ 0 → is_reached next ≡ true
  pub among : c.closed ≡ true → own_fault h shape x ≡ 0 → Among (given_after x (set_of 16 here)) (set_of 16 next)
  pub clean : c.clean ≡ true → own_fault h shape x ≡ 0
  pub twice : (r : ℕ) → get_or (set_of 16 here) r false ≡ true → Gives x r → get_or (set_of 16 c.twice) r false ≡ true

-- Those of the kinds below n at a state with the set `here` hold.
pub record RowHolds (table : Table) (t sets : List ℕ) (state here n : ℕ) (c : Checks) : Type 0 where
  pub each : (k : ℕ) → k < n
      → TransitionHolds table.head (table_kind table k) (transition table t state k) here (get_or sets (transition table t state k).next 0) c

-- Those of a state hold, where it is reached.
pub record StateHolds (table : Table) (t sets : List ℕ) (state : ℕ) (c : Checks) : Type 0 where
  pub row : is_reached (get_or sets state 0) ≡ true → RowHolds table t sets state (get_or sets state 0) table.head.kinds c

-- What the sets of a table say: where they are closed state 0 is reached, and the transitions of every state that is reached hold.
pub record Certified (table : Table) (t sets : List ℕ) (c : Checks) : Type 0 where
  pub start : c.closed ≡ true → is_reached (get_or sets 0 0) ≡ true
  pub states : (state : ℕ) → state < table.states → StateHolds table t sets state c

-- No list of the table's kinds, of any length, has a fault in the walk by the table.
unfoldable pub NoListFaulty : Table → List ℕ → Type 0
NoListFaulty table t = (ks : List ℕ) → KindsBelow table.head.kinds ks → fault_from (by_table table t) walk_begin ks ≡ 0

-- The steps of a table, of which each has the fault that it has by itself.
abbrev pub by_itself : Table → List ℕ → Steps
by_itself table t = record {
  State = ByTable;
  begin = walk_begin;
  place = (by_table table t).place;
  fault = λ s k. own_fault table.head (table_kind table k) (transition table t s.state k);
  after = (by_table table t).after;
  p = (by_table table t).p;
}

-- After a list of the table's kinds, of any length, whose steps have no fault by themselves, no kind gives register r where the list gave it.
unfoldable pub NeverTwice : Table → List ℕ → ℕ → Type 0
NeverTwice table t r = (ks : List ℕ) (k : ℕ) → KindsBelow table.head.kinds ks → k < table.head.kinds → fault_from (by_itself table t) walk_begin ks ≡ 0
    → get_or (state_from (by_itself table t) walk_begin ks).given r false ≡ true → Gives (transition table t (state_from (by_itself table t) walk_begin ks).state k) r → ⊥

-- Each of the sixteen registers that is not in a set is never given twice.
pub record OnceBut (table : Table) (t : List ℕ) (twice : ℕ) : Type 0 where
  pub once : (r : ℕ) → r < 16 → get_or (set_of 16 twice) r false ≡ false → NeverTwice table t r

-- What a certificate says of a table.
pub record CertificateIs (table : Table) (t : List ℕ) (clean : Bool) (twice : ℕ) : Type 0 where
  pub none : clean ≡ true → NoListFaulty table t
  pub but : OnceBut table t twice

-- What `certify` answers, as a certificate: `None` is a clean table, of which no register is given twice; `Some` is the set of those that may be.
abbrev pub is_clean : Option ℕ → Bool
is_clean None = true
is_clean (Some twice) = false

abbrev pub twice_of : Option ℕ → ℕ
twice_of None = 0
twice_of (Some twice) = twice
