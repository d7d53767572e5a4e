-- What the walker's functions ask of one another; all of it is promised of a table that was read.
use Rattle.std.specs.Prelude.{ℕ, ◌+◌, ◌≤◌, ◌<◌, ◌^◌, ◌≡◌, Bool, true, cond, List, eqb, drop}
use Rattle.convention.specs.declared.Head.{Head}
use Rattle.convention.specs.declared.Shape.{Shape}
use Rattle.convention.specs.declared.Transition.{Transition}
use Rattle.convention.specs.declared.ByTable.{ByTable}
use Rattle.convention.specs.declared.Table.{Table}
use Rattle.convention.specs.Fields.{is_width, is_modulus}
use Rattle.convention.specs.Rules.{mark_run}
use Rattle.convention.specs.Lists.{fault_from}
use Rattle.convention.specs.Walked.{by_table, walk_begin}
use Rattle.convention.specs.Shapes.{p_most}
use Rattle.stepping.specs.Sets.{set_of}
use Rattle.stepping.specs.Walks.{MakeRest}
use Rattle.walking.specs.declared.TableAt.{TableAt}

-- A transition of a table that was read, for a kind of it: the width and the alignment are such as 01 allows, and where it gives registers, its run ends within the sixteen.
pub record FaultAsks (h : Head) (shape : Shape) (x : Transition) : Type 0 where
  pub wide : is_width h.width ≡ true
  pub run : x.form ≡ 1 → x.a + x.b ≤ 16
  pub aligned : is_modulus shape.alignment ≡ true

-- The most that p grows by in a step, whatever its fault: 15 bytes that are skipped, and 255 that are taken.
abbrev pub any_step_most : ℕ
any_step_most = 270

-- A transition of a table that was read, and a p that leaves room for one more argument: its residue is below the modulus.
pub record PlaceAsks (h : Head) (x : Transition) (p : ℕ) : Type 0 where
  pub residue : x.form ≡ 2 → x.a < h.modulus
  pub modulus : is_modulus h.modulus ≡ true
  pub room : p + any_step_most < 2 ^ 32

-- The definition's state that the code's stands for, its bits as flags.
abbrev pub as_table : TableAt → ByTable
as_table s = record { state = s.state; given = set_of 16 s.given; p = s.p }

-- The registers that are given once a step was taken, whatever p was.
abbrev pub given_after : Transition → List Bool → List Bool
given_after x given = cond (eqb x.form 1) (mark_run given x.a x.b) given

-- Half way through its faults, before argument i: what is left has the fault of all, from p = 0 as from any other.
pub record Faulting (table : Table) (t ks : List ℕ) (state : ℕ) (given : List Bool) (i : ℕ) : Type 0 where
  pub inside : state < table.states
  pub fault : fault_from (by_table table t) (record { state = state; given = given; p = record { 0 = 0 } }) (drop i ks)
      ≡ fault_from (by_table table t) walk_begin ks

-- Half way through a list that is placed, before argument i: a state of the table, and p no further than i arguments can take it.
pub record TableStanding (table : Table) (t ks before : List ℕ) (s : ByTable) (i : ℕ) (records : List ℕ) : Type 0 where
  pub makes : MakeRest (by_table table t) ks before s i records
  pub state : s.state < table.states
  pub reach : s.p.0 ≤ p_most i
