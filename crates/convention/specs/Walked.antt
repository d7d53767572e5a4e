-- Document 01, 'Placing by a table'.
use Rattle.std.specs.Prelude.{ℕ, ◌%◌, Bool, cond, List, eqb, length}
use Rattle.convention.specs.declared.Head.{Head}
use Rattle.convention.specs.declared.Placement.{Placement}
use Rattle.convention.specs.declared.Placement.TheVariants.{Registers, Stack, Nowhere}
use Rattle.convention.specs.declared.Shape.{Shape}
use Rattle.convention.specs.declared.Table.{Table}
use Rattle.convention.specs.declared.Transition.{Transition}
use Rattle.convention.specs.declared.ByTable.{ByTable}
use Rattle.convention.specs.Answers.{PlacingAnswer}
use Rattle.convention.specs.Numbers.{or_else, unless}
use Rattle.convention.specs.Offsets.{least_offset}
use Rattle.convention.specs.Shapes.{right_count, stack_bytes}
use Rattle.convention.specs.Tables.{table_kind, transition, table_no, table_of}
use Rattle.convention.specs.Lists.{Steps, placing, placing_memory}
use Rattle.convention.specs.Rules.{free_run, place_taken, place_p, no_registers}

-- 'Form 1 gives registers. Form 2 gives the least offset, at least p, whose remainder by A is the residue.'
abbrev pub table_place : Head → Transition → ℕ → Placement
table_place h x p =
    cond (eqb x.form 1) (Registers (record { 0 = x.a }) x.b)
    (cond (eqb x.form 2) (Stack (record { 0 = least_offset h.modulus x.a p }) x.b) Nowhere)

-- 'fault 2: a register of the run was given to an earlier argument; fault 3:' a register count that is not right (document 02, W-202, in place of 01's words), 'or stack with b
-- other than the size; fault 4: stack with a residue that is no multiple of the alignment'.
abbrev pub registers_fault : Head → Shape → Transition → List Bool → ℕ
registers_fault h shape x given = or_else (unless (free_run given x.a x.b) 2) (unless (right_count h.width x.b shape) 3)

abbrev pub stack_fault : Shape → Transition → ℕ
stack_fault shape x = or_else (unless (eqb x.b (stack_bytes shape)) 3) (unless (eqb (x.a % shape.alignment) 0) 4)

-- 'A step's fault is the first that applies', fault 1 for form 0; 0 where none does.
unfoldable pub table_fault : Head → Shape → Transition → List Bool → ℕ
table_fault h shape x given = cond (eqb x.form 1) (registers_fault h shape x given) (cond (eqb x.form 2) (stack_fault shape x) 1)

-- The registers of the run are given; 'p becomes that offset + b'; the next state. Closed registers play no part.
unfoldable pub table_after : Head → Transition → ByTable → ByTable
table_after h x s = record {
  state = x.next;
  given = place_taken (table_place h x s.p.0) s.given;
  p = place_p (table_place h x s.p.0) s.p;
}

-- 'Begin in state 0 with p = 0.'
abbrev pub walk_begin : ByTable
walk_begin = record { state = 0; given = no_registers; p = record { 0 = 0 } }

-- The steps of a table; t is its bytes.
abbrev pub by_table : Table → List ℕ → Steps
by_table table t = record {
  State = ByTable;
  begin = walk_begin;
  place = λ s k. table_place table.head (transition table t s.state k) s.p.0;
  fault = λ s k. table_fault table.head (table_kind table k) (transition table t s.state k) s.given;
  after = λ s k. table_after table.head (transition table t s.state k) s;
  p = λ s. s.p;
}

-- The answer of placing by a table, and the lent memory afterwards.
unfoldable pub place_by_table : ℕ → ℕ → List ℕ → List ℕ → ℕ → PlacingAnswer
place_by_table states limit t ks room = placing limit (table_no states t) (table_of t).head.kinds (by_table (table_of t) t) ks room

unfoldable pub table_memory : ℕ → ℕ → List ℕ → List ℕ → List ℕ → List ℕ
table_memory states limit t ks out = placing_memory (place_by_table states limit t ks (length out)) (by_table (table_of t) t) ks out
