-- What is known of a table that was read: of its transition of a kind at a state, both of which it has, and of the kind. Whoever stands above the reader takes it from here.
use Prim.Native.Nat.{ℕ, ◌+◌, ◌≤◌, ◌<◌, ◌∣◌}
use mathlib.Core.Path.{◌≡◌}
use mathlib.Core.List.{List}
use native.Mathlib.Nat.{le_trans}
use Rattle.convention.specs.declared.Table.{Table}
use Rattle.convention.specs.declared.Transition.{Transition}
use Rattle.convention.specs.Tables.{table_kind, transition}
use Rattle.convention.specs.Promised.{TableRead}
use Rattle.convention.proofs.Offsets.{divides}
use Rattle.convention.proofs.Tables.{transition_registers, transition_residue, transition_next}

module _ (limit : ℕ) (table : Table) (t : List ℕ) (read : TableRead limit table t) (k : ℕ) (below : k < table.head.kinds) where
  -- The kind's alignment divides A.
  pub known_divides : (table_kind table k).alignment ∣ table.head.modulus
  known_divides = divides (table_kind table k).alignment table.head.modulus (read.kind k below).alignment read.head.modulus (read.kind k below).within

  -- The run ends within the registers, the residue is below A, and the next state is one of the table's.
  module _ (state : ℕ) (known : state < table.states) where
    abbrev x : Transition
    x = transition table t state k

    pub known_run : (transition table t state k).form ≡ 1 → (transition table t state k).a + (transition table t state k).b ≤ table.head.registers
    known_run = transition_registers table.head table.states x (read.transition state k known below)

    pub known_sixteen : (transition table t state k).form ≡ 1 → (transition table t state k).a + (transition table t state k).b ≤ 16
    known_sixteen f = le_trans (known_run f) read.head.registers

    pub known_residue : (transition table t state k).form ≡ 2 → (transition table t state k).a < table.head.modulus
    known_residue = transition_residue table.head table.states x (read.transition state k known below)

    pub known_next : (transition table t state k).next < table.states
    known_next = transition_next table.head table.states x (read.transition state k known below) read.some
