-- What the table's functions ask of their callers, and promise one another.
use Rattle.std.specs.Prelude.{ℕ, ◌+◌, ◌*◌, ◌≤◌, ◌<◌, ◌≡◌, List, length}
use Rattle.convention.specs.declared.Head.{Head}
use Rattle.convention.specs.declared.Table.{Table}
use Rattle.convention.specs.declared.Transition.{Transition}
use Rattle.convention.specs.Layout.{states_at, transition_length, transition_at}

-- A table's bytes t hold as many kinds as its head says.
pub record KindsThere (v : ℕ) (h : Head) (t : List ℕ) : Type 0 where
  pub count : h.kinds ≤ 8
  pub within : states_at v h ≤ length t

-- Of `count` transitions from byte `first` on, a table's bytes t hold so many; the bytes of the next one, if there are more, are not all there.
pub record TransitionsThere (v : ℕ) (t : List ℕ) (first count there : ℕ) : Type 0 where
  pub most : there ≤ count
  pub within : first + transition_length v * there ≤ length t
  pub missing : there < count → length t < first + transition_length v * there + transition_length v

-- A table's bytes t hold the transition of kind k at state s.
pub record TransitionThere (v : ℕ) (h : Head) (t : List ℕ) (s k : ℕ) : Type 0 where
  pub within : transition_at v h s k + transition_length v ≤ length t

-- A state and a kind that a table has.
pub record InTable (table : Table) (s k : ℕ) : Type 0 where
  pub state : s < table.states
  pub kind : k < table.head.kinds

-- A transition of a table that was read: registers that there are, a remainder by the modulus, and a next state that the table has.
pub record TransitionRead (h : Head) (states : ℕ) (x : Transition) : Type 0 where
  pub run : x.form ≡ 1 → x.a + x.b ≤ h.registers
  pub residue : x.form ≡ 2 → x.a < h.modulus
  pub next : x.next < states
