-- What the search for a faulty list walks. No part of document 01's meaning: proofs/ ties it to the walk by a table.
-- The last step of a shortest faulty list fails because of one register at most, so nothing is watched, or one register at a time: a node is a state and
-- whether what is watched was given, and a step that is faulty as far as that tells leads nowhere.
use Rattle.std.specs.Prelude.{ℕ, ◌+◌, ◌*◌, ◌/◌, ◌%◌, ◌<◌, ◌≡◌, Bool, false, not, cond, ◌&&◌, ◌||◌, List, [], ◌∷◌, ◌++◌, ltb, leb, eqb, length, Option, Some, None}
use Rattle.convention.specs.declared.Head.{Head}
use Rattle.convention.specs.declared.Reg.{Reg}
use Rattle.convention.specs.declared.Shape.{Shape}
use Rattle.convention.specs.declared.Table.{Table}
use Rattle.convention.specs.declared.Transition.{Transition}
use Rattle.convention.specs.Numbers.{or_else, unless}
use Rattle.convention.specs.Tables.{table_kind, transition}
use Rattle.convention.specs.Rules.{no_registers}
use Rattle.convention.specs.Walked.{table_fault}
use Rattle.convention.specs.Orders.{NotAfter}
use Rattle.stepping.specs.Sets.{run_bits}
use Rattle.convention.specs.Explored.{Automaton, Numbered, numbered, Entry, entry, met, path}

-- What a walk watches: a register, or nothing.
abbrev pub Watch : Type 0
Watch = Option Reg

-- A state and a flag as one number, and the two again.
abbrev pub node_of : ℕ → Bool → ℕ
node_of state flag = 2 * state + cond flag 1 0

abbrev pub node_state : ℕ → ℕ
node_state node = node / 2

abbrev pub node_flag : ℕ → Bool
node_flag node = eqb (node % 2) 1

-- Whether r is a register of the run of `count` from `first` on.
abbrev pub covers : ℕ → ℕ → Reg → Bool
covers first count r = leb first r.0 && ltb r.0 (first + count)

-- What is watched as the number of a set of registers.
unfoldable pub watched_bits : Watch → ℕ
watched_bits (Some r) = run_bits r.0 1
watched_bits None = 0

-- Whether a transition gives what is watched: a register of its run. Where nothing is watched it never does.
unfoldable pub gives_watched : Transition → Watch → Bool
gives_watched x (Some r) = eqb x.form 1 && covers x.a x.b r
gives_watched x None = false

-- The fault of a step as far as what is watched tells: 2 where that is given once more, and else that of a step before which nothing was given.
unfoldable pub watched_fault : Head → Shape → Transition → Bool → ℕ
watched_fault h kind x again = or_else (unless (not again) 2) (table_fault h kind x no_registers)

-- The fault of kind k from a node, and where it leads: after the step what is watched is given where it was before, or where the step gives it.
unfoldable pub node_fault : Table → List ℕ → Watch → ℕ → ℕ → ℕ
node_fault table t watch node k =
    let x = transition table t (node_state node) k in
    watched_fault table.head (table_kind table k) x (node_flag node && gives_watched x watch)

unfoldable pub node_after : Table → List ℕ → Watch → ℕ → ℕ → ℕ
node_after table t watch node k =
    let x = transition table t (node_state node) k in
    node_of x.next (node_flag node || gives_watched x watch)

-- The watched walk: state 0, with nothing given, first.
abbrev pub watched_steps : Table → List ℕ → Watch → Numbered
watched_steps table t watch = record { kinds = table.head.kinds; goes = λ node k. eqb (node_fault table t watch node k) 0; next = node_after table t watch }

abbrev pub watched : Table → List ℕ → Watch → Automaton
watched table t watch = numbered (watched_steps table t watch)

-- How many nodes there are, and the entries of a whole scan.
abbrev pub nodes : Table → ℕ
nodes table = 2 * table.states

abbrev pub scan : (table : Table) (t : List ℕ) (watch : Watch) → List (Entry (watched table t watch))
scan table t watch = met (watched table t watch) (nodes table)

-- Entry i and kind k hit: k is faulty there.
pub record Hit (table : Table) (t : List ℕ) (watch : Watch) (i k : ℕ) : Type 0 where
  pub inside : i < length (scan table t watch)
  pub below : k < table.head.kinds
  pub faulty : 0 < node_fault table t watch (entry (watched table t watch) (scan table t watch) i).node k

-- The first hit of the scan, entries upward, and at each the kinds in order.
pub record FirstHit (table : Table) (t : List ℕ) (watch : Watch) (i k : ℕ) : Type 0 where
  pub hit : Hit table t watch i k
  pub earlier : (j q : ℕ) → j < i → Hit table t watch j q → ⊥
  pub lower : (q : ℕ) → q < k → Hit table t watch i q → ⊥

-- No entry and kind hit.
abbrev pub NoHit : Table → List ℕ → Watch → Type 0
NoHit table t watch = (i k : ℕ) → Hit table t watch i k → ⊥

-- The list of a hit: the entry's path, and then the kind.
abbrev pub hit_list : Table → List ℕ → Watch → ℕ → ℕ → List ℕ
hit_list table t watch i k = path (watched table t watch) (scan table t watch) i ++ k ∷ []

-- Nothing is watched, or a register below `up_to`.
unfoldable pub WatchedBelow : ℕ → Watch → Type 0
WatchedBelow up_to (Some r) = r.0 < up_to
WatchedBelow up_to None = Unit {0}

-- Of the walks that watch nothing, or a register below `up_to`, none hits.
abbrev pub NoHitBelow : Table → List ℕ → ℕ → Type 0
NoHitBelow table t up_to = (watch : Watch) → WatchedBelow up_to watch → NoHit table t watch

-- A hit's list, and not after any hit's list of those walks.
pub record LeastBelow (table : Table) (t : List ℕ) (up_to : ℕ) (ks : List ℕ) : Type 0 where
  pub found : (watch : Watch) × (i k : ℕ) × Hit table t watch i k × (ks ≡ hit_list table t watch i k)
  pub least : (watch : Watch) → WatchedBelow up_to watch
      → (i k : ℕ) → Hit table t watch i k → NotAfter ks (hit_list table t watch i k)
