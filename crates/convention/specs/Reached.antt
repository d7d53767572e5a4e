-- Document 01, 'Only states that some list of kinds reaches': what a list leads to from the start. In a table these are the states to which transitions of form 1 and 2 lead from state 0 on.
use Rattle.std.specs.Prelude.{ℕ, List, ltb}
use Rattle.convention.specs.Tables.{table_of, transition}
use Rattle.convention.specs.Explored.{Automaton, Numbered, numbered, Leads}

-- Some list leads from the start to t.
abbrev pub Reached : (X : Automaton) → X.Node → Type 0
Reached X t = (ks : List ℕ) × Leads X X.start ks t

-- Where each kind leads from a state of a table: to the next state, where its form is 1 or 2.
abbrev pub table_steps : List ℕ → Numbered
table_steps t = record {
  kinds = (table_of t).head.kinds;
  goes = λ i k. ltb 0 (transition (table_of t) t i k).form;
  next = λ i k. (transition (table_of t) t i k).next;
}

-- A table's states, and where each kind leads.
abbrev pub table_states : List ℕ → Automaton
table_states t = numbered (table_steps t)
