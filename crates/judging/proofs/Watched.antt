-- Why it is enough to watch nothing, and one register at a time. While the walk by a table has no fault, every watched walk is at the same state and
-- knows whether what it watches was given; a step without a fault has none in any watched walk, and a step with one has one in some watched walk.
use Prim.Native.Nat.{ℕ, ◌+◌, ◌*◌, ◌%◌, ◌≤◌, ◌<◌}
use native.Mathlib.Nat.{eq-zero-or-pos}
use native.Mathlib.Omega.{arith}
use mathlib.Core.Path.{◌≡◌, refl, sym, ap, ◌∙◌}
use mathlib.Core.Logic.{inl, inr}
use mathlib.Core.Bool.{Bool, true, false, ◌&&◌, ◌||◌, and-false, or-false, false≢true}
use mathlib.Core.List.{List, [], ◌∷◌, ◌++◌}
use lib.Dec.{eqb, lit<}
use lib.ListN.{length, get_or}
use borrow.Author.Tests.{eqb-true, eq-eqb, ne_eqb}
use Rattle.convention.specs.declared.Head.{Head}
use Rattle.convention.specs.declared.Shape.{Shape}
use Rattle.convention.specs.declared.Table.{Table}
use Rattle.convention.specs.declared.Transition.{Transition}
use Rattle.convention.specs.declared.ByTable.{ByTable}
use Rattle.convention.specs.Numbers.{unless}
use Rattle.convention.specs.Tables.{table_kind, transition}
use Rattle.convention.specs.Rules.{free_run, no_registers}
use Rattle.convention.specs.Lists.{fault_from, state_from, KindsBelow}
use Rattle.convention.specs.Walked.{table_fault, table_after, by_table}
use Rattle.convention.specs.Explored.{met, Leads}
use Rattle.convention.specs.Scanned.{Tree, Scanned}
use Rattle.convention.specs.Promised.{TableRead}
use Rattle.convention.proofs.Numbers.{or_zero, unless_zero}
use Rattle.convention.proofs.Promised.{known_run, known_next}
use Rattle.convention.proofs.Runs.{either, free_some, none_taken}
use Rattle.convention.proofs.Walked.{step_gives}
use Rattle.convention.proofs.Lists.{holds_along, below_snoc}
use Rattle.convention.proofs.Leading.{leads_unique, leads_below}
use Rattle.convention.proofs.Scanning.{met_scanned}
use Rattle.convention.proofs.Numbered.{numbered_decides, Bounded, entries_few}
use Rattle.walking.proofs.Given.{Walking, begin_walking, step_walking}
use Rattle.judging.specs.Watched.{Watch}
use Rattle.std.specs.Prelude.{Some, None}
use Rattle.judging.specs.Watched.{node_of, node_state, node_flag, gives_watched, watched_fault}
use Rattle.judging.specs.Watched.{node_fault, node_after, watched_steps, watched, nodes, WatchedBelow}
use Rattle.judging.proofs.Runs.{free_watched, in_run, mark_at}
use Rattle.judging.proofs.Fronts.{snoc_faulty}

-- ---- one step

-- Before the first argument every run is free.
all_free : (first count : ℕ) → free_run no_registers first count ≡ true
all_free first count = elim (either (free_run no_registers first count)) [
  | inl e ↦ e
  | inr e ↦ let (r, _, _, given) = free_some no_registers first count e in absurd (false≢true (sym (none_taken 16 r) ∙ given))
]

-- Whether what is watched is among the given registers.
abbrev pub among_given : List Bool → Watch → Bool
among_given given (Some r) = get_or given r.0 false
among_given given None = false

module _ (h : Head) (shape : Shape) (x : Transition) (given : List Bool) where
  -- A step without a fault gives nothing that is watched once more, and has none where nothing was given,
  gives_new : (watch : Watch) → table_fault h shape x given ≡ 0 → among_given given watch && gives_watched x watch ≡ false
  unfolding table_fault gives_watched
  gives_new None e = refl
  gives_new (Some r) e = elim (either (eqb x.form 1)) [
    | inl f ↦ rw f (free_watched given x.a x.b (unless_zero _ 2 (lit< tt) (or_zero _ _ (rw f at e)).0) r)
    | inr f ↦ rw (f, and-false)
  ]

  clean_first : table_fault h shape x given ≡ 0 → table_fault h shape x no_registers ≡ 0
  unfolding table_fault
  clean_first e = elim (either (eqb x.form 1)) [
    | inl f ↦ rw (f, all_free x.a x.b) (or_zero (unless (free_run given x.a x.b) 2) _ (rw f at e)).1
    | inr f ↦ rw f (rw f at e)
  ]

  -- so it has none in any watched walk,
  step_clean : (watch : Watch) → table_fault h shape x given ≡ 0 → watched_fault h shape x (among_given given watch && gives_watched x watch) ≡ 0
  unfolding watched_fault
  step_clean watch e = rw (gives_new watch e) (clean_first e)

  -- and one that is faulty in a watched walk is faulty.
  step_faulty : (watch : Watch) → 0 < watched_fault h shape x (among_given given watch && gives_watched x watch) → 0 < table_fault h shape x given
  step_faulty watch f = elim (eq-zero-or-pos (table_fault h shape x given)) [ inl e ↦ absurd (omega (arith, step_clean watch e)) | inr p ↦ p ]

  -- A step with a fault has one in some watched walk: that of a register of its run that was given, or else that of nothing.
  step_watched : (x.form ≡ 1 → x.a + x.b ≤ h.registers) → 0 < table_fault h shape x given
      → (watch : Watch) × WatchedBelow h.registers watch × (0 < watched_fault h shape x (among_given given watch && gives_watched x watch))
  unfolding table_fault watched_fault gives_watched WatchedBelow
  step_watched within p = elim (either (eqb x.form 1)) [
    | inl f ↦ elim (either (free_run given x.a x.b)) [
      | inl free ↦ (None, tt, rw (f, all_free x.a x.b) (rw (f, free) at p))
      | inr taken ↦
          let (r, from, to, was) = free_some given x.a x.b taken in
          (Some (record { 0 = r }), omega (arith, within (eqb-true _ 1 f)), rw (was, f, in_run _ _ (record { 0 = r }) from to) (lit< tt))
    ]
    | inr f ↦ (None, tt, rw f (rw f at p))
  ]

-- Whether what is watched is among the given afterwards is what the watched walk says.
given_after_lem : (h : Head) (x : Transition) (s : ByTable) → (x.form ≡ 1 → x.a + x.b ≤ length s.given) → (watch : Watch)
    → among_given s.given watch || gives_watched x watch ≡ among_given (table_after h x s).given watch
unfolding gives_watched
given_after_lem h x s within None = refl
given_after_lem h x s within (Some r) = rw (step_gives h x s) (elim (either (eqb x.form 1)) [
  | inl f ↦ rw (f, mark_at s.given x.a x.b r (within (eqb-true _ 1 f)))
  | inr f ↦ rw (f, or-false)
])

-- ---- nodes

-- What is known of the scan, and of the entries that it meets.
pub watched_scanned : (table : Table) (t : List ℕ) (watch : Watch) (n : ℕ) → Scanned (watched table t watch) (met (watched table t watch) n) n 0
watched_scanned table t watch = met_scanned (watched table t watch) (numbered_decides (watched_steps table t watch))

pub watched_tree : (table : Table) (t : List ℕ) (watch : Watch) (n : ℕ) → Tree (watched table t watch) (met (watched table t watch) n)
watched_tree table t watch n = (watched_scanned table t watch n).tree

-- A node keeps its state and its flag, and is below 2N where its state is below N.
node_state_lem : (state : ℕ) (flag : Bool) → node_state (node_of state flag) ≡ state
node_state_lem state true = omega arith
node_state_lem state false = omega arith

node_flag_lem : (state : ℕ) (flag : Bool) → node_flag (node_of state flag) ≡ flag
node_flag_lem state true = eq-eqb ((2 * state + 1) % 2) 1 (omega arith)
node_flag_lem state false = ne_eqb ((2 * state + 0) % 2) 1 (omega arith)

node_below : (state : ℕ) (flag : Bool) (n : ℕ) → state < n → node_of state flag < 2 * n
node_below state true n h = omega arith
node_below state false n h = omega arith

-- Where a watched walk is while the walk by the table is at s: at the same state, with the flag that what it watches was given.
abbrev pub node_at : Watch → ByTable → ℕ
node_at watch s = node_of s.state (among_given s.given watch)

-- The fault there is that of the step, as far as what is watched tells; and so is the node after it that of the state after it.
pub node_fault_lem : (table : Table) (t : List ℕ) (watch : Watch) (s : ByTable) (k : ℕ) → node_fault table t watch (node_at watch s) k
    ≡ watched_fault table.head (table_kind table k) (transition table t s.state k) (among_given s.given watch && gives_watched (transition table t s.state k) watch)
unfolding node_fault
node_fault_lem table t watch s k = rw (node_state_lem, node_flag_lem)

node_after_lem : (h : Head) (x : Transition) (s : ByTable) → (x.form ≡ 1 → x.a + x.b ≤ length s.given) → (watch : Watch)
    → node_of x.next (among_given s.given watch || gives_watched x watch) ≡ node_at watch (table_after h x s)
unfolding table_after
node_after_lem h x s within watch = ap (node_of x.next) (given_after_lem h x s within watch)

-- At first nothing that is watched is given.
pub none_among : (watch : Watch) → among_given no_registers watch ≡ false
none_among (Some r) = none_taken 16 r.0
none_among None = refl

-- ---- the two walks

-- The fault of a list in the walk by a table, and the state after it.
abbrev pub walk_fault : Table → List ℕ → List ℕ → ℕ
walk_fault table t ks = fault_from (by_table table t) (by_table table t).begin ks

abbrev pub walk_end : Table → List ℕ → List ℕ → ByTable
walk_end table t ks = state_from (by_table table t) (by_table table t).begin ks

-- In the watched walk the list ks leads to a node where kind k is faulty.
pub record EndsFaulty (table : Table) (t : List ℕ) (watch : Watch) (ks : List ℕ) (k : ℕ) : Type 0 where
  pub node : ℕ
  pub leads : Leads (watched table t watch) 0 ks node
  pub below : k < table.head.kinds
  pub faulty : 0 < node_fault table t watch node k

module _ (limit : ℕ) (table : Table) (t : List ℕ) (read : TableRead limit table t) where
  -- A step leads to a node below 2N,
  pub after_below : (watch : Watch) (node k : ℕ) → node < nodes table → k < table.head.kinds → node_after table t watch node k < nodes table
  unfolding node_after
  after_below watch node k h below = node_below _ (node_flag node || gives_watched _ watch) table.states (known_next limit table t read k below (node_state node) (omega arith))

  -- which bounds the nodes that are met;
  pub watched_bounded : (watch : Watch) → Bounded (watched_steps table t watch) (nodes table)
  watched_bounded watch = record { some = omega (arith, read.some); next = λ node k h b _. after_below watch node k h b }

  -- so there are no more than 2N, however far the scan goes, and after 2N entries it is whole.
  pub nodes_few : (watch : Watch) (n : ℕ) → length (met (watched table t watch) n) ≤ nodes table
  nodes_few watch n = entries_few (watched_steps table t watch) (nodes table) (watched_bounded watch) _ (watched_tree table t watch n)

  -- A watched walk steps with the walk.
  pub step_tied : (s : ByTable) (w : Walking table s) (k : ℕ) (below : k < table.head.kinds) (watch : Watch)
      → node_after table t watch (node_at watch s) k ≡ node_at watch (table_after table.head (transition table t s.state k) s)
  unfolding node_after
  step_tied s w k below watch =
      rw (node_state_lem, node_flag_lem)
      (node_after_lem table.head (transition table t s.state k) s (λ f. omega (arith, known_run limit table t read k below s.state w.known f)) watch)

  -- So it leads along every list without a fault, to the node of the state after it.
  tied : (watch : Watch) (s : ByTable) (ks : List ℕ) → Walking table s → KindsBelow table.head.kinds ks → fault_from (by_table table t) s ks ≡ 0
      → Leads (watched table t watch) (node_at watch s) ks (node_at watch (state_from (by_table table t) s ks))
  unfolding Leads KindsBelow fault_from state_from
  tied watch s [] w known e = refl
  tied watch s (k ∷ ks) w known e =
      let both = or_zero _ _ e in
      let here = step_clean table.head (table_kind table k) (transition table t s.state k) s.given watch both.0 in
      let later = tied watch ((by_table table t).after s k) ks (step_walking limit table t read s k w known.0) known.1 both.1 in
      (known.0, eq-eqb _ 0 (node_fault_lem table t watch s k ∙ here), rw (step_tied s w k known.0 watch) later)

  pub tied_along : (watch : Watch) (ks : List ℕ) → KindsBelow table.head.kinds ks → walk_fault table t ks ≡ 0
      → Leads (watched table t watch) 0 ks (node_at watch (walk_end table t ks))
  tied_along watch ks known e = rw (none_among watch) at (tied watch (by_table table t).begin ks (begin_walking limit table t read) known e)

  -- A list whose first faulty step is its last ends faulty in some watched walk,
  pub some_watches : (ks : List ℕ) (k : ℕ) → KindsBelow table.head.kinds ks → k < table.head.kinds
      → walk_fault table t ks ≡ 0 → 0 < (by_table table t).fault (walk_end table t ks) k
      → (watch : Watch) × WatchedBelow table.head.registers watch × EndsFaulty table t watch ks k
  some_watches ks k known below e f =
      let s = walk_end table t ks in
      let x = transition table t s.state k in
      let w =
      holds_along (by_table table t) (Walking table) table.head.kinds (λ s k w b _. step_walking limit table t read s k w b) _ ks
      (begin_walking limit table t read) known e in
      let (watch, among, faulty) = step_watched table.head (table_kind table k) x s.given (known_run limit table t read k below s.state w.known) f in
      (watch, among, record { node = node_at watch s; leads = tied_along watch ks known e; below = below; faulty = rw (node_fault_lem table t watch s k) faulty })

  -- and a list that ends faulty in a watched walk is faulty, at its last step or before.
  pub watched_faulty : (watch : Watch) (ks : List ℕ) (k : ℕ) → EndsFaulty table t watch ks k
      → KindsBelow table.head.kinds (ks ++ k ∷ []) × (0 < walk_fault table t (ks ++ k ∷ []))
  watched_faulty watch ks k f = (below_snoc table.head.kinds ks k known f.below, snoc_faulty (by_table table t) _ ks k there)
    where
      known : KindsBelow table.head.kinds ks
      known = leads_below (watched table t watch) 0 ks f.node f.leads

      there : walk_fault table t ks ≡ 0 → 0 < (by_table table t).fault (walk_end table t ks) k
      there e =
          let same = leads_unique (watched table t watch) 0 ks f.node _ f.leads (tied_along watch ks known e) in
          step_faulty table.head (table_kind table k) _ (walk_end table t ks).given watch (rw (same, node_fault_lem table t watch) at f.faulty)
