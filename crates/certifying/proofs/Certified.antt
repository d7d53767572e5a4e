-- Why no list of a certified table has a fault, or gives a register twice that was not found: wherever a list leads, what was given is among what may be given there.
use Prim.Native.Nat.{ℕ, zero, suc, ◌+◌, ◌≤◌, ◌<◌}
use native.Mathlib.Omega.{arith}
use mathlib.Core.Path.{◌≡◌, refl, sym, ◌∙◌}
use mathlib.Core.Logic.{inl, inr}
use mathlib.Core.Bool.{Bool, true, false, not, ◌&&◌, and-eq-true_iff, true≢false, false≢true}
use mathlib.Core.List.{List, [], ◌∷◌}
use lib.Dec.{eqb}
use lib.ListN.{length, get_or, replicate}
use borrow.Author.Tests.{eqb-true}
use Rattle.convention.specs.declared.Head.{Head}
use Rattle.convention.specs.declared.Shape.{Shape}
use Rattle.convention.specs.declared.Table.{Table}
use Rattle.convention.specs.declared.Transition.{Transition}
use Rattle.convention.specs.declared.ByTable.{ByTable}
use Rattle.convention.specs.Numbers.{state_limit}
use Rattle.convention.specs.Tables.{table_kind, transition}
use Rattle.convention.specs.Rules.{free_run, no_registers}
use Rattle.convention.specs.Lists.{fault_from, state_from, KindsBelow}
use Rattle.convention.specs.Walked.{table_fault, by_table, walk_begin}
use Rattle.convention.specs.Promised.{TableRead}
use Rattle.convention.proofs.Promised.{known_sixteen, known_next}
use Rattle.convention.proofs.Runs.{either, none_taken, free_some}
use Rattle.convention.proofs.Lists.{holds_along}
use Rattle.convention.proofs.Walked.{RegistersStep, step_cases, step_next, step_gives, registers_clean}
use Rattle.stepping.specs.Sets.{set_of, Among}
use Rattle.stepping.proofs.Runs.{mark_among}
use Rattle.stepping.proofs.Sets.{set_none, set_long}
use Rattle.walking.specs.TableSteps.{given_after}
use Rattle.certifying.specs.declared.checks.Checks.{Checks}
use Rattle.certifying.specs.Certified.{is_reached, own_fault, Gives, TransitionHolds, Certified, NoListFaulty, by_itself, NeverTwice, CertificateIs}

-- A test that did not fail.
passed : (r : Bool) → not r ≡ false → r ≡ true
passed true e = refl
passed false e = absurd (true≢false e)

-- ---- one step

-- What is given after a step is less where less was given before it.
given_less : (x : Transition) (a b : List Bool) → Among a b → (x.form ≡ 1 → x.a + x.b ≤ length b) → Among (given_after x a) (given_after x b)
given_less x a b among run = elim (either (eqb x.form 1)) [
  | inl f ↦ rw f (mark_among a b x.a x.b among (run (eqb-true _ 1 f)))
  | inr f ↦ rw f among
]

-- A step without a fault by itself has none where it gives no register that was given.
fault_none : (h : Head) (shape : Shape) (x : Transition) (given : List Bool) → own_fault h shape x ≡ 0
    → ((r : ℕ) → get_or given r false ≡ true → Gives x r → ⊥) → table_fault h shape x given ≡ 0
fault_none h shape x given own new = elim (step_cases h x) [
  | inl r ↦ rw (r.fault shape given, free r, (registers_clean h shape x no_registers own r).1)
  | inr (inl r) ↦ r.fault shape given ∙ (sym (r.fault shape no_registers) ∙ own)
  | inr (inr r) ↦ absurd (omega (arith, own, r.fault shape no_registers))
]
  where
    free : RegistersStep h x → free_run given x.a x.b ≡ true
    free r = elim (either (free_run given x.a x.b)) [
      | inl f ↦ f
      | inr f ↦ let (q, from, to, taken) = free_some given x.a x.b f in absurd (new q taken (r.form, from, to))
    ]

-- ---- lists

module _ (table : Table) (t sets : List ℕ) (c : Checks) (read : TableRead state_limit table t) (cert : Certified table t sets c) (closed : c.closed ≡ true) where
  -- What holds wherever a list leads: a state of the table that is reached, and its set has what was given.
  record Allowed (s : ByTable) : Type 0 where
    inside : s.state < table.states
    reached : is_reached (get_or sets s.state 0) ≡ true
    given : Among s.given (set_of 16 (get_or sets s.state 0))

  begin_allowed : Allowed walk_begin
  begin_allowed = record { inside = read.some; reached = cert.start closed; given = λ r e. absurd (false≢true (sym (none_taken 16 r) ∙ e)) }

  module _ (s : ByTable) (k : ℕ) (allowed : Allowed s) (below : k < table.head.kinds) where
    abbrev x : Transition
    x = transition table t s.state k

    holds : TransitionHolds table.head (table_kind table k) x (get_or sets s.state 0) (get_or sets x.next 0) c
    holds = ((cert.states s.state allowed.inside).row allowed.reached).each k below

    -- A register that it gives once more is found.
    step_twice : (r : ℕ) → get_or s.given r false ≡ true → Gives x r → get_or (set_of 16 c.twice) r false ≡ true
    step_twice r given gives = holds.twice r (allowed.given r given) gives

    step_allowed : (by_itself table t).fault s k ≡ 0 → Allowed ((by_itself table t).after s k)
    step_allowed own = rw (step_next table.head x s, step_gives table.head x s) (record {
      inside = known_next state_limit table t read k below s.state allowed.inside;
      reached = holds.reached closed own;
      given = λ r g.
          holds.among closed own r
          (given_less x s.given (set_of 16 (get_or sets s.state 0)) allowed.given (λ f. rw set_long (known_sixteen state_limit table t read k below s.state allowed.inside f)) r g);
    })

  -- A register that was not found is given twice by no list.
  never_twice : (r : ℕ) → get_or (set_of 16 c.twice) r false ≡ false → NeverTwice table t r
  unfolding NeverTwice
  never_twice r e ks k known below own given gives =
      let allowed = holds_along (by_itself table t) Allowed table.head.kinds step_allowed walk_begin ks begin_allowed known own in
      true≢false (sym (step_twice (state_from (by_itself table t) walk_begin ks) k allowed below r given gives) ∙ e)

  -- Where all are clean and no register was found, no list has a fault.
  module _ (clean : c.clean ≡ true) (none : c.twice ≡ 0) where
    step_clean : (s : ByTable) (k : ℕ) → Allowed s → k < table.head.kinds → (by_table table t).fault s k ≡ 0
    step_clean s k allowed below =
        fault_none table.head (table_kind table k) (transition table t s.state k) s.given ((holds s k allowed below).clean clean)
        (λ r given gives. true≢false (sym (step_twice s k allowed below r given gives) ∙ rw (none, set_none 16) (none_taken 16 r)))

    clean_from : (s : ByTable) (ks : List ℕ) → Allowed s → KindsBelow table.head.kinds ks → fault_from (by_table table t) s ks ≡ 0
    unfolding fault_from KindsBelow
    clean_from s [] allowed below = refl
    clean_from s (k ∷ ks) allowed below =
        rw (step_clean s k allowed below.0) (clean_from ((by_table table t).after s k) ks (step_allowed s k allowed below.0 ((holds s k allowed below.0).clean clean)) below.1)

    no_list_faulty : NoListFaulty table t
    unfolding NoListFaulty
    no_list_faulty ks below = clean_from walk_begin ks begin_allowed below

-- ---- the certificate

-- Each of the sixteen registers is one of the set of all.
all_taken : (n r : ℕ) → r < n → get_or (replicate n true) r false ≡ true
all_taken zero r h = absurd (omega arith)
all_taken (suc n) zero h = refl
all_taken (suc n) (suc r) h = all_taken n r (omega arith)

every_register : set_of 16 65535 ≡ replicate 16 true
unfolding set_of
every_register = refl

-- Sets that are not closed say nothing,
pub certificate_open : (table : Table) (t : List ℕ) (all : ℕ) → all ≡ 65535 → CertificateIs table t false all
certificate_open table t all ea = rw ea (record {
  none = λ e. absurd (false≢true e);
  but = record { once = λ r h e. absurd (true≢false (sym (rw every_register (all_taken 16 r h)) ∙ e)) };
})

-- and those that are say what was found.
pub certificate_closed : (table : Table) (t sets : List ℕ) (c : Checks) → TableRead state_limit table t → Certified table t sets c → not c.closed ≡ false
    → CertificateIs table t (c.clean && eqb c.twice 0) c.twice
certificate_closed table t sets c read cert n =
    let closed = passed c.closed n in
    record {
      none = λ e.
          let (clean, none) = (and-eq-true_iff c.clean _).0 e in
          no_list_faulty table t sets c read cert closed clean (eqb-true c.twice 0 none);
      but = record { once = λ r _ e. never_twice table t sets c read cert closed r e };
    }

-- What is answered of them: the table is clean where all are and no register was found,
pub certificate_clean : (table : Table) (t sets : List ℕ) (c : Checks) → TableRead state_limit table t → Certified table t sets c → not c.closed ≡ false
    → c.clean && eqb c.twice 0 ≡ true → CertificateIs table t true 0
certificate_clean table t sets c read cert n e =
    let (_, none) = (and-eq-true_iff c.clean _).0 e in
    rw (e, eqb-true c.twice 0 none) at (certificate_closed table t sets c read cert n)

-- and otherwise the registers that were found.
pub certificate_found : (table : Table) (t sets : List ℕ) (c : Checks) → TableRead state_limit table t → Certified table t sets c → not c.closed ≡ false
    → CertificateIs table t false c.twice
certificate_found table t sets c read cert n = record {
  none = λ e. absurd (false≢true e);
  but = (certificate_closed table t sets c read cert n).but;
}
