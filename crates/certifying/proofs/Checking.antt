-- One turn of each check of a certificate, on plain values.
use Prim.Native.Nat.{ℕ, ◌+◌, ◌≤◌, ◌<◌}
use native.Mathlib.Omega.{arith}
use mathlib.Core.Path.{◌≡◌, refl, sym, ◌∙◌}
use mathlib.Core.Bool.{Bool, true, false, not, ◌&&◌, ◌||◌, and-eq-true_iff}
use mathlib.Core.List.{List}
use lib.Dec.{eqb}
use lib.Bits.{bit_and, bit_or}
use lib.ListN.{get_or}
use borrow.Author.Count.{below_more}
use borrow.Author.Tests.{eqb-true, ne_eqb}
use Rattle.std.specs.Prelude.{Result, Ok, Err, is_ok}
use Rattle.convention.specs.declared.Fault.{Fault}
use Rattle.convention.specs.declared.Head.{Head}
use Rattle.convention.specs.declared.Shape.{Shape}
use Rattle.convention.specs.declared.Table.{Table}
use Rattle.convention.specs.declared.Transition.{Transition}
use Rattle.convention.specs.Results.{fault_number, fault_of}
use Rattle.convention.specs.Tables.{table_kind, transition}
use Rattle.convention.specs.Rules.{no_registers}
use Rattle.convention.specs.Walked.{table_fault}
use Rattle.convention.proofs.Results.{fault_some}
use Rattle.convention.proofs.Runs.{mark_in}
use Rattle.stepping.specs.Sets.{set_of}
use Rattle.stepping.proofs.Sets.{set_none, mask_among, or_left, or_right, and_both}
use Rattle.walking.specs.declared.step.Step.{Step}
use Rattle.walking.specs.TableSteps.{given_after}
use Rattle.walking.specs.Steps.{StepOf}
use Rattle.certifying.specs.declared.checks.Checks.{Checks}
use Rattle.certifying.specs.Certified.{is_reached, own_fault, TransitionHolds, StateHolds}
use Rattle.certifying.specs.Checked.{Keeps, TransitionIs, RowIs, StateIs, StatesHold}

-- ---- what was found

-- It stays over several checks.
keeps_on : (a b c : Checks) → Keeps a b → Keeps b c → Keeps a c
keeps_on a b c k l = record {
  closed = λ e. k.closed (l.closed e);
  clean = λ e. k.clean (l.clean e);
  twice = λ r g. l.twice r (k.twice r g);
}

-- What holds by what was found holds by more.
holds_on : (h : Head) (shape : Shape) (x : Transition) (here next : ℕ) (a b : Checks) → Keeps a b → TransitionHolds h shape x here next a
    → TransitionHolds h shape x here next b
holds_on h shape x here next a b k holds = record {
  reached = λ e. holds.reached (k.closed e);
  among = λ e. holds.among (k.closed e);
  clean = λ e. holds.clean (k.clean e);
  twice = λ r g gives. k.twice r (holds.twice r g gives);
}

state_on : (table : Table) (t sets : List ℕ) (state : ℕ) (a b : Checks) → Keeps a b → StateHolds table t sets state a → StateHolds table t sets state b
state_on table t sets state a b keeps holds = record {
  row = λ y. record { each = λ k h. holds_on table.head _ _ _ _ a b keeps ((holds.row y).each k h) };
}

-- ---- one transition

-- A step that is right has no fault.
right : {T : Type 0} → (r : Result T Fault) (fault : ℕ) → fault_of r ≡ fault → is_ok r ≡ eqb fault 0
right (Ok x) fault e = rw (← e) refl
right (Err f) fault e = rw (← e) (sym (ne_eqb (fault_number f) 0 (λ z. omega (arith, fault_some f))))

-- What it has by itself, what it gives, and where it leads.
module _ (step : Step) (here next gives after : ℕ) (clean reached : Bool) (before : Checks) where
  abbrev found : Checks
  found = record {
    closed = before.closed && (not clean || (reached && eqb (bit_and next after) after));
    clean = before.clean && clean;
    twice = bit_or before.twice (bit_and here gives);
  }

  pub transition_is : {T : Type 0} → (r : Result T Fault) → fault_of r ≡ table_fault step.head step.shape step.x (set_of 16 0) → clean ≡ is_ok r → set_of 16 gives ≡ given_after step.x (set_of 16 0)
      → set_of 16 after ≡ given_after step.x (set_of 16 here) → reached ≡ is_reached next → TransitionIs step here next before found
  transition_is r ef ec eg ea er = record {
    keeps = record {
      closed = λ e. ((and-eq-true_iff before.closed _).0 e).0;
      clean = λ e. ((and-eq-true_iff before.clean _).0 e).0;
      twice = or_left 16 before.twice (bit_and here gives);
    };
    holds = record {
      reached = λ e z. sym er ∙ ((and-eq-true_iff reached _).0 (leads e z)).0;
      among = λ e z. rw (← ea) (mask_among 16 next after (eqb-true _ after ((and-eq-true_iff reached _).0 (leads e z)).1));
      clean = λ e. eqb-true (own_fault step.head step.shape step.x) 0 (sym by_itself ∙ ((and-eq-true_iff before.clean _).0 e).1);
      twice = λ r g (form, from, to).
          or_right 16 before.twice (bit_and here gives) r (and_both 16 here gives r g (given r form from to));
    };
  }
    where
      by_itself : clean ≡ eqb (own_fault step.head step.shape step.x) 0
      by_itself = ec ∙ (right r _ ef ∙ rw (set_none 16))

      leads : found.closed ≡ true → own_fault step.head step.shape step.x ≡ 0 → reached && eqb (bit_and next after) after ≡ true
      leads e z =
          let (_, one) = (and-eq-true_iff before.closed _).0 e in
          rw (by_itself, z) at one

      given : (r : ℕ) → step.x.form ≡ 1 → step.x.a ≤ r → r < step.x.a + step.x.b → get_or (set_of 16 gives) r false ≡ true
      given r form from to = rw (eg, set_none 16, form) (mark_in no_registers step.x.a step.x.b r (step.asks.run form) from to)

-- ---- the transitions of a state

-- One more kind: its transition holds, as those before it.
pub row_on : (table : Table) (t sets : List ℕ) (state k here : ℕ) (before c after : Checks) → RowIs table t sets state here k before c
    → (step : Step) → StepOf table t state k step → TransitionIs step here (get_or sets step.x.next 0) c after → RowIs table t sets state here (k + 1) before after
row_on table t sets state k here before c after row step of is = record {
  keeps = keeps_on before c after row.keeps is.keeps;
  holds = record {
    each = below_more
        (λ k. TransitionHolds table.head (table_kind table k) (transition table t state k) here (get_or sets (transition table t state k).next 0) after)
        k (λ j l. holds_on table.head _ _ _ _ c after is.keeps (row.holds.each j l)) (rw (of.head, of.shape, of.x) at is.holds);
  };
}

-- ---- the states

-- One more state: it holds, as those before it.
pub states_on : (table : Table) (t sets : List ℕ) (state : ℕ) (c after : Checks) → StatesHold table t sets state c → StateIs table t sets state c after
    → StatesHold table t sets (state + 1) after
states_on table t sets state c after states is = record {
  start = λ e. states.start (is.keeps.closed e);
  each = below_more (λ state. StateHolds table t sets state after) state (λ j l. state_on table t sets j c after is.keeps (states.each j l)) is.holds;
}
