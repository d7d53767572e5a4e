-- Laws of one step by a table: its cases, what it gives, and that its fault never depends on p.
use Prim.Native.Nat.{ℕ, ◌%◌}
use mathlib.Core.Path.{◌≡◌, refl, sym, ◌∙◌}
use mathlib.Core.Logic.{◌⊎◌, inl, inr}
use mathlib.Core.Bool.{Bool, true, false, cond}
use mathlib.Core.List.{List, [], ◌∷◌}
use lib.Dec.{eqb, lit<}
use borrow.Author.Tests.{eqb-true}
use Rattle.convention.specs.declared.Head.{Head}
use Rattle.convention.specs.declared.Placement.TheVariants.{Registers, Stack, Nowhere}
use Rattle.convention.specs.declared.Shape.{Shape}
use Rattle.convention.specs.declared.Table.{Table}
use Rattle.convention.specs.declared.Transition.{Transition}
use Rattle.convention.specs.declared.ByTable.{ByTable}
use Rattle.convention.specs.Numbers.{or_else, unless}
use Rattle.convention.specs.Offsets.{least_offset}
use Rattle.convention.specs.Shapes.{right_count, stack_bytes}
use Rattle.convention.specs.Tables.{table_kind, transition}
use Rattle.convention.specs.Lists.{fault_from}
use Rattle.convention.specs.Rules.{free_run, mark_run}
use Rattle.convention.specs.Walked.{table_place, registers_fault, stack_fault, table_fault, table_after, by_table}
use Rattle.convention.proofs.Numbers.{or_zero, unless_zero}

-- A step is of one of three forms. With form 1 it gives registers, whatever p; with form 2 stack bytes from p on; with any other nothing, which is fault 1.
pub record RegistersStep (h : Head) (x : Transition) : Type 0 where
  pub form : x.form ≡ 1
  pub place : (p : ℕ) → table_place h x p ≡ Registers (record { 0 = x.a }) x.b
  pub fault : (shape : Shape) (given : List Bool) → table_fault h shape x given ≡ registers_fault h shape x given

pub record StackStep (h : Head) (x : Transition) : Type 0 where
  pub form : x.form ≡ 2
  pub place : (p : ℕ) → table_place h x p ≡ Stack (record { 0 = least_offset h.modulus x.a p }) x.b
  pub fault : (shape : Shape) (given : List Bool) → table_fault h shape x given ≡ stack_fault shape x

pub record NoStep (h : Head) (x : Transition) : Type 0 where
  pub form : eqb x.form 1 ≡ false
  pub other : eqb x.form 2 ≡ false
  pub place : (p : ℕ) → table_place h x p ≡ Nowhere
  pub fault : (shape : Shape) (given : List Bool) → table_fault h shape x given ≡ 1

pub step_cases : (h : Head) (x : Transition) → RegistersStep h x ⊎ (StackStep h x ⊎ NoStep h x)
unfolding table_fault
step_cases h x = go (eqb x.form 1) (eqb x.form 2) refl refl
  where
    go : (one two : Bool) → eqb x.form 1 ≡ one → eqb x.form 2 ≡ two → RegistersStep h x ⊎ (StackStep h x ⊎ NoStep h x)
    go true two e f = inl (record { form = eqb-true _ 1 e; place = λ p. rw e; fault = λ shape given. rw e })
    go false true e f = inr (inl (record { form = eqb-true _ 2 f; place = λ p. rw (e, f); fault = λ shape given. rw (e, f) }))
    go false false e f = inr (inr (record { form = e; other = f; place = λ p. rw (e, f); fault = λ shape given. rw (e, f) }))

-- What there is where a step that gives registers has no fault, and where one that gives stack bytes has none.
module _ (h : Head) (shape : Shape) (x : Transition) (given : List Bool) (e : table_fault h shape x given ≡ 0) where
  pub registers_clean : RegistersStep h x → (free_run given x.a x.b ≡ true) × (right_count h.width x.b shape ≡ true)
  registers_clean r =
      let both = or_zero (unless (free_run given x.a x.b) 2) _ (sym (r.fault shape given) ∙ e) in
      (unless_zero _ 2 (lit< tt) both.0, unless_zero _ 3 (lit< tt) both.1)

  pub stack_clean : StackStep h x → (x.b ≡ stack_bytes shape) × (x.a % shape.alignment ≡ 0)
  stack_clean r =
      let both = or_zero _ _ (sym (r.fault shape given) ∙ e) in
      (eqb-true _ _ (unless_zero _ 3 (lit< tt) both.0), eqb-true _ 0 (unless_zero _ 4 (lit< tt) both.1))

-- Whatever p, a step leads to the transition's next, and gives the registers of its run.
pub step_next : (h : Head) (x : Transition) (s : ByTable) → (table_after h x s).state ≡ x.next
unfolding table_after
step_next h x s = refl

pub step_gives : (h : Head) (x : Transition) (s : ByTable)
    → (table_after h x s).given ≡ cond (eqb x.form 1) (mark_run s.given x.a x.b) s.given
unfolding table_after
step_gives h x s = elim (step_cases h x) [
  | inl r ↦ rw r.form
  | inr (inl r) ↦ rw r.form
  | inr (inr r) ↦ rw (r.place s.p.0, r.form)
]

-- So a list has the same fault from two states that agree but for p.
pub fault_any_p : (table : Table) (t : List ℕ) (s s' : ByTable) (ks : List ℕ) → s.state ≡ s'.state → s.given ≡ s'.given
    → fault_from (by_table table t) s ks ≡ fault_from (by_table table t) s' ks
unfolding fault_from table_after
fault_any_p table t s s' [] es eg = refl
fault_any_p table t s s' (k ∷ ks) es eg =
    λ i. or_else (table_fault table.head (table_kind table k) (transition table t (es i) k) (eg i))
    (fault_any_p table t ((by_table table t).after s k) ((by_table table t).after s' k) ks next given i)
  where
    next : ((by_table table t).after s k).state ≡ ((by_table table t).after s' k).state
    next = rw es

    given : ((by_table table t).after s k).given ≡ ((by_table table t).after s' k).given
    given = step_gives table.head (transition table t s.state k) s
        ∙ (rw (es, eg) refl ∙ sym (step_gives table.head (transition table t s'.state k) s'))
