-- What placing by a table gives where no step is faulty: places that are right for their kinds and apart from one another, and a p within bounds.
use Prim.Native.Nat.{ℕ, zero, suc, ◌+◌, ◌≤◌, ◌<◌, ◌∣◌}
use mathlib.Core.Path.{◌≡◌, refl, ◌∙◌}
use mathlib.Core.Logic.{inl, inr}
use mathlib.Core.Bool.{Bool}
use mathlib.Core.List.{List, [], ◌∷◌}
use native.Mathlib.Nat.{le_of_suc-le-suc}
use native.Mathlib.Omega.{arith}
use lib.ListN.{length, get_or}
use Rattle.convention.specs.declared.Head.{Head}
use Rattle.convention.specs.declared.Shape.{Shape}
use Rattle.convention.specs.declared.Table.{Table}
use Rattle.convention.specs.declared.Transition.{Transition}
use Rattle.convention.specs.declared.Offset.{Offset}
use Rattle.convention.specs.declared.ByTable.{ByTable}
use Rattle.convention.specs.declared.Placement.{Placement}
use Rattle.convention.specs.declared.Placement.TheVariants.{Nowhere}
use Rattle.convention.specs.Answers.{Placed}
use Rattle.convention.specs.Numbers.{state_limit, argument_limit}
use Rattle.convention.specs.Tables.{table_no, table_kind, transition, table_of}
use Rattle.convention.specs.Lists.{fault_from, state_from, places_from, KindsBelow}
use Rattle.convention.specs.Walked.{table_place, table_fault, table_after, by_table, place_by_table}
use Rattle.convention.specs.WellPlaced.{Share, Right}
use Rattle.convention.specs.Promised.{TableRead}
use Rattle.convention.proofs.Numbers.{or_zero}
use Rattle.convention.proofs.Offsets.{least_ge, offset_residue}
use Rattle.convention.proofs.Promised.{known_divides, known_run, known_sixteen, known_residue, known_next}
use Rattle.convention.proofs.Tables.{table_read}
use Rattle.convention.proofs.Walked.{step_cases, registers_clean, stack_clean}
use Rattle.convention.specs.Shapes.{p_most}
use Rattle.stepping.proofs.Accepted.{accepted}
use Rattle.stepping.proofs.Apart.{FreeIn, FromP, StepGives, place_length, apart, p_most_lem}
use Rattle.walking.proofs.Steps.{reach, step_ends}

-- A step without a fault: its place is right, its registers are free, and its stack bytes begin at p or after it.
module _ (h : Head) (shape : Shape) (x : Transition) (given : List Bool) (e : table_fault h shape x given ≡ 0) where
  step_right : shape.alignment ∣ h.modulus → (x.form ≡ 1 → x.a + x.b ≤ h.registers) → (x.form ≡ 2 → x.a < h.modulus)
      → (p : ℕ) → Right h shape (table_place h x p)
  unfolding Right
  step_right whole registers residue p = elim (step_cases h x) [
    | inl r ↦ rw (r.place p) ((λ q has. omega (arith, registers r.form)), (registers_clean h shape x given e r).1)
    | inr (inl r) ↦
        let (size, multiple) = stack_clean h shape x given e r in
        rw (r.place p) (size, offset_residue shape.alignment h.modulus x.a p (residue r.form) whole ∙ multiple)
    | inr (inr r) ↦ absurd (omega (arith, e, r.fault shape given))
  ]

  step_free : (p : ℕ) → FreeIn given (table_place h x p)
  step_free p = elim (step_cases h x) [
    | inl r ↦ rw (r.place p) (registers_clean h shape x given e r).0
    | inr (inl r) ↦ rw (r.place p) tt
    | inr (inr r) ↦ rw (r.place p) tt
  ]

step_from : (h : Head) (x : Transition) (p : Offset) → FromP p (table_place h x p.0)
step_from h x p = elim (step_cases h x) [
  | inl r ↦ rw (r.place p.0) tt
  | inr (inl r) ↦ rw (r.place p.0) (least_ge h.modulus x.a p.0)
  | inr (inr r) ↦ rw (r.place p.0) tt
]

-- What holds of every state of the walk: its state is one of the table's, and there is a flag for each of the sixteen registers.
pub record Walking (table : Table) (s : ByTable) : Type 0 where
  pub known : s.state < table.states
  pub sixteen : length s.given ≡ 16

module _ (limit : ℕ) (table : Table) (t : List ℕ) (read : TableRead limit table t) where
  -- The walk begins so.
  pub begin_walking : Walking table (by_table table t).begin
  begin_walking = record { known = read.some; sixteen = refl }

  -- The transition of an argument.
  abbrev here : ByTable → ℕ → Transition
  here s k = transition table t s.state k

  -- One argument, from such a state.
  module _ (s : ByTable) (k : ℕ) (good : Walking table s) (below : k < table.head.kinds) where
    -- It leads to such a state.
    pub step_walking : Walking table ((by_table table t).after s k)
    unfolding table_after
    step_walking = record {
      known = known_next limit table t read k below s.state good.known;
      sixteen = place_length ((by_table table t).place s k) s.given ∙ good.sixteen;
    }

  -- One without a fault.
  module _ (s : ByTable) (k : ℕ) (good : Walking table s) (below : k < table.head.kinds) (e : (by_table table t).fault s k ≡ 0) where
    table_gives : StepGives (by_table table t) (λ s. s.given) (Walking table) s k
    unfolding table_after
    table_gives = record {
      keeps = step_walking s k good below;
      within = rw good.sixteen (step_ends table.head (here s k) s.p.0 (known_sixteen limit table t read k below s.state good.known));
      free = step_free table.head (table_kind table k) (here s k) s.given e s.p.0;
      marks = λ r m. m;
      above = step_from table.head (here s k) s.p;
      moves = refl;
      most = reach table.head (table_kind table k) (here s k) s read.head (read.kind k below) e;
    }

    here_right : Right table.head (table_kind table k) ((by_table table t).place s k)
    here_right =
        step_right table.head (table_kind table k) (here s k) s.given e (known_divides limit table t read k below)
        (known_run limit table t read k below s.state good.known) (known_residue limit table t read k below s.state good.known) s.p.0

  each_right : (s : ByTable) (ks : List ℕ) → Walking table s → KindsBelow table.head.kinds ks → fault_from (by_table table t) s ks ≡ 0
      → (i : ℕ) → i < length ks → Right table.head (table_kind table (get_or ks i 0)) (get_or (places_from (by_table table t) s ks) i Nowhere)
  unfolding KindsBelow fault_from places_from
  each_right s [] good below e i h = absurd (omega arith)
  each_right s (k ∷ ks) good below e zero h = here_right s k good below.0 (or_zero _ _ e).0
  each_right s (k ∷ ks) good below e (suc i) h =
      let both = or_zero ((by_table table t).fault s k) _ e in
      each_right ((by_table table t).after s k) ks (step_walking s k good below.0) below.1 both.1 i (le_of_suc-le-suc h)

  -- A list of known kinds without a faulty step.
  module _ (ks : List ℕ) (below : KindsBelow table.head.kinds ks) (e : fault_from (by_table table t) (by_table table t).begin ks ≡ 0) where
    abbrev places : List Placement
    places = places_from (by_table table t) (by_table table t).begin ks

    -- Each argument has a place that is right for its kind: on the stack, its size at a multiple of its alignment.
    pub places_right : (i : ℕ) → i < length ks → Right table.head (table_kind table (get_or ks i 0)) (get_or places i Nowhere)
    places_right = each_right (by_table table t).begin ks begin_walking below e

    -- No two arguments share a register or a stack byte.
    pub table_apart : (i j : ℕ) → i < j → j < length ks → Share (get_or places i Nowhere) (get_or places j Nowhere) → ⊥
    table_apart =
        apart (by_table table t) (λ s. s.given) (Walking table) table.head.kinds (λ s k good h f. table_gives s k good h f)
        (by_table table t).begin ks begin_walking below e

    -- The final p.
    pub table_final : (state_from (by_table table t) (by_table table t).begin ks).p.0 ≤ p_most (length ks)
    table_final =
        omega (
          arith,
          p_most_lem (by_table table t) (λ s. s.given) (Walking table) table.head.kinds (λ s k good h f. table_gives s k good h f)
              (by_table table t).begin ks begin_walking below e,
        )

-- So of a list that a call has placed: the p that is answered is at most 31,600, which its four bytes hold.
pub answer_most : (t ks : List ℕ) (room n : ℕ) (p : Offset) → place_by_table state_limit argument_limit t ks room ≡ Placed n p → p.0 ≤ p_most argument_limit
unfolding place_by_table
answer_most t ks room n p placed =
    let means = accepted n p argument_limit (table_no state_limit t) (table_of t).head.kinds (by_table (table_of t) t) ks room placed in
    rw (← means.final) (omega (arith, table_final state_limit (table_of t) t (table_read state_limit t means.read) ks means.below means.clean, means.short))
