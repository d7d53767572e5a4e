-- Demand 1 of building, of judging, of a row and of one kind: each number is given exactly when its line says, and a refusal writes nothing.
use Prim.Native.Nat.{ℕ, zero, suc, ◌≤◌, ◌<◌}
use mathlib.Core.Path.{◌≡◌, refl, sym, ap, subst, ◌∙◌}
use mathlib.Core.Logic.Iff
use mathlib.Core.Logic.{inl, inr, ◌↔◌}
use mathlib.Core.List.{List, [], ◌∷◌}
use native.Mathlib.Nat.{eq-zero-or-pos}
use native.Mathlib.Decide.{dec_lt}
use native.Mathlib.Omega.{arith}
use lib.Dec.{ltb, leb, lit<}
use lib.ListN.{length}
use borrow.Author.Tests.{ltb-true, ltb-false, lt-ltb, le-ltb}
use Rattle.convention.specs.Answers.{BuildingAnswer}
use Rattle.convention.specs.Answers.{JudgingAnswer}
use Rattle.convention.specs.Answers.{Clean, Fault}
use Rattle.convention.specs.Numbers.{state_limit, or_else, unless, building_says, judging_says}
use Rattle.convention.specs.Fields.{head_of}
use Rattle.convention.specs.Sheets.{sheet_no, sheet_of}
use Rattle.convention.specs.Tables.{table_no, table_of, states_of, row_no, row}
use Rattle.convention.specs.Built.{built_states, built_table, many_states_no, build_no, built_or_refused, build, build_writes, build_memory}
use Rattle.convention.specs.Judged.{judge_room, judge_no, Judges}
use Rattle.convention.proofs.Numbers.{or_zero, or_here, or_at, or_past, or_on, or_keeps, unless_zero, unless_true, unless_here}
use Rattle.convention.proofs.Sheets.{sheet_read}
use Rattle.convention.proofs.Tables.{row_refused, row_is, row_some}
use Rattle.building.specs.Reached.{ReachMore}
use Rattle.building.proofs.Reached.{eleven}
use Rattle.teaselram.specs.declared.KindAnswer.{KindAnswer}
use Rattle.teaselram.specs.Says.{kind_given, asked_no, sheet_kind_says, table_kind_says}
use Rattle.demands.proofs.Tests.{test_passes, test_fails, test_other, test_keeps}
use Rattle.demands.proofs.Reading.{sheet_refuses, table_refuses}
use Rattle.demands.specs.Demands.{OneOf, BuildingRefuses, JudgingRefuses, RowRefuses, KindRefuses}

-- ---- building

-- What an answer tells of the number that it was made from.
refused_when : (number n len k : ℕ) → 0 < k → built_or_refused number n len ≡ BuildingAnswer.Refused k ↔ number ≡ k
refused_when zero n len k h = (λ e. absurd (let z : ◌≡◌ {A = ℕ} 0 1 = cc in omega arith), λ e. absurd (omega arith))
refused_when (suc number) n len k h = (λ e. cc, λ e. rw e)

built_when : (number n len : ℕ) → (building_says (built_or_refused number n len)).number ≡ 0 ↔ number ≡ 0
built_when zero n len = (λ e. refl, λ e. refl)
built_when (suc number) n len = (λ e. absurd (omega arith), λ e. absurd (omega arith))

answer_others : (P : ℕ → Type 0) (number n len : ℕ) → P number → P (building_says (built_or_refused number n len)).number
answer_others P zero n len here = here
answer_others P (suc number) n len here = here

answer_writes : (number n len : ℕ) (table out : List ℕ) → 0 < (building_says (built_or_refused number n len)).number → build_writes number table out ≡ out
answer_writes zero n len table out h = absurd (omega arith)
answer_writes (suc number) n len table out h = refl

module _ (s out : List ℕ) where
  abbrev many : ℕ
  many = many_states_no state_limit (sheet_of s)

  abbrev narrow : ℕ
  narrow = unless (leb (length (built_table state_limit (sheet_of s))) (length out)) 12

  abbrev Listed : ℕ → Type 0
  Listed = OneOf (0 ∷ sheet_no s ∷ 11 ∷ 12 ∷ [])

  -- Number 11 and its opposite, by what lists reach.
  more : sheet_no s ≡ 0 → many ≡ 11 ↔ ReachMore state_limit (sheet_of s)
  more e = Iff.trans (test_fails _ state_limit 11 (lit< tt)) (eleven (sheet_of s) (sheet_read s e) state_limit)

  no_more : sheet_no s ≡ 0 → many ≡ 0 ↔ (ReachMore state_limit (sheet_of s) → ⊥)
  no_more e = (
    λ z r. omega (arith, (more e).1 r),
    λ never. elim (dec_lt state_limit (length (built_states state_limit (sheet_of s)))) [
      | yes h ↦ absurd (never ((eleven (sheet_of s) (sheet_read s e) state_limit).0 h))
      | no h ↦ (test_passes (length (built_states state_limit (sheet_of s))) state_limit 11 (lit< tt)).1 (omega arith)
    ],
  )

  pub building_refuses : BuildingRefuses s out (build state_limit s (length out)) (build_memory state_limit s out)
  unfolding build build_no build_memory OneOf
  building_refuses =
      let low = (sheet_refuses s).others in
      let number = build_no state_limit s (length out) in
      let n = length (built_states state_limit (sheet_of s)) in
      let len = length (built_table state_limit (sheet_of s)) in
      let past : (k : ℕ) → 6 < k → number ≡ k ↔ (sheet_no s ≡ 0) × (or_else many narrow ≡ k) = λ k h. or_past (sheet_no s) _ k (λ e. omega arith) in
      record {
        reader = λ h. (refused_when number n len (sheet_no s) h).1 (or_here (sheet_no s) _ h);
        eleven = Iff.trans (refused_when number n len 11 (lit< tt)) (Iff.trans (past 11 (lit< tt)) (
          λ e. (e.0, (more e.0).0 ((or_at many narrow 11 (lit< tt) (test_other (leb len (length out)) 12 11 (lit< tt) (λ e. omega arith))).0 e.1)),
          λ e. (e.0, or_here many narrow (rw ((more e.0).1 e.1) (lit< tt)) ∙ (more e.0).1 e.1),
        ));
        twelve = Iff.trans (refused_when number n len 12 (lit< tt)) (Iff.trans (past 12 (lit< tt)) (
          λ e.
              let both = (or_past many narrow 12 (test_other (leb n state_limit) 11 12 (lit< tt) (λ e. omega arith))).0 e.1 in
              (e.0, (no_more e.0).0 both.0, (test_fails len _ 12 (lit< tt)).0 both.1),
          λ e. (e.0, or_on many narrow ((no_more e.0).1 e.1) ∙ (test_fails len _ 12 (lit< tt)).1 e.2),
        ));
        success = Iff.trans (built_when number n len) (
          λ e.
              let a = or_zero (sheet_no s) _ e in
              let b = or_zero many narrow a.1 in
              (a.0, (no_more a.0).0 b.0, (test_passes len _ 12 (lit< tt)).0 b.1),
          λ e. or_on _ _ e.0 ∙ (or_on many narrow ((no_more e.0).1 e.1) ∙ (test_passes len _ 12 (lit< tt)).1 e.2),
        );
        others =
            answer_others Listed number n len
            (or_keeps Listed (sheet_no s) (or_else many narrow) (inr (inl refl))
            (or_keeps Listed many narrow (test_keeps Listed (leb n state_limit) 11 (inl refl) (inr (inr (inl refl)))) (test_keeps Listed (leb len (length out)) 12 (inl refl) (inr (inr (inr (inl refl)))))));
        untouched = answer_writes number n len _ out;
      }

-- ---- judging

module _ (t out : List ℕ) where
  abbrev room : ℕ
  room = unless (leb (judge_room t) (length out)) 12

  abbrev Judged : ℕ → Type 0
  Judged = OneOf (0 ∷ table_no state_limit t ∷ 12 ∷ [])

  -- What an answer tells of the number.
  judged_refused : (answer : JudgingAnswer) (after : List ℕ) → Judges state_limit t out answer after → (k : ℕ) → 0 < k
      → answer ≡ JudgingAnswer.Refused k ↔ judge_no state_limit t (length out) ≡ k
  unfolding Judges
  judged_refused Clean after j k h = (λ e. absurd (let z : ◌≡◌ {A = ℕ} 0 1 = cc in omega arith), λ e. absurd (omega arith))
  judged_refused (Fault fault n) after j k h = (λ e. absurd (let z : ◌≡◌ {A = ℕ} 0 1 = cc in omega arith), λ e. absurd (omega arith))
  judged_refused (JudgingAnswer.Refused number) after j k h = (λ e. cc j.0, λ e. ap JudgingAnswer.Refused (sym j.0 ∙ e))

  judged_number : (answer : JudgingAnswer) (after : List ℕ) → Judges state_limit t out answer after
      → (judging_says answer).number ≡ judge_no state_limit t (length out)
  unfolding Judges
  judged_number Clean after j = sym j.0
  judged_number (Fault fault n) after j = sym j.0
  judged_number (JudgingAnswer.Refused number) after j = sym j.0

  judged_untouched : (answer : JudgingAnswer) (after : List ℕ) → Judges state_limit t out answer after → 0 < (judging_says answer).number → after ≡ out
  unfolding Judges
  judged_untouched Clean after j h = absurd (omega arith)
  judged_untouched (Fault fault n) after j h = absurd (omega arith)
  judged_untouched (JudgingAnswer.Refused number) after j h = j.2

  pub judging_refuses : (answer : JudgingAnswer) (after : List ℕ) → Judges state_limit t out answer after → JudgingRefuses t out answer after
  unfolding judge_no OneOf
  judging_refuses answer after j =
      let low = (table_refuses state_limit t).others in
      record {
        reader = λ h. (judged_refused answer after j _ h).1 (or_here _ room h);
        twelve =
            Iff.trans (judged_refused answer after j 12 (lit< tt))
            (Iff.trans (or_past (table_no state_limit t) room 12 (λ e. omega arith)) (Iff.and Iff.rfl (test_fails (judge_room t) _ 12 (lit< tt))));
        success = (
          λ e.
              let both = or_zero _ room (sym (judged_number answer after j) ∙ e) in
              (both.0, (test_passes (judge_room t) _ 12 (lit< tt)).0 both.1),
          λ e. judged_number answer after j ∙ (or_on _ room e.0 ∙ (test_passes (judge_room t) _ 12 (lit< tt)).1 e.1),
        );
        others =
            rw (judged_number answer after j)
            (or_keeps Judged (table_no state_limit t) room (inr (inl refl)) (test_keeps Judged (leb (judge_room t) (length out)) 12 (inl refl) (inr (inr (inl refl)))));
        untouched = judged_untouched answer after j;
      }

-- ---- a row

module _ (t : List ℕ) (state : ℕ) where
  abbrev beyond : ℕ
  beyond = unless (ltb state (states_of t)) 13

  abbrev Rows : ℕ → Type 0
  Rows = OneOf (0 ∷ table_no state_limit t ∷ 13 ∷ [])

  pub row_refuses : RowRefuses t state (row_no state_limit t state) (row state_limit t state)
  unfolding row_no row table_of OneOf
  row_refuses =
      let low = (table_refuses state_limit t).others in
      record {
        reader = λ h. or_here _ beyond h;
        thirteen =
            Iff.trans (or_past (table_no state_limit t) beyond 13 (λ e. omega arith))
            (Iff.and Iff.rfl (Iff.trans (unless_here (ltb state (states_of t)) 13 (lit< tt)) (ltb-false state _, le-ltb state _)));
        success = (
          λ e. let both = or_zero _ beyond e in (both.0, ltb-true state _ (unless_zero _ 13 (lit< tt) both.1)),
          λ e. or_on _ beyond e.0 ∙ unless_true _ 13 (lt-ltb state _ e.1),
        );
        empty = (
          λ h. (row_refused state_limit t state (λ z. omega arith)).0,
          λ e. elim (eq-zero-or-pos (row_no state_limit t state)) [
            | inl z ↦ absurd (omega (arith, row_some state_limit t state z, ap length e))
            | inr p ↦ p
          ],
        );
        others = or_keeps Rows (table_no state_limit t) beyond (inr (inl refl)) (test_keeps Rows (ltb state (states_of t)) 13 (inl refl) (inr (inr (inl refl))));
        bytes = row_is state_limit t state;
      }

-- ---- one kind

-- The number of asking for a kind, and the number that its answer has.
kind_refuses : (read_no m k : ℕ) → read_no ≤ 7 → KindRefuses read_no m k (asked_no read_no m k)
unfolding OneOf
kind_refuses read_no m k low = record {
  reader = λ h. or_here read_no _ h;
  nine =
      Iff.trans (or_past read_no _ 9 (λ e. omega arith))
      (Iff.and Iff.rfl (Iff.trans (unless_here (ltb k m) 9 (lit< tt)) (ltb-false k m, le-ltb k m)));
  success = (
    λ e. let both = or_zero read_no _ e in (both.0, ltb-true k m (unless_zero _ 9 (lit< tt) both.1)),
    λ e. or_on read_no _ e.0 ∙ unless_true _ 9 (lt-ltb k m e.1),
  );
  others = or_keeps (OneOf (0 ∷ read_no ∷ 9 ∷ [])) read_no _ (inr (inl refl)) (test_keeps (OneOf (0 ∷ read_no ∷ 9 ∷ [])) (ltb k m) 9 (inl refl) (inr (inr (inl refl))));
}

kind_number : (number : ℕ) (answer : KindAnswer) → answer.number ≡ 0 → (kind_given number answer).number ≡ number
kind_number zero answer e = e
kind_number (suc number) answer e = refl

pub sheet_kind_refuses : (s : List ℕ) (k : ℕ) → KindRefuses (sheet_no s) (sheet_of s).head.kinds k (sheet_kind_says s k).number
unfolding sheet_kind_says sheet_of
sheet_kind_refuses s k =
    subst (KindRefuses (sheet_no s) (head_of s).kinds k) (sym (kind_number (asked_no (sheet_no s) (head_of s).kinds k) _ refl))
    (kind_refuses (sheet_no s) (head_of s).kinds k (omega (arith, (sheet_refuses s).others)))

pub table_kind_refuses : (t : List ℕ) (k : ℕ) → KindRefuses (table_no state_limit t) (table_of t).head.kinds k (table_kind_says state_limit t k).number
unfolding table_kind_says table_of
table_kind_refuses t k =
    subst (KindRefuses (table_no state_limit t) (head_of t).kinds k) (sym (kind_number (asked_no (table_no state_limit t) (head_of t).kinds k) _ refl))
    (kind_refuses (table_no state_limit t) (head_of t).kinds k (table_refuses state_limit t).others)
