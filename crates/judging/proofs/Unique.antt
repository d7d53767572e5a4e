-- The contract of judging determines the answer and the lent memory: two that it allows are the same, for of two first faulty lists neither is before
-- the other, and of two different lists one is.
use Prim.Native.Nat.{ℕ, ◌≤◌}
use native.Mathlib.Omega.{arith}
use mathlib.Core.Path.{◌≡◌, refl, ◌∙◌}
use mathlib.Core.Logic.{inl, inr}
use mathlib.Core.List.{List}
use lib.Dec.{lit<}
use lib.ListN.{length, take, take-append-drop}
use lib.Seq.{length-take-le}
use borrow.Author.Tests.{leb-true, le-leb}
use Rattle.convention.specs.Answers.{JudgingAnswer}
use Rattle.convention.specs.Answers.{Clean, Fault}
use Rattle.convention.specs.Tables.{table_no}
use Rattle.convention.specs.Judged.{CleanTable, FirstFaulty, judge_room, judge_no, Judges}
use Rattle.convention.proofs.Numbers.{or_zero, or_on, unless_zero, unless_true}
use Rattle.convention.proofs.Shortlex.{before_total}

-- Judging has no number exactly where the table can be read and the room is enough.
pub judge_zero : (limit : ℕ) (t : List ℕ) (room : ℕ) → judge_no limit t room ≡ 0 → (table_no limit t ≡ 0) × (judge_room t ≤ room)
unfolding judge_no
judge_zero limit t room e = let both = or_zero (table_no limit t) _ e in (both.0, leb-true _ room (unless_zero _ 12 (lit< tt) both.1))

pub judge_passes : (limit : ℕ) (t : List ℕ) (room : ℕ) → table_no limit t ≡ 0 → judge_room t ≤ room → judge_no limit t room ≡ 0
unfolding judge_no
judge_passes limit t room e h = or_on _ _ e ∙ unless_true _ 12 (le-leb _ _ h)

-- There is one first faulty list.
pub first_unique : (t : List ℕ) (f f' : ℕ) (ks ks' : List ℕ) → FirstFaulty t f ks → FirstFaulty t f' ks' → ks ≡ ks'
first_unique t f f' ks ks' x y = elim (before_total ks ks') [
  | inl b ↦ absurd (y.first ks x.faulty b)
  | inr (inl e) ↦ e
  | inr (inr b) ↦ absurd (x.first ks' y.faulty b)
]

-- Two answers that judging may give are the same, and so is the lent memory.
pub unique : (limit : ℕ) (t out : List ℕ) (a b : JudgingAnswer) (o o' : List ℕ) → Judges limit t out a o → Judges limit t out b o'
    → (a ≡ b) × (o ≡ o')
unfolding Judges CleanTable
unique limit t out Clean Clean o o' x y = (refl, cc)
unique limit t out Clean (Fault f n) o o' x y = absurd (x.1 _ y.2.faulty)
unique limit t out Clean (JudgingAnswer.Refused n) o o' x y = absurd (omega arith)
unique limit t out (Fault f n) Clean o o' x y = absurd (y.1 _ x.2.faulty)
unique limit t out (Fault f n) (Fault f' n') o o' x y =
    let fits = judge_zero limit t (length out) x.0 in
    let list = first_unique t f f' (take n o) (take n' o') x.2 y.2 in
    let count : n ≡ n' = cc (list, length-take-le n o (omega arith), length-take-le n' o' (omega arith)) in
    (cc (x.2.says, y.2.says), cc (x.3, y.3, take-append-drop n o, take-append-drop n' o'))
unique limit t out (Fault f n) (JudgingAnswer.Refused n') o o' x y = absurd (omega arith)
unique limit t out (JudgingAnswer.Refused n) Clean o o' x y = absurd (omega arith)
unique limit t out (JudgingAnswer.Refused n) (Fault f' n') o o' x y = absurd (omega arith)
unique limit t out (JudgingAnswer.Refused n) (JudgingAnswer.Refused n') o o' x y = (cc, cc)
