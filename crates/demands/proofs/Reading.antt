-- Demand 1 of reading: number 1 comes first, then the version; and what is read after it gives 3 or more.
use Prim.Native.Nat.{ℕ, zero, suc, ◌+◌, ◌-◌, ◌≤◌, ◌<◌}
use mathlib.Core.Path.{◌≡◌, refl, sym, ap, subst, ◌∙◌}
use mathlib.Core.Logic.Iff
use mathlib.Core.Logic.{◌⊎◌, inl, inr, ⊎_elim, ⊎_map, ◌↔◌}
use mathlib.Core.Bool.{Bool, true, false, ◌&&◌, true≢false, false≢true}
use mathlib.Core.List.{List}
use native.Mathlib.Omega.{arith}
use borrow.Author.Rules.{rules}
use lib.Dec.{leb, eqb}
use lib.ListN.{length, drop}
use borrow.Author.Tests.{leb-true, leb-false, le-leb, lt-leb, eqb-true, eqb-false, eq-eqb, ne_eqb}
use Rattle.convention.specs.declared.Head.{Head}
use Rattle.convention.specs.Numbers.{or_else, unless}
use Rattle.convention.specs.Layout.{length_bytes, version_at, kinds_at, shape_length, transition_length}
use Rattle.convention.specs.Fields.{length_field, length_no, version_of, is_version, version_no, opening_no, head_no, shape_no, head_of}
use Rattle.convention.specs.Sheets.{starts_no, sheet_kind_no, sheet_kind_length, sheet_kinds_no, sheet_no}
use Rattle.convention.specs.Tables.{table_kinds_no, transition_no, transitions_no, table_no}
use Rattle.convention.proofs.Numbers.{or_assoc, or_keeps}
use Rattle.demands.specs.Demands.{ReadingRefuses}

-- A number that may be given after the version: 0, or one from 3 on.
record Later (most n : ℕ) : Type 0 where
  which : (n ≡ 0) ⊎ ((3 ≤ n) × (n ≤ most))

later_none : (most : ℕ) → Later most 0
later_none most = record { which = inl refl }

later_or : (most a b : ℕ) → Later most a → Later most b → Later most (or_else a b)
later_or most a b = or_keeps (Later most) a b

later_test : (most : ℕ) (b : Bool) (n : ℕ) → leb 3 n ≡ true → n ≤ most → Later most (unless b n)
later_test most true n h k = later_none most
later_test most false n h k = record { which = inr (leb-true 3 n h, k) }

-- What both files have. (The comparisons are arguments so that the search finds them.)
module _ (most : ℕ) (three : 3 ≤ most) (four : 4 ≤ most) (five : 5 ≤ most) where
  later_head : (s : List ℕ) → Later most (head_no s)
  unfolding head_no
  later_head s = search (later_or, later_test, three, four)

  later_shape : (v : ℕ) (h : Head) (s : List ℕ) → Later most (shape_no v h s)
  unfolding shape_no
  later_shape v h s = search (later_or, later_test, three, five)

-- A sheet's kinds.
module _ (three : 3 ≤ 6) (four : 4 ≤ 6) (five : 5 ≤ 6) where
  later_starts : (n k : ℕ) (s : List ℕ) (at left : ℕ) → Later 6 (starts_no n k s at left)
  unfolding starts_no
  later_starts n k s at zero = later_none 6
  later_starts n k s at (suc left) = let on = later_starts n k s (at + 1) left in search (later_or, later_test, three, five)

  later_kind : (v : ℕ) (h : Head) (s : List ℕ) → Later 6 (sheet_kind_no v h s)
  unfolding sheet_kind_no
  later_kind v h s = let shape = later_shape 6 three four five v h s in search (later_or, later_test, later_starts, three, five)

  later_kinds : (v : ℕ) (h : Head) (s : List ℕ) (left : ℕ) → Later 6 (sheet_kinds_no v h s left)
  unfolding sheet_kinds_no
  later_kinds v h s zero = later_none 6
  later_kinds v h s (suc left) = later_or 6 _ _ (later_kind v h s) (later_kinds v h (drop (sheet_kind_length v s) s) left)

-- A table's kinds and transitions.
module _ (three : 3 ≤ 7) (four : 4 ≤ 7) (five : 5 ≤ 7) (seven : 7 ≤ 7) where
  later_shapes : (v : ℕ) (h : Head) (s : List ℕ) (left : ℕ) → Later 7 (table_kinds_no v h s left)
  unfolding table_kinds_no
  later_shapes v h s zero = later_none 7
  later_shapes v h s (suc left) = later_or 7 _ _ (later_shape 7 three four five v h s) (later_shapes v h (drop (shape_length v) s) left)

  later_transitions : (v : ℕ) (h : Head) (states : ℕ) (t : List ℕ) (at left : ℕ) → Later 7 (transitions_no v h states t at left)
  unfolding transitions_no transition_no
  later_transitions v h states t at zero = later_none 7
  later_transitions v h states t at (suc left) =
      let on = later_transitions v h states t (at + transition_length v) left in search (later_or, later_test, three, seven)

-- Whatever is read after the version: the tests of the length and of the version, by what each says.
module _ (most rest : ℕ) (some : 3 ≤ most) (later : Later most rest) where
  abbrev number : Bool → Bool → Bool → Bool → ℕ
  number long counted there right = or_else (unless (long && counted) 1) (or_else (or_else (unless there 3) (unless right 2)) rest)

  not_rest : (n : ℕ) → 0 < n → n < 3 → rest ≡ n → ⊥
  not_rest n h k e = elim later.which [ inl z ↦ omega arith | inr l ↦ omega arith ]

  rest_most : rest ≤ most
  rest_most = elim later.which [ inl z ↦ omega arith | inr l ↦ l.1 ]

  one_when : (long counted there right : Bool) → number long counted there right ≡ 1 ↔ (long ≡ false) ⊎ (counted ≡ false)
  one_when false counted there right = (λ _. inl refl, λ _. refl)
  one_when true false there right = (λ _. inr refl, λ _. refl)
  one_when true true false right = (λ e. absurd (omega arith), λ e. absurd (⊎_elim true≢false true≢false e))
  one_when true true true false = (λ e. absurd (omega arith), λ e. absurd (⊎_elim true≢false true≢false e))
  one_when true true true true = (λ e. absurd (not_rest 1 (omega arith) (omega arith) e), λ e. absurd (⊎_elim true≢false true≢false e))

  two_when : (long counted there right : Bool)
      → number long counted there right ≡ 2 ↔ (long ≡ true) × (counted ≡ true) × (there ≡ true) × (right ≡ false)
  two_when false counted there right = (λ e. absurd (omega arith), λ e. absurd (false≢true e.0))
  two_when true false there right = (λ e. absurd (omega arith), λ e. absurd (false≢true e.1))
  two_when true true false right = (λ e. absurd (omega arith), λ e. absurd (false≢true e.2))
  two_when true true true false = (λ _. (refl, refl, refl, refl), λ _. refl)
  two_when true true true true = (λ e. absurd (not_rest 2 (omega arith) (omega arith) e), λ e. absurd (true≢false e.3))

  number_most : (long counted there right : Bool) → number long counted there right ≤ most
  number_most false counted there right = omega arith
  number_most true false there right = omega arith
  number_most true true false right = some
  number_most true true true false = omega arith
  number_most true true true true = rest_most

  reading_refuses : (file : List ℕ) → ReadingRefuses file most (or_else (length_no file) (or_else (version_no file) rest))
  unfolding version_of
  reading_refuses file =
      let long = leb length_bytes (length file) in
      let counted = eqb (length_field file) (length file - length_bytes) in
      let there = leb (version_at + 1) (length file) in
      let right = is_version (version_of file) in
      record {
        one = Iff.trans (one_when long counted there right) (⊎_map (leb-false length_bytes _) (eqb-false _ _), ⊎_map (lt-leb length_bytes _) (ne_eqb _ _));
        two = Iff.trans (two_when long counted there right) (
          λ e. (leb-true length_bytes _ e.0, eqb-true _ _ e.1, leb-true (version_at + 1) _ e.2, eqb-false _ 1 e.3),
          λ e. (le-leb length_bytes _ e.0, eq-eqb _ _ e.1, le-leb (version_at + 1) _ e.2, ne_eqb _ 1 e.3),
        );
        others = number_most long counted there right;
      }

-- So of a sheet and of a table: what both read first is the length and the version.
opened : (file : List ℕ) (rest : ℕ) → or_else (opening_no file) rest ≡ or_else (length_no file) (or_else (version_no file) (or_else (head_no file) rest))
unfolding opening_no
opened file rest = or_assoc (length_no file) _ rest ∙ ap (or_else (length_no file)) (or_assoc (version_no file) (head_no file) rest)

pub sheet_refuses : (s : List ℕ) → ReadingRefuses s 6 (sheet_no s)
unfolding sheet_no
sheet_refuses s =
    let three : 3 ≤ 6 = omega arith in
    let four : 4 ≤ 6 = omega arith in
    let five : 5 ≤ 6 = omega arith in
    let six : 6 ≤ 6 = omega arith in
    let head = later_head 6 three four five s in
    let kinds = later_kinds three four five (version_of s) (head_of s) (drop kinds_at s) (head_of s).kinds in
    subst (ReadingRefuses s 6) (sym (opened s _)) (reading_refuses 6 _ three (search (later_or, later_test, rules)) s)

pub table_refuses : (limit : ℕ) (t : List ℕ) → ReadingRefuses t 7 (table_no limit t)
unfolding table_no
table_refuses limit t =
    let three : 3 ≤ 7 = omega arith in
    let four : 4 ≤ 7 = omega arith in
    let five : 5 ≤ 7 = omega arith in
    let six : 6 ≤ 7 = omega arith in
    let seven : 7 ≤ 7 = omega arith in
    let head = later_head 7 three four five t in
    let kinds = later_shapes three four five seven (version_of t) (head_of t) (drop kinds_at t) (head_of t).kinds in
    let rows = later_transitions three four five seven in
    subst (ReadingRefuses t 7) (sym (opened t _)) (reading_refuses 7 _ three (search (later_or, later_test, rules)) t)
