-- Laws of what both readers read: fields and kinds one after the other, the length, the version, the head and a kind's shape. What is promised where the number is 0;
-- and the other way round, that no number is given where the bytes are there and have the values that are promised of them.
use Prim.Native.Nat.{ℕ, zero, suc, ◌+◌, ◌-◌, ◌*◌, ◌≤◌, ◌<◌}
use mathlib.Core.Path.{◌≡◌, sym, ap, ◌∙◌}
use mathlib.Core.Bool.{true, and-eq-true_iff}
use mathlib.Core.List.{List, [], ◌∷◌, ◌++◌}
use native.Mathlib.Nat.{add-zero, mul-zero}
use native.Mathlib.Omega.{arith}
use lib.Dec.{lit<}
use lib.ListN.{length, get_or, drop, replicate, length-append, length-replicate}
use lib.Seq.{drop-drop}
use borrow.Author.Tests.{leb-true, le-leb}
use Rattle.convention.specs.declared.Head.{Head}
use Rattle.convention.specs.Numbers.{or_else}
use Rattle.convention.specs.Layout.{version_at, registers_at, width_at, modulus_at, kinds_count_at, kinds_at, size_at, alignment_at, shape_length}
use Rattle.convention.specs.Fields.{length_no, version_of, is_version, version_no, head_of, head_no, opening_no, shape_no, shape_of}
use Rattle.convention.specs.Promised.{HeadRead, ShapeRead}
use Rattle.convention.proofs.Numbers.{or_zero, or_on, field_zero, field_pass}

-- Fields of w bytes one after the other, each tested by `one` and `left` of them by `run`: where `run` gives no number, none does.
pub fields_zero : (w : ℕ) (one : ℕ → ℕ) (run : ℕ → ℕ → ℕ) → ((at left : ℕ) → run at (suc left) ≡ or_else (one at) (run (at + w) left))
    → (at left : ℕ) → run at left ≡ 0 → (i : ℕ) → i < left → one (at + w * i) ≡ 0
fields_zero w one run next at zero e i h = absurd (omega arith)
fields_zero w one run next at (suc left) e zero h = rw (mul-zero, add-zero) (or_zero (one at) _ (sym (next at left) ∙ e)).0
fields_zero w one run next at (suc left) e (suc i) h =
    let place : at + w + w * i ≡ at + w * suc i = omega arith in
    rw place at (fields_zero w one run next (at + w) left (or_zero (one at) _ (sym (next at left) ∙ e)).1 i (omega arith))

-- Kinds one after the other: `of` makes the one at the first byte, which takes `long` bytes, and `all` makes `left` of them.
module _ {A : Type 0} (long : List ℕ → ℕ) (of : List ℕ → A) (all : List ℕ → ℕ → List A)
    (none : (s : List ℕ) → all s 0 ≡ [])
    (more : (s : List ℕ) (left : ℕ) → all s (suc left) ≡ of s ∷ all (drop (long s) s) left) where
  -- So many are made.
  pub after_count : (s : List ℕ) (left : ℕ) → length (all s left) ≡ left
  after_count s zero = rw (none s)
  after_count s (suc left) = rw (more s left) (ap suc (after_count (drop (long s) s) left))

  -- Kind i is made from where the i kinds before it end.
  pub after_at : (ends : List ℕ → ℕ → ℕ) → ((s : List ℕ) → ends s 0 ≡ 0)
      → ((s : List ℕ) (i : ℕ) → ends s (suc i) ≡ long s + ends (drop (long s) s) i)
      → (s : List ℕ) (left i : ℕ) (d : A) → i < left → get_or (all s left) i d ≡ of (drop (ends s i) s)
  after_at ends first next s zero i d h = absurd (omega arith)
  after_at ends first next s (suc left) zero d h = rw (more s left, first s)
  after_at ends first next s (suc left) (suc i) d h =
      rw (more s left, next s i, ← drop-drop (ends (drop (long s) s) i) (long s) s)
      (after_at ends first next (drop (long s) s) left i d (omega arith))

  -- Each is tested by `one`, and `left` of them by `run`: where `run` gives no number, each is as `one` promises.
  pub after_read : (one : List ℕ → ℕ) (run : List ℕ → ℕ → ℕ)
      → ((s : List ℕ) (left : ℕ) → run s (suc left) ≡ or_else (one s) (run (drop (long s) s) left))
      → (P : A → Type 0) → ((s : List ℕ) → one s ≡ 0 → P (of s))
      → (s : List ℕ) (left : ℕ) → run s left ≡ 0 → (i : ℕ) → i < left → (d : A) → P (get_or (all s left) i d)
  after_read one run next P read s zero e i h d = absurd (omega arith)
  after_read one run next P read s (suc left) e zero h d = rw (more s left) (read s (or_zero (one s) _ (sym (next s left) ∙ e)).0)
  after_read one run next P read s (suc left) e (suc i) h d =
      let later = (or_zero (one s) _ (sym (next s left) ∙ e)).1 in
      rw (more s left) (after_read one run next P read (drop (long s) s) left later i (omega arith) d)

-- An array of n that begins with m elements and is filled up.
pub filled_length {ℓ} : {A : Type ℓ} (l : List A) (m n : ℕ) (z : A) → length l ≡ m → m ≤ n → length (l ++ replicate (n - m) z) ≡ n
filled_length l m n z e h = rw (length-append, length-replicate, e) (omega arith)

-- The head: its bytes are there, and its fields have their values.
head_fields : (s : List ℕ) → head_no s ≡ 0 → (kinds_at ≤ length s) × HeadRead (head_of s)
unfolding head_no head_of
head_fields s e =
    let a = or_zero _ _ e in
    let b = or_zero _ _ a.1 in
    let c = or_zero _ _ b.1 in
    let last = field_zero s kinds_count_at _ 4 (lit< tt) c.1 in
    let kinds = (and-eq-true_iff _ _).0 last.1 in (
      last.0,
      record {
        registers = leb-true _ 16 (field_zero s registers_at _ 4 (lit< tt) a.0).1;
        width = (field_zero s width_at _ 4 (lit< tt) b.0).1;
        modulus = (field_zero s modulus_at _ 4 (lit< tt) c.0).1;
        some = leb-true 1 _ kinds.0;
        kinds = leb-true _ 8 kinds.1;
      },
    )

pub head_there : (s : List ℕ) → head_no s ≡ 0 → kinds_at ≤ length s
head_there s e = (head_fields s e).0

pub head_read : (s : List ℕ) → head_no s ≡ 0 → HeadRead (head_of s)
head_read s e = (head_fields s e).1

pub opening_head : (s : List ℕ) → opening_no s ≡ 0 → head_no s ≡ 0
unfolding opening_no
opening_head s e = (or_zero (version_no s) _ (or_zero (length_no s) _ e).1).1

pub opening_version : (s : List ℕ) → opening_no s ≡ 0 → is_version (version_of s) ≡ true
unfolding opening_no
opening_version s e = (field_zero s version_at _ 2 (lit< tt) (or_zero (version_no s) _ (or_zero (length_no s) _ e).1).0).1

-- A kind's shape, likewise.
shape_fields : (v : ℕ) (h : Head) (s : List ℕ) → shape_no v h s ≡ 0 → (shape_length v ≤ length s) × ShapeRead h (shape_of v s)
unfolding shape_no shape_of shape_length
shape_fields v h s e =
    let a = or_zero _ _ e in
    let last = field_zero s alignment_at _ 5 (lit< tt) a.1 in
    let size = (and-eq-true_iff _ _).0 (field_zero s size_at _ 5 (lit< tt) a.0).1 in
    let alignment = (and-eq-true_iff _ _).0 last.1 in (
      last.0,
      record {
        some = leb-true 1 _ size.0;
        size = leb-true _ 64 size.1;
        alignment = alignment.0;
        within = leb-true _ _ alignment.1;
      },
    )

pub shape_there : (v : ℕ) (h : Head) (s : List ℕ) → shape_no v h s ≡ 0 → shape_length v ≤ length s
shape_there v h s e = (shape_fields v h s e).0

pub shape_read : (v : ℕ) (h : Head) (s : List ℕ) → shape_no v h s ≡ 0 → ShapeRead h (shape_of v s)
shape_read v h s e = (shape_fields v h s e).1

-- The other way round: the head, the opening, and a shape.
head_pass : (s : List ℕ) → kinds_at ≤ length s → HeadRead (head_of s) → head_no s ≡ 0
unfolding head_no head_of
head_pass s h r =
    or_on _ _ (field_pass s registers_at _ 4 (omega arith) (le-leb _ _ r.registers))
    ∙ or_on _ _ (field_pass s width_at _ 4 (omega arith) r.width)
    ∙ or_on _ _ (field_pass s modulus_at _ 4 (omega arith) r.modulus)
    ∙ field_pass s kinds_count_at _ 4 (omega arith) ((and-eq-true_iff _ _).1 (le-leb _ _ r.some, le-leb _ _ r.kinds))

pub opening_pass : (s : List ℕ) → length_no s ≡ 0 → kinds_at ≤ length s → is_version (version_of s) ≡ true → HeadRead (head_of s) → opening_no s ≡ 0
unfolding opening_no
opening_pass s e h v r = or_on _ _ e ∙ or_on _ _ (field_pass s version_at _ 2 (omega arith) v) ∙ head_pass s h r

pub shape_pass : (v : ℕ) (h : Head) (s : List ℕ) → shape_length v ≤ length s → ShapeRead h (shape_of v s) → shape_no v h s ≡ 0
unfolding shape_no shape_of shape_length
shape_pass v h s l r =
    or_on _ _ (field_pass s size_at _ 5 (omega arith) ((and-eq-true_iff _ _).1 (le-leb _ _ r.some, le-leb _ _ r.size)))
    ∙ field_pass s alignment_at _ 5 (omega arith) ((and-eq-true_iff _ _).1 (r.alignment, le-leb _ _ r.within))
