-- Laws of the layout. They are what the readers, the writer and their laws know of lengths and positions: how many bytes a shape, a state's number and a
-- transition take, that what was written is read back, that every position can be counted, and how long the longest table is.
use Prim.Native.Nat.{ℕ, ◌+◌, ◌*◌, ◌≤◌, ◌<◌}
use mathlib.Core.Path.{◌≡◌, refl}
use mathlib.Core.List.{List, [], ◌∷◌, ◌++◌, append-nil}
use native.Mathlib.Nat.{mul-add, mul_assoc, mul-le-mul, mul-le-mul_left}
use native.Mathlib.Omega.{arith}
use lib.ListN.{length, get_or, take, drop}
use lib.Seq.{get_or-take, get_or-drop, get_or-append_seam}
use Rattle.convention.specs.declared.Head.{Head}
use Rattle.convention.specs.declared.Shape.{Shape}
use Rattle.convention.specs.declared.Transition.{Transition}
use Rattle.convention.specs.Layout.{size_at, alignment_at, shape_length, table_kind_at, state_length, states_at, rows_at, form_at, a_at, b_at, next_at}
use Rattle.convention.specs.Layout.{transition_length, row_length, row_at, transition_at, table_length, longest_table, LengthSaid}
use Rattle.convention.specs.Numbers.{state_limit}
use Rattle.convention.specs.Fields.{shape_of, shape_bytes, state_field, state_bytes}
use Rattle.convention.specs.Tables.{transition_of, transition_bytes}

-- A shape's fields lie within it, and its length can be said in a byte; a state's number takes at least one.
pub shape_some : (v : ℕ) → alignment_at < shape_length v
unfolding shape_length
shape_some v = omega arith

pub shape_small : (v : ℕ) → shape_length v ≤ 255
unfolding shape_length
shape_small v = omega arith

pub state_some : (v : ℕ) → 0 < state_length v
unfolding state_length
state_some v = omega arith

-- A shape's bytes: how many, that they say the shape, and that nothing after them matters.
pub shape_wide : (v : ℕ) (shape : Shape) → length (shape_bytes v shape) ≡ shape_length v
unfolding shape_bytes shape_length
shape_wide v shape = refl

pub shape_back : (v : ℕ) (shape : Shape) → shape_of v (shape_bytes v shape) ≡ shape
unfolding shape_bytes shape_of
shape_back v shape = refl

pub shape_part : (v : ℕ) (s : List ℕ) → shape_of v (take (shape_length v) s) ≡ shape_of v s
unfolding shape_length shape_of
shape_part v s =
    let size : size_at < shape_length v = omega arith in
    let alignment : alignment_at < shape_length v = omega arith in
    rw (get_or-take, get_or-take)

-- The same of a state's number, which stands at some byte.
pub state_wide : (v n : ℕ) → length (state_bytes v n) ≡ state_length v
unfolding state_bytes state_length
state_wide v n = refl

pub state_back : (v n : ℕ) (before after : List ℕ) → state_field v (before ++ (state_bytes v n ++ after)) (length before) ≡ n
unfolding state_field state_bytes
state_back v n before after = get_or-append_seam before n after 0

pub state_part : (v : ℕ) (s : List ℕ) (at k j : ℕ) → j + state_length v ≤ k → state_field v (take k (drop at s)) j ≡ state_field v s (at + j)
unfolding state_field state_length
state_part v s at k j h = let below : j < k = omega arith in rw (get_or-take, get_or-drop)

-- And of a transition.
pub transition_wide : (v : ℕ) (x : Transition) → length (transition_bytes v x) ≡ transition_length v
transition_wide v x = rw (state_wide v x.next) (omega arith)

pub transition_back : (v : ℕ) (x : Transition) → transition_of v (transition_bytes v x) 0 ≡ x
transition_back v x =
    let next : state_field v (transition_bytes v x) next_at ≡ x.next = rw append-nil at (state_back v x.next (x.form ∷ x.a ∷ x.b ∷ []) []) in
    rw next

pub transition_part : (v : ℕ) (t : List ℕ) (at : ℕ) → transition_of v (take (transition_length v) (drop at t)) 0 ≡ transition_of v t at
transition_part v t at =
    let byte : (j : ℕ) → j < next_at → get_or (take (transition_length v) (drop at t)) j 0 ≡ get_or t (at + j) 0 =
    λ j h. let inside : j < transition_length v = omega arith in rw (get_or-take, get_or-drop) in
    rw (
      state_part v t at (transition_length v) next_at (omega arith),
      byte form_at (omega arith),
      byte a_at (omega arith),
      byte b_at (omega arith),
    )

-- No table is longer than the longest.
pub table_most : (v : ℕ) (h : Head) (states limit : ℕ) → h.kinds ≤ 8 → states ≤ limit → table_length v h states ≤ longest_table v limit
table_most v h states limit few counted =
    let row : row_length v h ≤ transition_length v * 8 = mul-le-mul_left (transition_length v) few in
    omega (arith, mul-le-mul_left (shape_length v) few, mul-le-mul row counted)

-- Two bytes can say the length of every table.
pub length_said : LengthSaid state_limit
unfolding shape_length state_length
length_said v = omega arith

-- A row, and a transition in it, end where the next one starts, and so within the table.
module _ (v : ℕ) (h : Head) (states state : ℕ) (known : state < states) where
  pub row_inside : row_at v h state + row_length v h ≤ table_length v h states
  row_inside = omega (arith, mul-le-mul_left (row_length v h) known)

  pub transition_inside : (k : ℕ) → k < h.kinds → transition_at v h state k + transition_length v ≤ table_length v h states
  transition_inside k below = omega (arith, row_inside, mul-le-mul_left (transition_length v) below)

-- A kind lies within the kinds.
pub kind_inside : (v : ℕ) (h : Head) (k : ℕ) → k < h.kinds → table_kind_at v k + shape_length v ≤ states_at v h
kind_inside v h k below = omega (arith, mul-le-mul_left (shape_length v) below)

-- Transition k of row `state` is number m * state + k of all.
pub transition_counted : (v : ℕ) (h : Head) (state k : ℕ)
    → rows_at v h + transition_length v * (h.kinds * state + k) ≡ transition_at v h state k
transition_counted v h state k = rw (mul-add, ← mul_assoc) (omega arith)
