-- Laws of what a kind's shape asks of a place: the registers that it needs are the fewest that hold it, and a right count; the stack bytes are few.
use Prim.Native.Nat.{ℕ, ◌+◌, ◌-◌, ◌*◌, ◌≤◌, ◌<◌}
use mathlib.Core.Path.{◌≡◌, refl}
use mathlib.Core.Bool.{true}
use native.Mathlib.Nat.{le_of_suc-le-suc, lt-div-mul-add, div-lt_iff_lt-mul}
use native.Mathlib.Omega.{arith}
use borrow.Author.Tests.{eq-eqb}
use Rattle.convention.specs.declared.Head.{Head}
use Rattle.convention.specs.declared.Shape.{Shape}
use Rattle.convention.specs.Shapes.{registers_needed, right_count, stack_bytes}
use Rattle.convention.specs.Promised.{ShapeRead}

-- 'size / w rounded up' is the least count of registers that hold the size.
pub needed_least : (w : ℕ) (shape : Shape) → 0 < w
    → (shape.size ≤ registers_needed w shape * w) × ((b : ℕ) → shape.size ≤ b * w → registers_needed w shape ≤ b)
needed_least w shape h = (omega (arith, lt-div-mul-add {a = shape.size + w - 1} h), λ b l. le_of_suc-le-suc ((div-lt_iff_lt-mul h).1 (omega arith)))

-- The registers needed are a right count.
pub needed_right : (w : ℕ) (shape : Shape) → right_count w (registers_needed w shape) shape ≡ true
unfolding right_count
needed_right w shape = eq-eqb (registers_needed w shape) _ refl

-- What a shape that was read takes of the stack.
pub stack_most : (h : Head) (shape : Shape) → ShapeRead h shape → stack_bytes shape ≤ 64
unfolding stack_bytes
stack_most h shape r = r.size
