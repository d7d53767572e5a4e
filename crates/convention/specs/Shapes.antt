-- Documents 01 and 02: what a kind's shape, its size and alignment, asks of a place, by the rules and by a table alike.
use Rattle.std.specs.Prelude.{ℕ, ◌+◌, ◌-◌, ◌*◌, ◌/◌, Bool, eqb}
use Rattle.convention.specs.declared.Shape.{Shape}

-- 'A kind needs k registers, size / w rounded up.'
abbrev pub registers_needed : ℕ → Shape → ℕ
registers_needed w shape = (shape.size + w - 1) / w

-- When a register count b is right, by document 02, W-202: 'Fault 3 should be given for any register count other than the size over w, rounded up.'
unfoldable pub right_count : ℕ → ℕ → Shape → Bool
right_count w b shape = eqb b (registers_needed w shape)

-- On the stack 'it takes size bytes'.
unfoldable pub stack_bytes : Shape → ℕ
stack_bytes shape = shape.size

-- The most that p grows by in a step, 15 bytes that are skipped and 64 that are taken; and the most that it is after so many: 'the final p, which is at
-- most 31,600'.
abbrev pub step_most : ℕ
step_most = 79

abbrev pub p_most : ℕ → ℕ
p_most arguments = step_most * arguments
