-- Where a placement ends, which is what bounds it.
use Rattle.std.specs.Prelude.{ℕ, ◌+◌}
use Rattle.convention.specs.declared.Placement.{Placement}
use Rattle.convention.specs.declared.Placement.TheVariants.{Registers, Stack, Nowhere}

-- The register after the last of its run; 0 where it has none.
abbrev pub run_end : Placement → ℕ
run_end (Registers first count) = first.0 + count
run_end (Stack offset count) = 0
run_end Nowhere = 0

-- The offset after the last of its stack bytes; 0 where it has none.
abbrev pub stack_end : Placement → ℕ
stack_end (Registers first count) = 0
stack_end (Stack offset count) = offset.0 + count
stack_end Nowhere = 0
