-- `read_full`: what is left to fill grows less with each read that gives a byte.
use Rattle.std.proofs.Common.{◌-◌, ◌≤◌, length}
use Rattle.judge_sheet.proofs.read_full.Given as goal

abbrev pub invariant-loop-done : goal.invariant-loop-done
invariant-loop-done g l = l.done ≤ length l.input

abbrev pub decreases-loop-done : goal.decreases-loop-done
decreases-loop-done g l = length l.initial.input - l.done
