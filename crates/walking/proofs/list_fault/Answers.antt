-- `list_fault`: the fault of the step at which the loop ends is that of the list.
use Rattle.walking.proofs.Faulting.{faulting_hit}
use borrow.Author.Rules.{rules}
use Rattle.walking.proofs.list_fault.Goals as goal

pub returns-in_err-check : goal.returns-in_err-check
returns-in_err-check c =
    let hit = faulting_hit _ _ _ _ _ _ c.loop-k.invariant c.loop-k-test.true _ c.of-step.ensures _ c.in_err-check.ensures in
    search rules
