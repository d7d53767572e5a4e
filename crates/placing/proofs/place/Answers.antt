-- `place`: no start was found, and the stack is allowed.
use Rattle.placing.proofs.Steps.{found_stack}
use Rattle.placing.proofs.place.Goals as goal

pub returns-then-may_use_stack : goal.returns-then-may_use_stack
returns-then-may_use_stack c =
    rw c.in_default.is (
    found_stack _ _ _ _ _ _ c.may_use_stack.ensures c.if-may_use_stack.true c.least_offset-offset.ensures.result_value c.stack_bytes.ensures
    )
