-- `pass`: what the kind leads to is met, and its number makes the transition.
use Rattle.std.proofs.lemmas.Result.{err_from_is_err_and}
use Rattle.building.proofs.Meeting.{pass_over, passes}
use Rattle.building.proofs.pass.Goals as goal

pub returns-in_err-met : goal.returns-in_err-met
returns-in_err-met c =
    let p = err_from_is_err_and c.from_residual.result c.from_residual.ensures.1 in
    rw (p.1, p.2) (pass_over _ _ _ _ _ c.lead-led.ensures _ _ c.in_err-met.ensures)

pub returns : goal.returns
returns c = passes _ _ _ _ _ c.lead-led.ensures _ _ _ _ _ _ c.in_ok-met.ensures (rw c.unwrap_or.ensures at c.write_made.ensures)
