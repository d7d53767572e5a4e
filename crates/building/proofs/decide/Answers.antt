-- `decide`: one state more is gone through at each turn, or there are too many; none is left at the end.
use Rattle.std.proofs.Common.{◌≤◌, length, arith}
use Rattle.std.proofs.lemmas.Result.{err_from_is_err_and}
use Rattle.building.proofs.Meeting.{first_fits, exploring_begin, exploring_on, exploring_over, exploring_end}
use Rattle.building.proofs.decide.Goals as goal
use Rattle.building.proofs.decide.Goals.{else-loop-i-test, then-loop-i-test+in_default}

pub returns-in_err-meet : goal.returns-in_err-meet
returns-in_err-meet c =
    let p = err_from_is_err_and c.from_residual.result c.from_residual.ensures.1 in
    rw (p.1, p.2) (first_fits _ _ _ (rw c.new-states.ensures at c.in_err-meet.ensures))

pub loop-i-init : goal.loop-i-init
loop-i-init c = exploring_begin _ _ c.args.rules.now.read c.requires _ _ _ c.first_state.ensures (rw c.new-states.ensures at c.in_ok-meet.ensures)

pub returns-in_err-pass_kinds : goal.returns-in_err-pass_kinds
returns-in_err-pass_kinds c =
    let p = err_from_is_err_and c.from_residual-in_err-pass_kinds.result c.from_residual-in_err-pass_kinds.ensures.1 in
    rw (p.1, p.2) (exploring_over _ _ c.args.rules.now.read c.requires _ _ _ c.loop-i.invariant c.in-Some.ensures.few c.in-Some.ensures.value.0 _ c.in_err-pass_kinds.ensures)

pub loop-i-preserved : goal.loop-i-preserved
loop-i-preserved c =
    exploring_on _ _ c.args.rules.now.read c.requires _ _ _ c.loop-i.invariant c.in-Some.ensures.few c.in-Some.ensures.value.0 _ _ c.in_ok-pass_kinds.ensures

pub returns : goal.returns
returns c =
    let all : length c.loop-i.states ≤ c.loop-i.i = elim c.loop-i-test.branch [
      | else-loop-i-test w ↦ omega arith
      | then-loop-i-test+in_default w ↦ w.in_default.ensures.value
    ] in
    rw c.count.ensures.value (exploring_end _ _ c.args.rules.now.read c.requires _ _ _ c.loop-i.invariant c.count.ensures.few all)
