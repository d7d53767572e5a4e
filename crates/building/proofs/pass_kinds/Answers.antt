-- `pass_kinds`: one kind more is gone through at each turn, or there are too many states.
use Rattle.std.proofs.Common.{rules}
use Rattle.std.proofs.lemmas.Result.{err_from_is_err_and}
use Rattle.building.proofs.Meeting.{passing_begin, cell_there, passing_on, passing_over, passing_end}
use Rattle.building.proofs.pass_kinds.Goals as goal

pub loop-k-init : goal.loop-k-init
loop-k-init c = search (passing_begin, rules)

pub pass-requires : goal.pass-requires
pass-requires c = record { below = search rules; there = search (cell_there, rules) }

pub returns-in_err-pass : goal.returns-in_err-pass
returns-in_err-pass c =
    let p = err_from_is_err_and c.from_residual.result c.from_residual.ensures.1 in
    rw (p.1, p.2) (passing_over _ _ _ _ _ c.args.rules.now.read c.requires _ _ _ c.loop-k.invariant c.loop-k-test.true _ _ c.rows_length-row.ensures.value c.in_row-at.ensures _ c.in_err-pass.ensures)

pub loop-k-preserved : goal.loop-k-preserved
loop-k-preserved c =
    passing_on _ _ _ _ _ c.args.rules.now.read c.requires _ _ _ c.loop-k.invariant c.loop-k-test.true _ _ c.rows_length-row.ensures.value c.in_row-at.ensures _ _ c.in_ok-pass.ensures

pub returns : goal.returns
returns c = search (passing_end, rules)
