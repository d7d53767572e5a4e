-- `decide`: a failed test, a faulty step, or a list that is placed; one law for each.
use Rattle.std.proofs.Common.{rules}
use Rattle.stepping.proofs.Calls.{list_refused, list_faulty, list_placed}
use Rattle.stepping.proofs.decide.Goals as goal

pub returns-in_err-test_list : goal.returns-in_err-test_list
returns-in_err-test_list g c =
    let refused = list_refused _ _ (g.P.Placer.way c.args.placer.now) _ _ _ c.args.records.now _ c.in_err-test_list.ensures c.kinds.ensures in search rules

pub returns-in_err-p : goal.returns-in_err-p
returns-in_err-p g c =
    let faulty = list_faulty _ _ _ _ _ _ _ c.in_ok-test_list.ensures c.kinds.ensures _ _ c.requires _ c.in_err-p.ensures in search rules

pub returns : goal.returns
returns g c = list_placed _ _ _ _ _ _ _ c.in_ok-test_list.ensures c.kinds.ensures _ _ c.requires _ c.in_ok-p.ensures
