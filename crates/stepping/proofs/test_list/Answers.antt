-- `test_list`: a list that passes its first tests has an unknown kind, or none.
use Rattle.stepping.proofs.Calls.{tested_unknown, tested_known}
use Rattle.stepping.proofs.test_list.Goals as goal

pub returns-in-Some : goal.returns-in-Some
returns-in-Some c = tested_unknown _ _ _ _ c.in_ok-check_size.ensures _ c.in-Some.ensures

pub returns-in-None : goal.returns-in-None
returns-in-None c = tested_known _ _ _ _ c.in_ok-check_size.ensures c.in-None.ensures
