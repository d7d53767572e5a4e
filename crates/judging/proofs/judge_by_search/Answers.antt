-- `judge_by_search`: the least list can be walked, and is faulty.
use Rattle.judging.proofs.Answers.{judge_known, judge_faulty}
use Rattle.judging.proofs.judge_by_search.Goals as goal

pub list_fault-requires : goal.list_fault-requires
list_fault-requires c = rw c.as_slice-kinds.ensures (judge_known _ _ _ c.requires.judge_asks _ c.least_list-best.ensures _ c.in-Some.is)

pub unwrap_err-fault-requires : goal.unwrap_err-fault-requires
unwrap_err-fault-requires c = judge_faulty _ _ _ c.requires.judge_asks _ c.least_list-best.ensures _ c.in-Some.is _ (rw c.as_slice-kinds.ensures at c.list_fault.ensures)
