-- `place_by_rules`: what is said of the list, or the reader's refusal.
use Rattle.placing.proofs.Calls.{placed_answer, placed_memory, refused_memory}
use Rattle.placing.proofs.place_by_rules.Goals as goal

pub returns-in_err-rules-clause-out_after : goal.returns-in_err-rules-clause-out_after
returns-in_err-rules-clause-out_after c = refused_memory _ _ c.in_err-rules.ensures _ _

pub returns : goal.returns
returns c =
    let read = c.in_ok-rules.ensures in record {
      value = placed_answer _ _ read.0 read.1 _ _ _ _ c.place_list.ensures;
      out_after = placed_memory _ _ read.0 read.1 _ _ _ _ c.place_list.ensures;
    }
