-- `step_from`: the search, the place and the state after it, in turn.
use Rattle.placing.proofs.Steps.{after_asks, step_is}
use borrow.Author.Rules.{rules}
use Rattle.placing.proofs.step_from.Goals as goal

pub after-reached-requires : goal.after-reached-requires
after-reached-requires c = search (after_asks, rules)

pub returns : goal.returns
returns c =
    step_is _ _ _ c.requires.step _ _ _ _ c.registers_needed-count.ensures c.search-searched.ensures _ c.place-found.ensures c.requires.cursor _
    c.after-reached.ensures _ (rw (← c.unwrap_or.ensures) c.cursor.ensures)
