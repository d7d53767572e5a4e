-- `gives`: what is given after a transition before which nothing was is what it gives.
use Rattle.judging.proofs.Stepping.{gives_is}
use borrow.Author.Rules.{rules}
use Rattle.judging.proofs.steps.gives.Goals as goal

pub returns : goal.returns
returns c = search (gives_is, rules)
