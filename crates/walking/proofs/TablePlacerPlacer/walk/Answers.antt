-- `walk`: what comes of an argument, its fault or the next argument; and the end.
use Rattle.std.proofs.lemmas.Result.{MatchResult-weaker, err_from_is_err_and}
use Rattle.walking.proofs.Lists.{standing_next, standing_hit, standing_end}
use borrow.Author.Rules.{rules}
use Rattle.walking.proofs.TablePlacerPlacer.walk.Goals as goal

pub returns-in_err-s : goal.returns-in_err-s
returns-in_err-s c =
    let faulty = MatchResult-weaker c.argument.result c.in_err-s.ensures.cases (λ _ e. e) (λ fault e. search rules) in
    let hit = standing_hit _ _ _ _ _ _ _ c.loop-i.invariant c.requires c.loop-i-test.true _ c.of-step.ensures _
    _ c.argument.ensures c.argument.auto.records c.in_err-s.field-0.0 faulty in
    let came = err_from_is_err_and c.from_residual.result c.from_residual.ensures.1 in
    rw (came.1, came.2) hit

pub loop-i-preserved : goal.loop-i-preserved
loop-i-preserved c =
    standing_next _ _ _ _ _ _ _ c.loop-i.invariant c.requires c.loop-i-test.true _ c.of-step.ensures _
    _ c.argument.ensures c.args.self.now.0.read.head _ c.in_ok-s.ensures.cases

pub returns : goal.returns
returns c = search (standing_end, rules)
