-- `walk`: the next step can be taken, and it ends the walk or leads on.
use Rattle.placing.proofs.Lists.{kind_there, next_asks, making_hit, making_on, making_end}
use Rattle.placing.proofs.RulesPlacer.walk.Goals as goal

pub bounds-self-k : goal.bounds-self-k
bounds-self-k c = kind_there _ _ _ _ _ _ _ c.loop-i.invariant c.args.self.now.read c.requires c.loop-i-test.true

pub bounds-from-k : goal.bounds-from-k
bounds-from-k c = kind_there _ _ _ _ _ _ _ c.loop-i.invariant c.args.self.now.read c.requires c.loop-i-test.true

pub step_from-stepped-requires : goal.step_from-stepped-requires
step_from-stepped-requires c = next_asks _ _ _ _ _ _ _ c.loop-i.invariant c.args.self.now.read c.requires c.loop-i-test.true

pub returns-in-Nowhere : goal.returns-in-Nowhere
returns-in-Nowhere c =
    making_hit _ _ _ _ _ _ _ c.loop-i.invariant c.args.self.now.read c.requires c.loop-i-test.true _ _ _ c.step_from-stepped.ensures c.in-Nowhere.is

pub loop-i-preserved : goal.loop-i-preserved
loop-i-preserved c =
    making_on _ _ _ _ _ _ _ c.loop-i.invariant c.args.self.now.read c.requires c.loop-i-test.true _ _ _ c.step_from-stepped.ensures _ c.in_default.not-Nowhere
    c.write_record.ensures

pub returns : goal.returns
returns c = making_end _ _ _ _ _ _ _ c.loop-i.invariant c.loop-i-test.false
