use Rattle.std.proofs.Common.{rules, refl}
use Rattle.judging.proofs.Searching.{through_state, through_begin, through_in, through_hit, through_meets, through_turn}
use Rattle.judging.proofs.search.go_through.Goals as goal

pub overflow_cast-state : goal.overflow_cast-state
overflow_cast-state c = let inside = through_state _ _ _ c.args.table.now.read _ _ _ c.requires in search rules

pub loop-k-init : goal.loop-k-init
loop-k-init c = search (through_begin, rules)

pub of-step-requires : goal.of-step-requires
of-step-requires c = through_in _ _ _ c.args.table.now.read _ _ _ c.requires _ _ c.loop-k.invariant c.loop-k-test.true

pub meet-requires : goal.meet-requires
meet-requires c = (
  search rules,
  through_meets _ _ _ c.args.table.now.read _ _ _ c.requires _ _ c.loop-k.invariant c.loop-k-test.true _ c.of-step.ensures _ c.in-Ok.ensures _ refl,
)

pub returns-in-Err : goal.returns-in-Err
returns-in-Err c =
    through_hit _ _ _ c.args.table.now.read _ _ _ c.requires _ _ c.loop-k.invariant c.loop-k-test.true _ c.of-step.ensures _ c.in-Err.ensures _ refl

pub loop-k-preserved : goal.loop-k-preserved
loop-k-preserved c =
    through_turn _ _ _ c.args.table.now.read _ _ _ c.requires _ _ c.loop-k.invariant c.loop-k-test.true _ c.of-step.ensures _ c.in-Ok.ensures _ refl
    _ _ c.meet.ensures
