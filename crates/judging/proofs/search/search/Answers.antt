use Rattle.std.proofs.Common.{refl, arith}
use Rattle.judging.proofs.Searching.{search_end, search_none, search_through, search_hit, search_turn}
use Rattle.judging.proofs.search.search.Goals as goal

pub returns-in_err-node : goal.returns-in_err-node
returns-in_err-node c = rw c.from_residual.ensures (search_none _ _ _ c.args.table.now.read _ c.requires _ _ c.loop-i.invariant c.loop-i-test.true _ c.in_err-node.ensures refl)

pub go_through-requires : goal.go_through-requires
go_through-requires c = search_through _ _ _ c.args.table.now.read _ c.requires _ _ c.loop-i.invariant c.loop-i-test.true _ c.in_ok-node.ensures _ refl

pub returns-in-Some : goal.returns-in-Some
returns-in-Some c =
    search_hit _ _ _ c.args.table.now.read _ c.requires _ _ c.loop-i.invariant c.loop-i-test.true _ c.in_ok-node.ensures _ refl _ _ c.in-Some.ensures _ refl

pub loop-i-preserved : goal.loop-i-preserved
loop-i-preserved c =
    search_turn _ _ _ c.args.table.now.read _ c.requires _ _ c.loop-i.invariant c.loop-i-test.true _ c.in_ok-node.ensures _ refl _ _ c.in_default.ensures refl

pub returns : goal.returns
returns c = search_end _ _ _ c.args.table.now.read _ c.requires _ _ c.loop-i.invariant (omega arith)
