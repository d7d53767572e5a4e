-- `check_batch`: each turn is one of the transitions that are left.
use Rattle.std.proofs.Common.{ℕ, ◌≡◌, ◌<◌, ◌+◌, ◌-◌, sym, ◌∙◌, arith}
use Rattle.std.proofs.Math.Nat.{mul-one}
use Rattle.table.proofs.Runs.{transitions_run_lem, gathered_turn, gathered_done}
use Rattle.table.proofs.There.{others_there}
use Rattle.table.proofs.TableRows.check_batch.Goals as goal

after : (done count : ℕ) → done < count → 1 + (count - (done + 1)) ≡ count - done
after done count h = omega arith

pub loop-preserved : goal.loop-preserved
loop-preserved c = record {
  number = gathered_turn _ (transitions_run_lem _ _ _ _).turns _ _ _ _ _ _ _ c.loop.invariant.number c.loop-test.true c.is_right-right.ensures c.transition_length-at.ensures.value;
  there = others_there _ _ _ _ _ _ _ (after _ _ c.loop-test.true) c.loop.invariant.there (c.transition_length-at.ensures.value ∙ sym (mul-one _));
}

pub returns : goal.returns
returns c = c.check.ensures ∙ gathered_done _ (transitions_run_lem _ _ _ _).turns _ _ _ _ _ c.loop.invariant.number c.loop-test.false
