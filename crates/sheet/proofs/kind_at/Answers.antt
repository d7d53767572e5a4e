use Rattle.sheet.proofs.Turns.{kind_begins, at_within, at_turn}
use native.Mathlib.Omega.{arith}
use borrow.Author.Rules.{rules}
use Rattle.sheet.proofs.kind_at.Goals as goal

pub loop-init : goal.loop-init
loop-init c = search (kind_begins, rules)

pub slice_bounds-kind_length-count : goal.slice_bounds-kind_length-count
slice_bounds-kind_length-count c = search (at_within, rules)

pub slice_bounds-kind_length-start : goal.slice_bounds-kind_length-start
slice_bounds-kind_length-start c = search (at_within, rules)

pub overflow_add-at : goal.overflow_add-at
overflow_add-at c = omega (arith, at_within _ _ _ _ _ c.loop.invariant c.requires (omega arith))

pub loop-preserved : goal.loop-preserved
loop-preserved c = search (at_turn, rules)
