-- `state_field`: one byte, which is there.
use Rattle.convention.specs.Layout.{state_length}
use Rattle.convention.specs.Fields.{state_field}
use borrow.Author.Rules.{rules}
use Rattle.fields.proofs.state_field.Goals as goal

pub bounds-s-at : goal.bounds-s-at
unfolding state_length
bounds-s-at c = search rules

pub returns : goal.returns
unfolding state_field
returns c = search rules
