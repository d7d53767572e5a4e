-- `state_length`: the definition itself.
use Rattle.convention.specs.Layout.{state_length}
use borrow.Author.Rules.{rules}
use Rattle.fields.proofs.layout.state_length.Goals as goal

pub returns : goal.returns
unfolding state_length
returns c = search rules
