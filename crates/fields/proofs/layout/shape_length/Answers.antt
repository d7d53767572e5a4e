-- `shape_length`: the definition itself.
use Rattle.convention.specs.Layout.{shape_length}
use borrow.Author.Rules.{rules}
use Rattle.fields.proofs.layout.shape_length.Goals as goal

pub returns : goal.returns
unfolding shape_length
returns c = search rules
