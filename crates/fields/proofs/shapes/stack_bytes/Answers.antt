-- `stack_bytes`: the definition itself.
use Rattle.convention.specs.Shapes.{stack_bytes}
use borrow.Author.Rules.{rules}
use Rattle.fields.proofs.shapes.stack_bytes.Goals as goal

pub returns : goal.returns
unfolding stack_bytes
returns c = search rules
