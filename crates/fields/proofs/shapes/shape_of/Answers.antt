-- `shape_of`: two bytes, each by what `byte_at` answers.
use Rattle.convention.specs.Fields.{shape_of}
use Rattle.fields.proofs.shapes.shape_of.Goals as goal

pub returns : goal.returns
unfolding shape_of
returns c = rw (c.byte_at-2.ensures, c.byte_at.ensures)
