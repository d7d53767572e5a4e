-- `head_of`: four bytes, each by what `byte_at` answers.
use Rattle.convention.specs.Fields.{head_of}
use Rattle.fields.proofs.head_of.Goals as goal

pub returns : goal.returns
unfolding head_of
returns c = rw (c.byte_at-4.ensures, c.byte_at-3.ensures, c.byte_at-2.ensures, c.byte_at.ensures)
