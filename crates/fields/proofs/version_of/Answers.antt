-- `version_of`: one byte, by what `byte_at` answers.
use Rattle.convention.specs.Fields.{version_of}
use Rattle.fields.proofs.version_of.Goals as goal

pub returns : goal.returns
unfolding version_of
returns c = rw c.byte_at.ensures
