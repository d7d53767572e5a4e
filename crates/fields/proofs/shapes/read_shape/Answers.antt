-- `read_shape`: two bytes, which lie within the file's.
use lib.Seq.{get_or-drop}
use Rattle.convention.specs.Fields.{shape_of}
use Rattle.convention.specs.Layout.{shape_length}
use borrow.Author.Rules.{rules}
use Rattle.fields.proofs.shapes.read_shape.Goals as goal

pub bounds-s-at : goal.bounds-s-at
unfolding shape_length
bounds-s-at c = search rules

pub bounds-s-at-2 : goal.bounds-s-at-2
unfolding shape_length
bounds-s-at-2 c = search rules

pub returns : goal.returns
unfolding shape_of
returns c = rw (get_or-drop, get_or-drop)
