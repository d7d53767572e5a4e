-- `write`: the path, and the kind after it.
use Rattle.std.proofs.Common.{◌∙◌, arith}
use Rattle.std.proofs.lemmas.List.{length-take-le, length-drop}
use Rattle.judging.proofs.Listing.{found_is}
use Rattle.judging.proofs.lists.write.Goals as goal

pub returns-clause-found : goal.returns-clause-found
returns-clause-found c =
    found_is _ _ _ _ _ _ c.write_path-from.ensures _ (length-take-le 399 c.args.to.now (omega arith)) _ (length-drop 399 c.args.to.now ∙ omega arith)
