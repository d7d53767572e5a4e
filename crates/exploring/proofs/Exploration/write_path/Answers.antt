-- `write_path`: one more kind, and the start.
use Rattle.std.proofs.Common.{rules}
use Rattle.exploring.proofs.Paths.{path_turn, path_end}
use Rattle.exploring.proofs.Exploration.write_path.Goals as goal

pub loop-j-preserved : goal.loop-j-preserved
loop-j-preserved g c = search (path_turn, rules)

pub returns : goal.returns
returns g c = search (path_end, rules)
