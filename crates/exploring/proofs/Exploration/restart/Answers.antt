-- `restart`: the entries are the start alone.
use Rattle.std.proofs.Common.{arith}
use Rattle.std.proofs.lemmas.List.{take_more_set}
use Rattle.exploring.specs.Stored.{start_entry}
use Rattle.exploring.proofs.Exploration.restart.Goals as goal

pub returns : goal.returns
returns g c = take_more_set c.self.inside.entries 0 start_entry (omega (arith, c.requires, c.self.told2))
