-- What is written, after the path to entry j, is the path to the entry asked for, at each turn.
use Rattle.exploring.specs.Stored.{PathHalf}
use Rattle.exploring.proofs.Exploration.write_path.Given as goal

abbrev pub invariant-loop-j : goal.invariant-loop-j
invariant-loop-j g l = PathHalf l.self l.i l.initial.to l.j l.at l.to

abbrev pub decreases-loop-j : goal.decreases-loop-j
decreases-loop-j g l = l.j
