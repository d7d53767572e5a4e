-- `find`: at each turn no key from number `link` on is the one, and the key before it, if any, has its slot.
use Rattle.building.specs.Links.{Seeking}
use Rattle.building.proofs.memory.States.find.Given as goal

abbrev pub invariant-loop-number : goal.invariant-loop-number
invariant-loop-number l = Seeking l.self-inside.keys l.self-inside.count l.key l.link

abbrev pub decreases-loop-number : goal.decreases-loop-number
decreases-loop-number l = l.link
