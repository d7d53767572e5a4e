-- `list_fault`: what is left of the list has the fault of the whole, from the state and the given registers alone.
use Rattle.walking.specs.TableSteps.{Faulting}
use Rattle.stepping.specs.Sets.{set_of}
use Rattle.walking.proofs.list_fault.Given as goal

abbrev pub invariant-loop-k : goal.invariant-loop-k
invariant-loop-k l = Faulting l.table.table l.table.bytes.now l.list l.state (set_of 16 l.given) l.k-index
