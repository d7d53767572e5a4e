-- `find`: a state's place is that of its key.
use Rattle.building.proofs.Keeping.{found, not_found}
use Rattle.std.proofs.Common.{arith, rules}
use Rattle.building.proofs.memory.States.find.Goals as goal

pub returns-then-self-number : goal.returns-then-self-number
returns-then-self-number c =
    rw (← c.self.view_is) (found _ _ _ _ c.self.invariant (search rules) _ c.requires _ (omega (arith, c.loop-number.invariant.within)) c.if-self-number.true)

pub returns : goal.returns
returns c =
    rw (← c.self.view_is) (not_found _ _ _ _ c.self.invariant (search rules) _ c.requires (λ j h. c.loop-number.invariant.others j (omega arith) h))
