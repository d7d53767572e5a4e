-- `keep`: the key is linked in after the others, and its state is appended.
use Rattle.std.proofs.Common.{sym, arith, rules}
use Rattle.building.proofs.Linking.{one_linked}
use Rattle.building.proofs.Keeping.{no_key, kept_many, kept_more, meets_new, meets_over}
use Rattle.building.proofs.memory.States.keep.Goals as goal

pub returns-then-number-eq-STATE_LIMIT : goal.returns-then-number-eq-STATE_LIMIT
returns-then-number-eq-STATE_LIMIT c =
    let many = kept_many _ _ _ _ c.self.invariant (search rules) in
    let new = rw (← c.self.view_is) at c.requires.new in
    rw (← c.self.view_is) (meets_over _ _ new (omega arith))

pub invariant_of-self : goal.invariant_of-self
invariant_of-self c =
    let new = rw (← c.self.view_is) at c.requires.new in
    one_linked _ _ _ _ _ _ c.self.invariant (omega arith) (search rules) (search rules) (search rules) c.requires.small
    (no_key _ _ _ _ c.self.invariant (search rules) _ c.requires.small new) c.slot_of-slot.ensures.value c.slot_of-slot.ensures.upper_bound

pub returns : goal.returns
returns c =
    let many = kept_many _ _ _ _ c.self.invariant (search rules) in
    let new = rw (← c.self.view_is) at c.requires.new in
    rw (← c.self.view_is) (meets_new _ _ _ _ (omega arith) new (sym many) (kept_more _ _ _ _ c.self.invariant (search rules) _ c.requires.small (omega arith)))
