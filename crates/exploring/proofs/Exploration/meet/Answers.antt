-- `meet`: its mark tells whether the node was met, and its number.
use Rattle.exploring.proofs.Meeting.{meet_there, meet_room, meet_kept, meet_new_lem}
use Rattle.exploring.proofs.Exploration.meet.Goals as goal

pub returns-in-Some : goal.returns-in-Some
returns-in-Some g c =
    meet_there _ _ _ _ c.self.invariant c.self.told2 _ c.self.view_is c.self.told _ _ _ c.requires _ c.in-Some.ensures

pub bounds-self-inside-number : goal.bounds-self-inside-number
bounds-self-inside-number g c =
    meet_room _ _ _ _ c.self.invariant c.self.told2 _ c.self.view_is c.self.told _ _ _ c.requires c.in_default.ensures

pub invariant_of-self : goal.invariant_of-self
invariant_of-self g c =
    meet_kept _ _ _ _ c.self.invariant c.self.told2 _ c.self.view_is c.self.told _ _ _ c.requires c.in_default.ensures

pub returns : goal.returns
returns g c =
    meet_new_lem _ _ _ _ c.self.invariant c.self.told2 _ c.self.view_is c.self.told _ _ _ c.requires c.in_default.ensures
