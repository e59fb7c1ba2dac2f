use Rattle.cfdp_control.proofs.Visiting.{known-known}
use Rattle.cfdp_control.proofs.web_door.WebDoor.takes_in.Goals as goal

pub returns-clause-visitors : goal.returns-clause-visitors
returns-clause-visitors c =
    known-known _ _ _ c.makes_room.ensures.known c.takes_in.ensures
