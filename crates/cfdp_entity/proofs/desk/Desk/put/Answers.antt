use Rattle.std.proofs.Common.{refl}
use Rattle.cfdp_entity.proofs.Openings.{opens-put}
use Rattle.cfdp_entity.proofs.desk.Desk.put.Goals as goal

pub returns-clause-opens : goal.returns-clause-opens
returns-clause-opens g c = opens-put c.args.transfer c.in_ok-sender.sender _ _ c.in_ok-sender.ensures.opens c.in_ok-sender.ensures.tells c.in_ok-sender.ensures.timers refl c.requires.file
    c.in_ok-sender.ensures.has_room
