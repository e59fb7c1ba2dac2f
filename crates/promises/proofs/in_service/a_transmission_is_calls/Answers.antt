use Rattle.cfdp_port.proofs.GainLemmas.{GoesOnLaws}
use Rattle.promises.proofs.Transmitting.{transmits_made}
use Rattle.promises.proofs.in_service.a_transmission_is_calls.Goals as goal

pub returns : goal.returns
returns c =
    let on = c.an_entity_goes_on.ensures in
    let gains : GoesOnLaws = record { ticked = on.ticked; heard = on.heard; dropped = on.dropped; served = on.served } in
    λ config theirs old new answer frame puts t stand same. transmits_made gains config theirs puts answer frame old new t stand same
