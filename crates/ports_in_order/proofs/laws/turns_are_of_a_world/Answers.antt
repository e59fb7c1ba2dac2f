use Rattle.ports_in_order.proofs.OrderLemmas.{are_of_world}
use Rattle.cfdp_port.proofs.GainLemmas.{GoesOnLaws}
use Rattle.ports_in_order.proofs.laws.turns_are_of_a_world.Goals as goal

pub returns : goal.returns
returns g c =
    let on = c.an_entity_goes_on.ensures in
    let laws : GoesOnLaws = record { ticked = on.ticked; heard = on.heard; dropped = on.dropped; served = on.served } in
    are_of_world g.W.Wire.steps c.worlds_keep_the_promises.ensures.keeps laws
