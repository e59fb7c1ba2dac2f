use Rattle.cfdp_station.proofs.AnyOrder.{TruthLaws}
use Rattle.any_order.proofs.Calls.{EntityLaws}
use Rattle.any_order.proofs.Onward.{world_begins, world_goes}
use Rattle.any_order.proofs.laws.lives_stay.Goals as goal

pub returns-clause-calls : goal.returns-clause-calls
returns-clause-calls c =
    let kept = c.an_entity_keeps_the_truth.ensures in
    let on = c.an_entity_goes_on.ensures in
    let entity : EntityLaws = record {
      put = kept.put;
      called = kept.called;
      ticked = kept.ticked;
      served_by = kept.served;
      put_on = on.put;
      called_on = on.called;
      ticked_on = on.ticked;
      served_on = on.served;
      sends = c.an_entity_sends_the_truth.ensures;
    } in
    let truth : TruthLaws = record { more = kept.more; heard = kept.heard; dropped = kept.dropped; heard_on = on.heard; dropped_on = on.dropped } in
    world_goes entity truth

pub returns-clause-start : goal.returns-clause-start
returns-clause-start c = world_begins
