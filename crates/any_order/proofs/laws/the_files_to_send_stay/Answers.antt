use Rattle.cfdp_station.proofs.AnyOrder.{TruthLaws}
use Rattle.any_order.proofs.Calls.{EntityLaws}
use Rattle.any_order.proofs.Sources.{world_sources}
use Rattle.any_order.proofs.laws.the_files_to_send_stay.Goals as goal

pub returns : goal.returns
returns c =
    let kept = c.an_entity_keeps_the_truth.ensures in
    let on = c.an_entity_goes_on.ensures in
    let entity : EntityLaws = record {
      put = kept.put;
      called = kept.called;
      ticked = kept.ticked;
      served_by = kept.served;
      put_on = on.put;
      called_on = on.called;
      ticked_on = on.ticked;
      served_on = on.served;
      sends = c.an_entity_sends_the_truth.ensures;
    } in
    let truth : TruthLaws = record { more = kept.more; heard = kept.heard; dropped = kept.dropped; heard_on = on.heard; dropped_on = on.dropped } in
    world_sources entity truth
