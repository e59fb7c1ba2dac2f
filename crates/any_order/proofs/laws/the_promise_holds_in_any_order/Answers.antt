use Rattle.any_order.proofs.Promise.{Laws, promise}
use Rattle.any_order.proofs.laws.the_promise_holds_in_any_order.Goals as goal

pub returns : goal.returns
returns c =
    let kept = c.an_entity_keeps_the_truth.ensures in
    let on = c.an_entity_goes_on.ensures in
    let laws : Laws = record {
      grounds = record { put_in = c.what_comes_up_was_put_in_once.ensures; more = kept.more };
      entity = record {
        put = kept.put;
        called = kept.called;
        ticked = kept.ticked;
        served_by = kept.served;
        put_on = on.put;
        called_on = on.called;
        ticked_on = on.ticked;
        served_on = on.served;
        sends = c.an_entity_sends_the_truth.ensures;
      };
      truth = record { more = kept.more; heard = kept.heard; dropped = kept.dropped; heard_on = on.heard; dropped_on = on.dropped };
      first = kept.first;
    } in
    promise laws
