use Rattle.any_order.proofs.Promise.{Laws}
use Rattle.any_order.proofs.ComingBack.{ResumingLaws}
use Rattle.any_order.proofs.ResumingIn.{world_resumes}
use Rattle.any_order.proofs.laws.a_world_resumes.Goals as goal

pub returns : goal.returns
returns c =
    let kept = c.an_entity_keeps_the_truth.ensures in
    let on = c.an_entity_goes_on.ensures in
    let laws : Laws = record {
      grounds = record { put_in = c.what_comes_up_was_put_in_once.ensures; more = kept.more };
      entity = record {
        put = kept.put;
        called = kept.called;
        ticked = kept.ticked;
        served_by = kept.served;
        put_on = on.put;
        called_on = on.called;
        ticked_on = on.ticked;
        served_on = on.served;
        sends = c.an_entity_sends_the_truth.ensures;
      };
      truth = record { more = kept.more; heard = kept.heard; dropped = kept.dropped; heard_on = on.heard; dropped_on = on.dropped };
      first = kept.first;
    } in
    let resuming : ResumingLaws = record {
      resumes = c.an_entity_whose_records_are_restored_resumes.ensures.resumes;
      told = c.an_entity_whose_records_are_restored_resumes.ensures.told;
    } in
    world_resumes laws c.a_resumed_entity_is_sound.ensures resuming
