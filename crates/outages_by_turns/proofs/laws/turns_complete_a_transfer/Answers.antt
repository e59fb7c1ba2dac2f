use Rattle.link_sim.proofs.Clean.Settles.{CleanLaws}
use Rattle.link_sim.proofs.Events.Beginning.{sound-first}
use Rattle.link_sim.proofs.Ways.First.{first-ways}
use Rattle.cfdp_port.proofs.GainLemmas.{GoesOnLaws}
use Rattle.outages.proofs.Waiting.{reached-led}
use Rattle.outages_by_turns.proofs.Twice.{twice}
use Rattle.outages_by_turns.proofs.laws.turns_complete_a_transfer.Goals as goal

pub returns : goal.returns
returns g c config outboxes inboxes put old p0 p1 p2 p3 p4 before between one two later again have are g1 are1 g2 stand_one stand_two most_one most_two short waiting calm calm1 may =
    let on = c.an_entity_goes_on.ensures in
    let laws : GoesOnLaws = record { ticked = on.ticked; heard = on.heard; dropped = on.dropped; served = on.served } in
    twice g.W.Wire.steps laws config outboxes inboxes put old p0 have c.a_transfer_outlives_its_losses.ensures.completes
    (λ first now is led. reached-led all config outboxes inboxes first now have.valid is
    (sound-first config outboxes inboxes first have.valid is c.an_entity_keeps_the_truth.ensures.first (first-ways config outboxes inboxes first have.valid is)) led)
    before between one two later again p1 p2 p3 p4 are g1 are1 g2 stand_one stand_two most_one most_two short waiting calm calm1 may
  where
    all : CleanLaws
    all =
        let kept = c.an_entity_keeps_the_truth.ensures in
        let on = c.an_entity_goes_on.ensures in
        record {
          entity = record {
            in_whole = c.a_part_has_no_more.ensures;
            put = kept.put;
            called = kept.called;
            ticked = kept.ticked;
            heard = kept.heard;
            dropped = kept.dropped;
            served_by = kept.served;
            put_on = on.put;
            called_on = on.called;
            ticked_on = on.ticked;
            heard_on = on.heard;
            dropped_on = on.dropped;
            served_on = on.served;
            sends = c.an_entity_sends_the_truth.ensures;
          };
          grounds = record { in_whole = c.a_part_has_no_more.ensures; more = kept.more; among = kept.among };
          hearing = record { faultless = c.a_true_file_raises_no_fault.ensures.none; opened = c.what_is_heard_true_is_kept_true.ensures.opened };
          stays = c.records_stay_for_good.ensures.steps;
        }
