use Rattle.link_sim.proofs.Clean.Settles.{CleanLaws}
use Rattle.link_sim.proofs.Events.Beginning.{sound-first}
use Rattle.link_sim.proofs.Ways.First.{first-ways}
use Rattle.outages.proofs.Completing.{completes}
use Rattle.outages.proofs.InTime.{completes-in-time}
use Rattle.outages.proofs.Lasting.{lasting}
use Rattle.outages.proofs.Waiting.{outlived, reached-led}
use Rattle.outages.proofs.laws.a_transfer_outlives_its_losses.Goals as goal

pub returns-clause-waits : goal.returns-clause-waits
returns-clause-waits c config outboxes inboxes first old new id outage valid is led waits are calm may =
    outlived all id outage old new
    (reached-led all config outboxes inboxes first old valid is
    (sound-first config outboxes inboxes first valid is c.an_entity_keeps_the_truth.ensures.first (first-ways config outboxes inboxes first valid is)) led)
    waits are calm may
  where
    all : CleanLaws
    all =
        let kept = c.an_entity_keeps_the_truth.ensures in
        let on = c.an_entity_goes_on.ensures in
        record {
          entity = record {
            in_whole = c.a_part_has_no_more.ensures;
            put = kept.put;
            called = kept.called;
            ticked = kept.ticked;
            heard = kept.heard;
            dropped = kept.dropped;
            served_by = kept.served;
            put_on = on.put;
            called_on = on.called;
            ticked_on = on.ticked;
            heard_on = on.heard;
            dropped_on = on.dropped;
            served_on = on.served;
            sends = c.an_entity_sends_the_truth.ensures;
          };
          grounds = record { in_whole = c.a_part_has_no_more.ensures; more = kept.more; among = kept.among };
          hearing = record { faultless = c.a_true_file_raises_no_fault.ensures.none; opened = c.what_is_heard_true_is_kept_true.ensures.opened };
          stays = c.records_stay_for_good.ensures.steps;
        }

pub returns-clause-completes : goal.returns-clause-completes
returns-clause-completes c config outboxes inboxes first old held through again new id before between valid is led waits are calm g are1 calm1 g1 may =
    completes all old held through again new before between
    (reached-led all config outboxes inboxes first old valid is
    (sound-first config outboxes inboxes first valid is c.an_entity_keeps_the_truth.ensures.first (first-ways config outboxes inboxes first valid is)) led)
    id waits are calm g are1 calm1 g1 may
  where
    all : CleanLaws
    all =
        let kept = c.an_entity_keeps_the_truth.ensures in
        let on = c.an_entity_goes_on.ensures in
        record {
          entity = record {
            in_whole = c.a_part_has_no_more.ensures;
            put = kept.put;
            called = kept.called;
            ticked = kept.ticked;
            heard = kept.heard;
            dropped = kept.dropped;
            served_by = kept.served;
            put_on = on.put;
            called_on = on.called;
            ticked_on = on.ticked;
            heard_on = on.heard;
            dropped_on = on.dropped;
            served_on = on.served;
            sends = c.an_entity_sends_the_truth.ensures;
          };
          grounds = record { in_whole = c.a_part_has_no_more.ensures; more = kept.more; among = kept.among };
          hearing = record { faultless = c.a_true_file_raises_no_fault.ensures.none; opened = c.what_is_heard_true_is_kept_true.ensures.opened };
          stays = c.records_stay_for_good.ensures.steps;
        }

pub returns-clause-lasts : goal.returns-clause-lasts
returns-clause-lasts c config outboxes inboxes first old new id outage valid is led are short =
    lasting id outage old new
    (reached-led all config outboxes inboxes first old valid is
    (sound-first config outboxes inboxes first valid is c.an_entity_keeps_the_truth.ensures.first (first-ways config outboxes inboxes first valid is)) led)
    are short
  where
    all : CleanLaws
    all =
        let kept = c.an_entity_keeps_the_truth.ensures in
        let on = c.an_entity_goes_on.ensures in
        record {
          entity = record {
            in_whole = c.a_part_has_no_more.ensures;
            put = kept.put;
            called = kept.called;
            ticked = kept.ticked;
            heard = kept.heard;
            dropped = kept.dropped;
            served_by = kept.served;
            put_on = on.put;
            called_on = on.called;
            ticked_on = on.ticked;
            heard_on = on.heard;
            dropped_on = on.dropped;
            served_on = on.served;
            sends = c.an_entity_sends_the_truth.ensures;
          };
          grounds = record { in_whole = c.a_part_has_no_more.ensures; more = kept.more; among = kept.among };
          hearing = record { faultless = c.a_true_file_raises_no_fault.ensures.none; opened = c.what_is_heard_true_is_kept_true.ensures.opened };
          stays = c.records_stay_for_good.ensures.steps;
        }

pub returns-clause-completes_in_time : goal.returns-clause-completes_in_time
returns-clause-completes_in_time c config outboxes inboxes first old held through again new id outage between valid is led waits are calm short g are1 calm1 none g1 =
    completes-in-time all old held through again new outage between
    (reached-led all config outboxes inboxes first old valid is
    (sound-first config outboxes inboxes first valid is c.an_entity_keeps_the_truth.ensures.first (first-ways config outboxes inboxes first valid is)) led)
    id waits are calm short g are1 calm1 none g1
  where
    all : CleanLaws
    all =
        let kept = c.an_entity_keeps_the_truth.ensures in
        let on = c.an_entity_goes_on.ensures in
        record {
          entity = record {
            in_whole = c.a_part_has_no_more.ensures;
            put = kept.put;
            called = kept.called;
            ticked = kept.ticked;
            heard = kept.heard;
            dropped = kept.dropped;
            served_by = kept.served;
            put_on = on.put;
            called_on = on.called;
            ticked_on = on.ticked;
            heard_on = on.heard;
            dropped_on = on.dropped;
            served_on = on.served;
            sends = c.an_entity_sends_the_truth.ensures;
          };
          grounds = record { in_whole = c.a_part_has_no_more.ensures; more = kept.more; among = kept.among };
          hearing = record { faultless = c.a_true_file_raises_no_fault.ensures.none; opened = c.what_is_heard_true_is_kept_true.ensures.opened };
          stays = c.records_stay_for_good.ensures.steps;
        }
