use Rattle.link_sim.proofs.Clean.Settles.{CleanLaws}
use Rattle.link_sim.proofs.Events.Beginning.{sound-first}
use Rattle.link_sim.proofs.Ways.First.{first-ways}
use Rattle.outages.proofs.Rounds.{reached-round, some-due, through-round}
use Rattle.outages.proofs.Waiting.{reached-led}
use Rattle.outages.proofs.laws.rounds_of_a_recovery_get_through.Goals as goal

pub returns-clause-through : goal.returns-clause-through
returns-clause-through c config outboxes inboxes first old r id k valid is led round apart due calm =
    let reached = reached-led all config outboxes inboxes first old valid is
    (sound-first config outboxes inboxes first valid is c.an_entity_keeps_the_truth.ensures.first (first-ways config outboxes inboxes first valid is)) led in
    through-round old r id k reached (reached-round all old r reached round) round apart due calm
  where
    all : CleanLaws
    all =
        let kept = c.an_entity_keeps_the_truth.ensures in
        let on = c.an_entity_goes_on.ensures in
        record {
          entity = record {
            in_whole = c.a_part_has_no_more.ensures;
            put = kept.put;
            called = kept.called;
            ticked = kept.ticked;
            heard = kept.heard;
            dropped = kept.dropped;
            served_by = kept.served;
            put_on = on.put;
            called_on = on.called;
            ticked_on = on.ticked;
            heard_on = on.heard;
            dropped_on = on.dropped;
            served_on = on.served;
            sends = c.an_entity_sends_the_truth.ensures;
          };
          grounds = record { in_whole = c.a_part_has_no_more.ensures; more = kept.more; among = kept.among };
          hearing = record { faultless = c.a_true_file_raises_no_fault.ensures.none; opened = c.what_is_heard_true_is_kept_true.ensures.opened };
          stays = c.records_stay_for_good.ensures.steps;
        }

pub returns-clause-expires : goal.returns-clause-expires
returns-clause-expires c old r round = some-due r.side r.now old round.tells.next
