use Rattle.link_sim.specs.declared.event.Applied.TheVariants as dids
use Rattle.link_sim.specs.declared.event.Event.TheVariants as event
use Rattle.link_sim.proofs.Recovery.Along.{puts-kept-of, puts-same, settling-puts}
use Rattle.link_sim.proofs.Found.ExpiresOn.{expires-on}
use Rattle.link_sim.proofs.Runs.World.{settles-run}
use Rattle.link_sim.proofs.Clean.Ends.{clean-completes}
use Rattle.link_sim.proofs.Clean.First.{first-clean, put-clean}
use Rattle.link_sim.proofs.Clean.Found.{first-found, stays-found, steps-found}
use Rattle.link_sim.proofs.Clean.Hears.{HearingLaws}
use Rattle.link_sim.proofs.Clean.Settles.{CleanLaws, settles-clean, spared-at}
use Rattle.link_sim.proofs.EveryPut.Events.{first-courses, steps-courses, stays-courses}
use Rattle.link_sim.proofs.Clean.FullTables.{event-full, stays-full}
use Rattle.link_sim.proofs.Events.Keeping.{Grounds, holds, sound-next, folds-next}
use Rattle.link_sim.proofs.Events.Moving.{EntityLaws, Moves, stays-moves}
use Rattle.link_sim.proofs.Events.Beginning.{sound-first, inbox-first, event-moves}
use Rattle.link_sim.proofs.Work.Settling.{event-less}
use Rattle.link_sim.proofs.Work.WithinWorld.{stays-within, event-within}
use Rattle.link_sim.proofs.promises.events_keep_the_promises.Goals as goal

pub returns-clause-first : goal.returns-clause-first
returns-clause-first c config outboxes inboxes w valid is ways =
    sound-first config outboxes inboxes w valid is c.an_entity_keeps_the_truth.ensures.first ways

pub returns-clause-inboxes : goal.returns-clause-inboxes
returns-clause-inboxes c config outboxes inboxes w s valid is = inbox-first config outboxes inboxes w valid is s

pub returns-clause-keeps : goal.returns-clause-keeps
returns-clause-keeps c e did old new sound h =
    let kept = c.an_entity_keeps_the_truth.ensures in
    let on = c.an_entity_goes_on.ensures in
    let laws : EntityLaws = record {
      in_whole = c.a_part_has_no_more.ensures;
      put = kept.put;
      called = kept.called;
      ticked = kept.ticked;
      heard = kept.heard;
      dropped = kept.dropped;
      served_by =
          kept.served;
      put_on = on.put;
      called_on = on.called;
      ticked_on = on.ticked;
      heard_on = on.heard;
      dropped_on = on.dropped;
      served_on = on.served;
      sends =
          c.an_entity_sends_the_truth.ensures;
    } in
    let m : Moves old new = event-moves laws old new sound e did h in
    let grounds : Grounds = record { in_whole = c.a_part_has_no_more.ensures; more = kept.more; among = kept.among } in
    sound-next grounds old new sound m.sides m.puts (event-within old new (λ t. (sound t).entity.config) (λ t. (sound t).within) e did h)

pub returns-clause-stays : goal.returns-clause-stays
returns-clause-stays c s old new sound h =
    let m : Moves old new = stays-moves s old new sound h in
    let grounds : Grounds = record { in_whole = c.a_part_has_no_more.ensures; more = c.an_entity_keeps_the_truth.ensures.more; among = c.an_entity_keeps_the_truth.ensures.among } in
    sound-next grounds old new sound m.sides m.puts (stays-within old new (λ t. (sound t).entity.config) (λ t. (sound t).within) s h)

pub returns-clause-puts : goal.returns-clause-puts
returns-clause-puts c e did old new sound h =
    let kept = c.an_entity_keeps_the_truth.ensures in
    let on = c.an_entity_goes_on.ensures in
    let laws : EntityLaws = record {
      in_whole = c.a_part_has_no_more.ensures;
      put = kept.put;
      called = kept.called;
      ticked = kept.ticked;
      heard = kept.heard;
      dropped = kept.dropped;
      served_by =
          kept.served;
      put_on = on.put;
      called_on = on.called;
      ticked_on = on.ticked;
      heard_on = on.heard;
      dropped_on = on.dropped;
      served_on = on.served;
      sends =
          c.an_entity_sends_the_truth.ensures;
    } in
    let m : Moves old new = event-moves laws old new sound e did h in
    m.puts.finds

pub returns-clause-folds : goal.returns-clause-folds
returns-clause-folds c e did old new t sound h =
    let kept = c.an_entity_keeps_the_truth.ensures in
    let on = c.an_entity_goes_on.ensures in
    let laws : EntityLaws = record {
      in_whole = c.a_part_has_no_more.ensures;
      put = kept.put;
      called = kept.called;
      ticked = kept.ticked;
      heard = kept.heard;
      dropped = kept.dropped;
      served_by =
          kept.served;
      put_on = on.put;
      called_on = on.called;
      ticked_on = on.ticked;
      heard_on = on.heard;
      dropped_on = on.dropped;
      served_on = on.served;
      sends =
          c.an_entity_sends_the_truth.ensures;
    } in
    let m : Moves old new = event-moves laws old new sound e did h in
    let grounds : Grounds = record { in_whole = c.a_part_has_no_more.ensures; more = kept.more; among = kept.among } in
    folds-next grounds old new sound m.sides m.puts t

pub returns-clause-folds_none : goal.returns-clause-folds_none
returns-clause-folds_none c s old new t sound h =
    let m : Moves old new = stays-moves s old new sound h in
    let grounds : Grounds = record { in_whole = c.a_part_has_no_more.ensures; more = c.an_entity_keeps_the_truth.ensures.more; among = c.an_entity_keeps_the_truth.ensures.among } in
    folds-next grounds old new sound m.sides m.puts t

pub returns-clause-holds : goal.returns-clause-holds
returns-clause-holds c w s sound =
    let grounds : Grounds = record { in_whole = c.a_part_has_no_more.ensures; more = c.an_entity_keeps_the_truth.ensures.more; among = c.an_entity_keeps_the_truth.ensures.among } in
    holds grounds w sound s

pub returns-clause-less : goal.returns-clause-less
returns-clause-less c e old new sound rested rests of_it h = event-less old new sound rested rests e of_it h

pub returns-clause-puts_first : goal.returns-clause-puts_first
returns-clause-puts_first c config outboxes inboxes w is = record { course = first-courses config outboxes inboxes w is; found = first-found w is.puts }

pub returns-clause-puts_kept : goal.returns-clause-puts_kept
returns-clause-puts_kept c e did old new sound k h =
    let kept = c.an_entity_keeps_the_truth.ensures in
    let on = c.an_entity_goes_on.ensures in
    let laws : EntityLaws = record {
      in_whole = c.a_part_has_no_more.ensures;
      put = kept.put;
      called = kept.called;
      ticked = kept.ticked;
      heard = kept.heard;
      dropped = kept.dropped;
      served_by =
          kept.served;
      put_on = on.put;
      called_on = on.called;
      ticked_on = on.ticked;
      heard_on = on.heard;
      dropped_on = on.dropped;
      served_on = on.served;
      sends =
          c.an_entity_sends_the_truth.ensures;
    } in
    let grounds : Grounds = record { in_whole = c.a_part_has_no_more.ensures; more = kept.more; among = kept.among } in
    record {
      course = steps-courses laws grounds c.records_stay_for_good.ensures.steps old new sound e did h k.course;
      found = steps-found laws old new sound e did h k.found;
    }

pub returns-clause-puts_rest : goal.returns-clause-puts_rest
returns-clause-puts_rest c s old new sound k h =
    let kept = c.an_entity_keeps_the_truth.ensures in
    let on = c.an_entity_goes_on.ensures in
    let laws : EntityLaws = record {
      in_whole = c.a_part_has_no_more.ensures;
      put = kept.put;
      called = kept.called;
      ticked = kept.ticked;
      heard = kept.heard;
      dropped = kept.dropped;
      served_by =
          kept.served;
      put_on = on.put;
      called_on = on.called;
      ticked_on = on.ticked;
      heard_on = on.heard;
      dropped_on = on.dropped;
      served_on = on.served;
      sends =
          c.an_entity_sends_the_truth.ensures;
    } in
    let grounds : Grounds = record { in_whole = c.a_part_has_no_more.ensures; more = kept.more; among = kept.among } in
    record {
      course = stays-courses laws grounds c.records_stay_for_good.ensures.steps old new sound s h k.course;
      found = stays-found s old new sound h k.found;
    }

pub returns-clause-clean_first : goal.returns-clause-clean_first
returns-clause-clean_first c config outboxes inboxes w is = first-clean config outboxes inboxes w is

pub returns-clause-clean_put : goal.returns-clause-clean_put
returns-clause-clean_put c s source destination old new h clean = put-clean s source destination old new h clean

pub returns-clause-clean : goal.returns-clause-clean
returns-clause-clean c e old new sound k of_it h spared clean =
    let kept = c.an_entity_keeps_the_truth.ensures in
    let on = c.an_entity_goes_on.ensures in
    let laws : EntityLaws = record {
      in_whole = c.a_part_has_no_more.ensures;
      put = kept.put;
      called = kept.called;
      ticked = kept.ticked;
      heard = kept.heard;
      dropped = kept.dropped;
      served_by =
          kept.served;
      put_on = on.put;
      called_on = on.called;
      ticked_on = on.ticked;
      heard_on = on.heard;
      dropped_on = on.dropped;
      served_on = on.served;
      sends =
          c.an_entity_sends_the_truth.ensures;
    } in
    let grounds : Grounds = record { in_whole = c.a_part_has_no_more.ensures; more = kept.more; among = kept.among } in
    let hearing : HearingLaws = record { faultless = c.a_true_file_raises_no_fault.ensures.none; opened = c.what_is_heard_true_is_kept_true.ensures.opened } in
    let all : CleanLaws = record { entity = laws; grounds = grounds; hearing = hearing; stays = c.records_stay_for_good.ensures.steps } in
    settles-clean all e old new of_it h sound k.course (λ t. (sound t).within) (spared-at old new spared) clean

pub returns-clause-completes : goal.returns-clause-completes
returns-clause-completes c w sound k rested settled clean = clean-completes w sound k.course clean settled rested k.found

pub returns-clause-full : goal.returns-clause-full
returns-clause-full c e did old new sound k h =
    let kept = c.an_entity_keeps_the_truth.ensures in
    let on = c.an_entity_goes_on.ensures in
    let laws : EntityLaws = record {
      in_whole = c.a_part_has_no_more.ensures;
      put = kept.put;
      called = kept.called;
      ticked = kept.ticked;
      heard = kept.heard;
      dropped = kept.dropped;
      served_by =
          kept.served;
      put_on = on.put;
      called_on = on.called;
      ticked_on = on.ticked;
      heard_on = on.heard;
      dropped_on = on.dropped;
      served_on = on.served;
      sends =
          c.an_entity_sends_the_truth.ensures;
    } in
    let grounds : Grounds = record { in_whole = c.a_part_has_no_more.ensures; more = kept.more; among = kept.among } in
    event-full c.records_stay_for_good.ensures.steps old new sound k.course (steps-courses laws grounds c.records_stay_for_good.ensures.steps old new sound e did h k.course) e did h

pub returns-clause-full_none : goal.returns-clause-full_none
returns-clause-full_none c s old new h = stays-full s old new h

pub returns-clause-runs : goal.returns-clause-runs
returns-clause-runs c e old new sound k of_it h spared =
    let kept = c.an_entity_keeps_the_truth.ensures in
    let on = c.an_entity_goes_on.ensures in
    let laws : EntityLaws = record {
      in_whole = c.a_part_has_no_more.ensures;
      put = kept.put;
      called = kept.called;
      ticked = kept.ticked;
      heard = kept.heard;
      dropped = kept.dropped;
      served_by =
          kept.served;
      put_on = on.put;
      called_on = on.called;
      ticked_on = on.ticked;
      heard_on = on.heard;
      dropped_on = on.dropped;
      served_on = on.served;
      sends =
          c.an_entity_sends_the_truth.ensures;
    } in
    let grounds : Grounds = record { in_whole = c.a_part_has_no_more.ensures; more = kept.more; among = kept.among } in
    let hearing : HearingLaws = record { faultless = c.a_true_file_raises_no_fault.ensures.none; opened = c.what_is_heard_true_is_kept_true.ensures.opened } in
    let all : CleanLaws = record { entity = laws; grounds = grounds; hearing = hearing; stays = c.records_stay_for_good.ensures.steps } in
    let m : Moves old new = event-moves laws old new sound e dids.Applied h in
    record { keeps = puts-kept-of laws old new sound m (settling-puts e old new of_it h); runs = settles-run all e dids.Applied old new of_it h spared sound k }

pub returns-clause-tells : goal.returns-clause-tells
returns-clause-tells c s now old new sound h =
    let kept = c.an_entity_keeps_the_truth.ensures in
    let on = c.an_entity_goes_on.ensures in
    let laws : EntityLaws = record {
      in_whole = c.a_part_has_no_more.ensures;
      put = kept.put;
      called = kept.called;
      ticked = kept.ticked;
      heard = kept.heard;
      dropped = kept.dropped;
      served_by =
          kept.served;
      put_on = on.put;
      called_on = on.called;
      ticked_on = on.ticked;
      heard_on = on.heard;
      dropped_on = on.dropped;
      served_on = on.served;
      sends =
          c.an_entity_sends_the_truth.ensures;
    } in
    let m : Moves old new = event-moves laws old new sound (event.Tick s now) dids.Applied h in
    (expires-on c.records_stay_for_good.ensures.steps s now old new sound h (puts-same laws old new sound m h.puts), puts-kept-of laws old new sound m h.puts)

pub returns-clause-config : goal.returns-clause-config
returns-clause-config c e did old new s sound h =
    let kept = c.an_entity_keeps_the_truth.ensures in
    let on = c.an_entity_goes_on.ensures in
    let laws : EntityLaws = record {
      in_whole = c.a_part_has_no_more.ensures;
      put = kept.put;
      called = kept.called;
      ticked = kept.ticked;
      heard = kept.heard;
      dropped = kept.dropped;
      served_by =
          kept.served;
      put_on = on.put;
      called_on = on.called;
      ticked_on = on.ticked;
      heard_on = on.heard;
      dropped_on = on.dropped;
      served_on = on.served;
      sends =
          c.an_entity_sends_the_truth.ensures;
    } in
    let m : Moves old new = event-moves laws old new sound e did h in
    (m.sides s).goes.config
