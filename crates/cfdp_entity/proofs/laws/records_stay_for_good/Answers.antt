use Rattle.cfdp_entity.specs.History.{none_gone}
use Rattle.cfdp_entity.proofs.Histories.{Machines, Openings, kept-step, kept-leads, opens-any}
use Rattle.cfdp_entity.proofs.laws.records_stay_for_good.Goals as goal

pub returns-clause-step : goal.returns-clause-step
returns-clause-step c s st may =
    let once = c.a_transaction_is_finished_once.ensures in
    let laws : Machines = record {
      receiver_same = once.same;
      receiver_stays = once.stays;
      receiver_once = once.once;
      receiver_own = once.own;
      sender_keeps =
          c.a_sender_keeps_what_it_sends.ensures.step;
      sender_once = c.a_sender_finishes_once.ensures;
    } in
    let openings : Openings = record { once = c.an_opening_may_finish.ensures.once; own = c.an_opening_may_finish.ensures.own } in
    (kept-step laws openings none_gone s st may (opens-any s)).records

pub returns-clause-steps : goal.returns-clause-steps
returns-clause-steps c old new leads =
    let once = c.a_transaction_is_finished_once.ensures in
    let laws : Machines = record {
      receiver_same = once.same;
      receiver_stays = once.stays;
      receiver_once = once.once;
      receiver_own = once.own;
      sender_keeps =
          c.a_sender_keeps_what_it_sends.ensures.step;
      sender_once = c.a_sender_finishes_once.ensures;
    } in
    let openings : Openings = record { once = c.an_opening_may_finish.ensures.once; own = c.an_opening_may_finish.ensures.own } in
    (kept-leads laws openings old new leads).records
