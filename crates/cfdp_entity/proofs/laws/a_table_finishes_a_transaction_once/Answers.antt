use Rattle.std.proofs.Common.{refl}
use Rattle.cfdp_entity.specs.Table.{first_table}
use Rattle.cfdp_entity.proofs.Histories.{Machines, Openings, kept-step, kept-leads, first-once, let-go, once-only}
use Rattle.cfdp_entity.proofs.laws.a_table_finishes_a_transaction_once.Goals as goal

pub returns-clause-first : goal.returns-clause-first
returns-clause-first c sources files policy = first-once _ _ refl refl

pub returns-clause-step : goal.returns-clause-step
returns-clause-step c gone s st may other =
    let once = c.a_transaction_is_finished_once.ensures in
    let laws : Machines = record {
      receiver_same = once.same;
      receiver_stays = once.stays;
      receiver_once = once.once;
      receiver_own = once.own;
      sender_keeps =
          c.a_sender_keeps_what_it_sends.ensures.step;
      sender_once = c.a_sender_finishes_once.ensures;
    } in
    let openings : Openings = record { once = c.an_opening_may_finish.ensures.once; own = c.an_opening_may_finish.ensures.own } in
    (kept-step laws openings gone s st may other).once

pub returns-clause-steps : goal.returns-clause-steps
returns-clause-steps c old new leads =
    let once = c.a_transaction_is_finished_once.ensures in
    let laws : Machines = record {
      receiver_same = once.same;
      receiver_stays = once.stays;
      receiver_once = once.once;
      receiver_own = once.own;
      sender_keeps =
          c.a_sender_keeps_what_it_sends.ensures.step;
      sender_once = c.a_sender_finishes_once.ensures;
    } in
    let openings : Openings = record { once = c.an_opening_may_finish.ensures.once; own = c.an_opening_may_finish.ensures.own } in
    (kept-leads laws openings old new leads).once

pub returns-clause-once : goal.returns-clause-once
returns-clause-once c sources files policy st id leads =
    let once = c.a_transaction_is_finished_once.ensures in
    let laws : Machines = record {
      receiver_same = once.same;
      receiver_stays = once.stays;
      receiver_once = once.once;
      receiver_own = once.own;
      sender_keeps =
          c.a_sender_keeps_what_it_sends.ensures.step;
      sender_once = c.a_sender_finishes_once.ensures;
    } in
    let openings : Openings = record { once = c.an_opening_may_finish.ensures.once; own = c.an_opening_may_finish.ensures.own } in
    once-only id st ((kept-leads laws openings (first_table sources files policy) st leads).once (first-once _ _ refl refl))

pub returns-clause-forgets : goal.returns-clause-forgets
returns-clause-forgets c gone place e st at over was = let-go gone st.records st.told place e at over was
