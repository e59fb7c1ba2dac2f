use Rattle.std.proofs.Common.{refl}
use Rattle.cfdp_entity.specs.Table.{first_table}
use Rattle.cfdp_entity.proofs.Histories.{Machines}
use Rattle.cfdp_entity.proofs.Tellings.{Tellers, tells-first, tells-step, tells-more}
use Rattle.cfdp_entity.proofs.Amongst.{tells-among}
use Rattle.cfdp_entity.proofs.laws.a_table_tells_no_more.Goals as goal

pub returns-clause-first : goal.returns-clause-first
returns-clause-first c own heard sources files policy = tells-first own heard (first_table sources files policy) refl refl

pub returns-clause-step : goal.returns-clause-step
returns-clause-step c own put_of heard first s st may tells d k t =
    let once = c.a_transaction_is_finished_once.ensures in
    let opening = c.an_opening_may_finish.ensures in
    let machines : Machines = record {
      receiver_same = once.same;
      receiver_stays = once.stays;
      receiver_once = once.once;
      receiver_own = once.own;
      sender_keeps =
          c.a_sender_keeps_what_it_sends.ensures.step;
      sender_once = c.a_sender_finishes_once.ensures;
    } in
    let tellers : Tellers = record { outcome = once.outcome; opens_outcome = opening.outcome; opens_own = opening.own; delivered = c.told_complete_by_a_finished_alone.ensures } in
    tells-step own heard machines tellers put_of first (c.a_table_keeps_the_truth.ensures.step own put_of heard first) s st may tells d k t

pub returns-clause-more : goal.returns-clause-more
returns-clause-more c own heard more st t = tells-more own heard more st t

pub returns-clause-among : goal.returns-clause-among
returns-clause-among c own heard others st among t = tells-among own heard others st among t
