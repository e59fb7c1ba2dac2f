use Rattle.std.proofs.Common.{refl}
use Rattle.cfdp_entity.specs.Table.{first_table}
use Rattle.cfdp_entity.proofs.Histories.{Machines}
use Rattle.cfdp_entity.proofs.Truths.{TrueReceiver, true-first, true-step, true-more}
use Rattle.cfdp_entity.proofs.Amongst.{true-among}
use Rattle.cfdp_entity.proofs.laws.a_table_keeps_the_truth.Goals as goal

pub returns-clause-first : goal.returns-clause-first
returns-clause-first c own put_of heard sources files policy = true-first own put_of heard files (first_table sources files policy) refl refl refl

pub returns-clause-step : goal.returns-clause-step
returns-clause-step c own put_of heard first s st may tells t =
    let once = c.a_transaction_is_finished_once.ensures in
    let machines : Machines = record {
      receiver_same = once.same;
      receiver_stays = once.stays;
      receiver_once = once.once;
      receiver_own = once.own;
      sender_keeps =
          c.a_sender_keeps_what_it_sends.ensures.step;
      sender_once = c.a_sender_finishes_once.ensures;
    } in
    let kept = c.what_is_heard_true_is_kept_true.ensures in
    let laws : TrueReceiver = record {
      stays = kept.step;
      opened = kept.opened;
      closed = kept.closed;
      staged = c.more_is_heard.ensures.staged;
      publishes = c.a_completion_publishes_the_put.ensures;
      opens_none = c.an_opening_may_finish.ensures.none;
    } in
    true-step own put_of heard machines laws first s st may tells t

pub returns-clause-more : goal.returns-clause-more
returns-clause-more c own put_of puts_then heard more first st grows t =
    true-more own put_of puts_then grows heard more (λ put r m s. c.more_is_heard.ensures.more put heard more r m s) first st t

pub returns-clause-among : goal.returns-clause-among
returns-clause-among c own put_of heard others first st among t =
    true-among own put_of heard others among (λ put r m s. c.more_is_heard.ensures.among put heard others r m among s) first st t
