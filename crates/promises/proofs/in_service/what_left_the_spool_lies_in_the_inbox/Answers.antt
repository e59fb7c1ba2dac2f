use Rattle.std.proofs.Common.{List, sym, subst}
use Rattle.cfdp_service.specs.Calls.{Chain, UserCall}
use Rattle.cfdp_service.specs.Clerk.{ClerkSteps}
use Rattle.promises.specs.Serving.{served_at}
use Rattle.promises.proofs.Doing.{AllLaws}
use Rattle.promises.proofs.Reaching.{calls_so, delivered_so, served_so, shade_all, went_so}
use Rattle.promises.proofs.Lying.{spooled}
use Rattle.promises.proofs.in_service.what_left_the_spool_lies_in_the_inbox.Goals as goal
use Rattle.any_order.proofs.Promise.{Laws}
use Rattle.cfdp_port.proofs.GainLemmas.{GoesOnLaws}

pub returns : goal.returns
returns g c =
    let kept = c.an_entity_keeps_the_truth.ensures in
    let on = c.an_entity_goes_on.ensures in
    let laws : Laws = record {
      grounds = record { put_in = c.what_comes_up_was_put_in_once.ensures; more = kept.more };
      entity = record {
        put = kept.put;
        called = kept.called;
        ticked = kept.ticked;
        served_by = kept.served;
        put_on = on.put;
        called_on = on.called;
        ticked_on = on.ticked;
        served_on = on.served;
        sends = c.an_entity_sends_the_truth.ensures;
      };
      truth = record { more = kept.more; heard = kept.heard; dropped = kept.dropped; heard_on = on.heard; dropped_on = on.dropped };
      first = kept.first;
    } in
    let gains : GoesOnLaws = record { ticked = on.ticked; heard = on.heard; dropped = on.dropped; served = on.served } in
    let all : AllLaws = record { laws = laws; gains = gains; forgets = c.an_entity_may_forget.ensures.some } in
    λ config files mid now more joined served went s old new chain asked none.
    let begun = served_so g.W.Wire.steps config files mid served in
    let then = went_so g.W.Wire.steps config more mid now went begun.1 in
    let calls : Chain (ClerkSteps g.S.Spool.sent g.S.Spool.failed) (served_at s (shade_all g.W.Wire.steps config mid)).calls old new =
    subst (λ (l : List UserCall). Chain (ClerkSteps g.S.Spool.sent g.S.Spool.failed) l old new) (sym (calls_so g.W.Wire.steps config s mid)) chain in
    let left = spooled g.W.Wire.steps all config joined g.S.Spool.sent g.S.Spool.failed files (shade_all g.W.Wire.steps config mid) (shade_all g.W.Wire.steps config now) more begun.0 then.0
    s old new calls asked none in
    (left.0, left.1, delivered_so g.W.Wire.steps config s (served_at s mid).calls (served_at s (shade_all g.W.Wire.steps config mid)).calls left.0 now (calls_so g.W.Wire.steps config s mid) left.2)
