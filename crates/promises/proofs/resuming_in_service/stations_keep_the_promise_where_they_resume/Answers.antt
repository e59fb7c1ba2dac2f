use Rattle.std.proofs.Common.{sym, subst}
use Rattle.cfdp_port.proofs.GainLemmas.{GoesOnLaws}
use Rattle.any_order.proofs.Promise.{Laws}
use Rattle.promises.specs.Serving.{Stations}
use Rattle.promises.proofs.Doing.{AllLaws}
use Rattle.promises.proofs.Promising.{held_keeps}
use Rattle.promises.proofs.Reaching.{keeps_so, shaded_is}
use Rattle.promises.proofs.Standing.{KeepPromise}
use Rattle.promises.specs.Resuming.{stations_of}
use Rattle.promises.proofs.Events.{all_alive, shaded}
use Rattle.promises.proofs.resuming_in_service.stations_keep_the_promise_where_they_resume.Goals as goal

pub returns : goal.returns
returns g c =
    let kept = c.an_entity_keeps_the_truth.ensures in
    let on = c.an_entity_goes_on.ensures in
    let laws : Laws = record {
      grounds = record { put_in = c.what_comes_up_was_put_in_once.ensures; more = kept.more };
      entity = record {
        put = kept.put;
        called = kept.called;
        ticked = kept.ticked;
        served_by = kept.served;
        put_on = on.put;
        called_on = on.called;
        ticked_on = on.ticked;
        served_on = on.served;
        sends = c.an_entity_sends_the_truth.ensures;
      };
      truth = record { more = kept.more; heard = kept.heard; dropped = kept.dropped; heard_on = on.heard; dropped_on = on.dropped };
      first = kept.first;
    } in
    let gains : GoesOnLaws = record { ticked = on.ticked; heard = on.heard; dropped = on.dropped; served = on.served } in
    let all : AllLaws = record { laws = laws; gains = gains; forgets = c.an_entity_may_forget.ensures.some } in
    λ config files now joined served.
    let k = all_alive g.W.Wire.steps all c.a_resumed_entity_is_sound.ensures config joined files now served in
    keeps_so g.W.Wire.steps config files (stations_of now)
    (subst (λ (w : Stations). KeepPromise config files w) (sym (shaded_is g.W.Wire.steps config (stations_of now))) (held_keeps all config joined (shaded now) k.held files))
