use Rattle.std.proofs.Common.{◌≤◌, sym, subst}
use Rattle.cfdp_directives.specs.declared.user.policy.Policy.{Policy}
use Rattle.cfdp_endings.specs.Entity.{GivesUp, records_left}
use Rattle.cfdp_port.specs.Port.{table_of}
use Rattle.cfdp_port.proofs.GainLemmas.{GoesOnLaws}
use Rattle.any_order.specs.Calls.{AreJoined, Setup, Side, setup_of}
use Rattle.any_order.proofs.Promise.{Laws}
use Rattle.promises.proofs.Lively as ends
use Rattle.promises.specs.Serving.{HaveServed, Stations, served_at}
use Rattle.cfdp_header.specs.Files.{FileMap}
use Rattle.promises.proofs.Doing.{AllLaws}
use Rattle.promises.proofs.Lasting.{EndLaws, served_holds}
use Rattle.promises.proofs.Reaching.{holds_so, served_so, shade_all}
use Rattle.promises.proofs.in_service.what_is_open_ends_in_service.Goals as goal

pub returns : goal.returns
returns g c =
    let kept = c.an_entity_keeps_the_truth.ensures in
    let on = c.an_entity_goes_on.ensures in
    let laws : Laws = record {
      grounds = record { put_in = c.what_comes_up_was_put_in_once.ensures; more = kept.more };
      entity = record {
        put = kept.put;
        called = kept.called;
        ticked = kept.ticked;
        served_by = kept.served;
        put_on = on.put;
        called_on = on.called;
        ticked_on = on.ticked;
        served_on = on.served;
        sends = c.an_entity_sends_the_truth.ensures;
      };
      truth = record { more = kept.more; heard = kept.heard; dropped = kept.dropped; heard_on = on.heard; dropped_on = on.dropped };
      first = kept.first;
    } in
    let gains : GoesOnLaws = record { ticked = on.ticked; heard = on.heard; dropped = on.dropped; served = on.served } in
    let all : AllLaws = record { laws = laws; gains = gains; forgets = c.an_entity_may_forget.ensures.some } in
    let silent = c.an_entity_is_never_silent.ensures in
    let alone = c.an_entity_alone_ends.ensures in
    let lasting : EndLaws = record {
      entity = record {
        first = silent.first;
        put = silent.put;
        called = silent.called;
        ticked = silent.ticked;
        heard = silent.heard;
        dropped = silent.dropped;
        served_by = silent.served;
        put_on = on.put;
        called_on = on.called;
        ticked_on = on.ticked;
        heard_on = on.heard;
        dropped_on = on.dropped;
        served_on = on.served;
      };
      some = silent.some;
      alike = silent.alike;
    } in
    let holds : (config : Setup) (files : Side → FileMap) (now : Stations) → AreJoined config → HaveServed g.W.Wire.steps config files now → (s : Side) →
    ends.Holds (setup_of s config).entity.policy (served_at s now).kept.station.entity.state =
    (λ config files now joined served s.
    let standing = served_so g.W.Wire.steps config files now served in
    holds_so g.W.Wire.steps config lasting now (served_holds g.W.Wire.steps all lasting config joined files (shade_all g.W.Wire.steps config now) standing.0) s) in
    record {
      lively = λ config files now joined served s. (holds config files now joined served s).lively;
      policy = λ config files now joined served s. (holds config files now joined served s).policy_is;
      ends = λ config files now joined served s gives n after rounds many.
          (let h = holds config files now joined served s in
          alone.ends n (served_at s now).kept.station.entity.state after (subst GivesUp (sym h.policy_is) gives) h.lively rounds
          (subst (λ (p : Policy). records_left p.limits (table_of (served_at s now).kept.station).records ≤ n) (sym h.policy_is) many));
    }
