use Rattle.std.proofs.Common.{◌≤◌, sym, subst}
use Rattle.cfdp_directives.specs.declared.user.policy.Policy.{Policy}
use Rattle.any_order.specs.Calls.{at, entity_of, setup_of}
use Rattle.cfdp_endings.specs.Entity.{GivesUp, records_left}
use Rattle.promises.proofs.Lively.{EntityLaws, Holds}
use Rattle.promises.proofs.Owing.{all-holds}
use Rattle.promises.proofs.resuming.what_is_open_ends_where_stations_resume.Goals as goal

pub returns : goal.returns
returns c =
    let kept = c.an_entity_is_never_silent.ensures in
    let on = c.an_entity_goes_on.ensures in
    let alone = c.an_entity_alone_ends.ensures in
    let laws : EntityLaws = record {
      first = kept.first;
      put = kept.put;
      called = kept.called;
      ticked = kept.ticked;
      heard = kept.heard;
      dropped = kept.dropped;
      served_by = kept.served;
      put_on = on.put;
      called_on = on.called;
      ticked_on = on.ticked;
      heard_on = on.heard;
      dropped_on = on.dropped;
      served_on = on.served;
    } in
    record {
      lively = λ setup counts sources files events start now joined begun happen s. (all-holds laws setup counts sources files events start now joined begun happen s).lively;
      ends = λ setup counts sources files events start now joined begun happen s gives n after rounds many.
          (let h : Holds (setup_of s setup).entity.policy (entity_of (at s now)) = all-holds laws setup counts sources files events start now joined begun happen s in
          alone.ends n (entity_of (at s now)) after (subst GivesUp (sym h.policy_is) gives) h.lively rounds
          (subst (λ (p : Policy). records_left p.limits (entity_of (at s now)).table.records ≤ n) (sym h.policy_is) many));
    }
