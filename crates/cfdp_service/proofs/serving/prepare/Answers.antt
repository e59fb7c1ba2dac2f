use Rattle.std.proofs.Common.{◌++◌, ◌∙◌, ap, map, refl, subst}
use Rattle.cfdp_station.specs.Station.{StationState}
use Rattle.cfdp_port.specs.Asking.{LetsGo}
use Rattle.cfdp_port.specs.Port.{table_of}
use Rattle.cfdp_service.specs.Calls.{Hears}
use Rattle.cfdp_service.specs.Serving.{said_by}
use Rattle.cfdp_service.proofs.ChainLemmas.{chain-then}
use Rattle.cfdp_service.proofs.ServingLemmas.{gains-few, hears-obeyed, some-told}
use Rattle.cfdp_service.proofs.serving.prepare.Goals as goal

pub tell-requires : goal.tell-requires
tell-requires g c = gains-few _ _ c.requires c.obey.ensures.gains

pub returns-clause-prepares : goal.returns-clause-prepares
returns-clause-prepares g c =
    let wished = c.obey.ensures.obeys in
    let put = c.obey.new.port.station in
    let told = c.tell.ensures.station in
    let lets : LetsGo c.tell.new.port.station c.forget_closed.new.self.station = c.forget_closed.ensures.happens in
    let forgot = some-told c.tell.new.port.station.entity.state c.forget_closed.new.self.station.entity.state lets.forgets in (
      wished.0 ++ map Hears (said_by (table_of put)),
      record {
        wished = wished.0;
        done = put;
        obeys = wished.1;
        lets_go = subst (λ (s : StationState). LetsGo s c.forget_closed.new.self.station) told lets;
        is = refl;
      },
      chain-then g.U.User.steps wished.0 (map Hears (said_by (table_of put))) _ _ _ wished.2 c.tell.ensures.heard,
      λ before h. hears-obeyed before wished.0 c.args.port.now.station put (table_of c.forget_closed.new.self.station) wished.1 c.obey.ensures.gains
          (forgot.0 ∙ ap (λ (s : StationState). (table_of s).told) told) (forgot.1 ∙ ap (λ (s : StationState). (table_of s).gone) told) h,
    )
