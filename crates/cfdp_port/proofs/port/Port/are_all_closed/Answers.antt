use Rattle.std.proofs.Common.{◌≡◌, rules, subst, tests}
use Rattle.std.specs.List.{list_all}
use Rattle.std.proofs.lemmas.Iterator.Consumers.{YieldsList-from_first}
use Rattle.std.proofs.lemmas.Iterator.Search.{all_from_yields_List}
use Rattle.cfdp_station.specs.Station.{StationState}
use Rattle.cfdp_entity.specs.Walking.{phases_of}
use Rattle.cfdp_port.specs.Port.{is_closed}
use Rattle.cfdp_port.proofs.port.Port.are_all_closed.Goals as goal

pub returns : goal.returns
returns g c =
    let all = all_from_yields_List (λ known. is_closed known.1) _ _ c.all.result c.all.ensures.ran
    (YieldsList-from_first (λ x. x) (λ i. i) (phases_of c.station.result.now.entity.state.table) c.transactions.ensures) (λ x b q k. search (rules, tests)) in
    subst (λ (s : StationState). c.all.result ≡ list_all (λ known. is_closed known.1) (phases_of s.entity.state.table)) c.station.ensures all
