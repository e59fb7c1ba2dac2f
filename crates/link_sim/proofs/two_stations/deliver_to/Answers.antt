use Rattle.std.proofs.Common.{◌≡◌, true, [], ◌∷◌, ◌++◌, sym, subst}
use Rattle.link_sim.specs.FrameLink.{FrameLinkState}
use Rattle.link_sim.specs.AtStation.{HearsAt}
use Rattle.link_sim.proofs.Events.AtStations.{delivered_at}
use Rattle.link_sim.proofs.two_stations.deliver_to.Goals as goal

pub returns : goal.returns
returns g c =
    let k : FrameLinkState = c.args.link.now in
    let e = c.in-Some.ensures in
    record {
      waits = e.0;
      marked = c.deliver.ensures;
      hears = λ down is.
          let taken : FrameLinkState = record k { marks = k.marks ++ true ∷ []; run = 0 } in
          let same : taken ≡ c.deliver.new.self = sym {b = taken} c.deliver.ensures in
          let heard : HearsAt c.args.lane down k taken c.args.station.now c.receive.new.self = delivered_at c.args.lane down k c.args.station.now c.receive.new.self c.in-Some.frame.now is e.0 e.1 c.receive.ensures in
          subst (λ (x : FrameLinkState). HearsAt c.args.lane down k x c.args.station.now c.receive.new.self) same heard;
      down = c.receive.ensures.down;
    }
