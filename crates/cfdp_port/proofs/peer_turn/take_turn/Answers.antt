use Rattle.std.proofs.Common.{ap, inl, inr}
use Rattle.cfdp_station.specs.Station.{StationState}
use Rattle.cfdp_port.specs.Gains.{Gains}
use Rattle.cfdp_port.specs.PeerTurn.{SendsSome, SendsSomeInPart, TakesInPart, TakesOne}
use Rattle.cfdp_port.specs.Port.{port_state, table_of}
use Rattle.cfdp_port.proofs.GainLemmas.{GoesOnLaws, part-gains, turn-gains}
use Rattle.cfdp_port.proofs.TurnLemmas.{err-map, ok-map, on_both, on_err}
use Rattle.cfdp_port.proofs.peer_turn.take_turn.Goals as goal

pub returns-in_err-tick-clause-err : goal.returns-in_err-tick-clause-err
returns-in_err-tick-clause-err g c =
    on_err c.from_residual.result _ (record {
      now = c.now-now.result;
      heard = port_state c.receive.new.station c.receive.new.wire;
      timed = c.now-now.new.self;
      hears = c.receive.ensures.hears;
      times = c.now-now.ensures;
      ends = inl (ap (λ (s : StationState). port_state s c.now-now.new.self) c.in_err-tick.ensures.err);
    })

pub returns-in_err-tick-clause-gains : goal.returns-in_err-tick-clause-gains
returns-in_err-tick-clause-gains g c =
    let on = c.an_entity_goes_on.ensures in
    let laws : GoesOnLaws = record { ticked = on.ticked; heard = on.heard; dropped = on.dropped; served = on.served } in
    let old = port_state c.args.station.now c.args.wire.now in
    let new = port_state c.tick.new.station c.now-now.new.self in
    let part : TakesInPart g.W.Wire.steps old new = record {
      now = c.now-now.result;
      heard = port_state c.receive.new.station c.receive.new.wire;
      timed = c.now-now.new.self;
      hears = c.receive.ensures.hears;
      times = c.now-now.ensures;
      ends = inl (ap (λ (s : StationState). port_state s c.now-now.new.self) c.in_err-tick.ensures.err);
    } in
    part-gains laws g.W.Wire.steps old new part

pub returns-clause-ok : goal.returns-clause-ok
returns-clause-ok g c =
    let old = port_state c.args.station.now c.args.wire.now in
    let new = port_state c.send_some.new.station c.send_some.new.wire in
    let told_now = port_state c.tick.new.station c.now-now.new.self in
    ok-map c.send_some.result (SendsSome g.W.Wire.steps told_now new) (TakesOne g.W.Wire.steps old new)
    (λ sends. record {
      now = c.now-now.result;
      heard = port_state c.receive.new.station c.receive.new.wire;
      timed = c.now-now.new.self;
      hears = c.receive.ensures.hears;
      times = c.now-now.ensures;
      told = c.tick.new.station;
      tells = c.in_ok-tick.ensures.told;
      sends = sends;
    }) c.send_some.ensures.ok

pub returns-clause-err : goal.returns-clause-err
returns-clause-err g c =
    let old = port_state c.args.station.now c.args.wire.now in
    let new = port_state c.send_some.new.station c.send_some.new.wire in
    let told_now = port_state c.tick.new.station c.now-now.new.self in
    err-map c.send_some.result (SendsSomeInPart g.W.Wire.steps told_now new) (TakesInPart g.W.Wire.steps old new)
    (λ part. record {
      now = c.now-now.result;
      heard = port_state c.receive.new.station c.receive.new.wire;
      timed = c.now-now.new.self;
      hears = c.receive.ensures.hears;
      times = c.now-now.ensures;
      ends = inr (c.tick.new.station, c.in_ok-tick.ensures.told, part);
    }) c.send_some.ensures.err

pub returns-clause-gains : goal.returns-clause-gains
returns-clause-gains g c =
    let on = c.an_entity_goes_on.ensures in
    let laws : GoesOnLaws = record { ticked = on.ticked; heard = on.heard; dropped = on.dropped; served = on.served } in
    let old = port_state c.args.station.now c.args.wire.now in
    let new = port_state c.send_some.new.station c.send_some.new.wire in
    on_both c.send_some.result (TakesOne g.W.Wire.steps old new) (TakesInPart g.W.Wire.steps old new)
    (Gains (table_of c.args.station.now) (table_of c.send_some.new.station)) (returns-clause-ok g c) (returns-clause-err g c)
    (turn-gains laws g.W.Wire.steps old new) (part-gains laws g.W.Wire.steps old new)
