use Rattle.std.proofs.Common.{◌≡◌, ◌≢◌, ◌⊎◌, None, arith, false, inl, inr, refl, subst, sym}
use Rattle.link_stack.specs.Downward.{frame_lane}
use Rattle.cfdp_station.specs.Station.{StationState}
use Rattle.cfdp_station.specs.Transmitting.{Pulls}
use Rattle.cfdp_port.specs.Calls.{Readied}
use Rattle.cfdp_port.specs.PeerTurn.{SendsNext, SendsNone}
use Rattle.cfdp_port.specs.Port.{port_state}
use Rattle.cfdp_port.proofs.TurnLemmas.{on_err, once_more}
use Rattle.cfdp_port.proofs.peer_turn.send_some.Goals as goal

pub returns-in_err-pull-clause-err : goal.returns-in_err-pull-clause-err
returns-in_err-pull-clause-err g c =
    on_err c.from_residual.result _ (record {
      count = c.loop-frame._frame;
      few = c.loop-frame-test.true;
      last = port_state c.loop-frame.station c.loop-frame.wire;
      sent = c.loop-frame.invariant.0;
      part = c.in_err-pull.ensures.err;
      wire = refl;
    })

pub returns-then-not-send_ready-clause-ok : goal.returns-then-not-send_ready-clause-ok
returns-then-not-send_ready-clause-ok g c =
    let unsent = c.if-not-send_ready.ensures.unsent refl in
    let none : SendsNone g.W.Wire.steps (port_state c.loop-frame.station c.loop-frame.wire) (port_state c.send_ready.new.station c.send_ready.new.wire) = record {
      pulls = subst (λ (s : StationState). Pulls 16 c.loop-frame.station s) (sym unsent.0) c.in_ok-pull.ensures.ok;
      ends = subst
          (λ (s : StationState). ((frame_lane s.down ≡ None) × (c.send_ready.new.wire ≡ c.loop-frame.wire))
          ⊎ ((frame_lane s.down ≢ None) × g.W.Wire.steps c.loop-frame.wire (Readied false) c.send_ready.new.wire)) (sym unsent.0) unsent.1;
    } in
    record {
      count = c.loop-frame._frame;
      last = port_state c.loop-frame.station c.loop-frame.wire;
      sent = c.loop-frame.invariant.0;
      ends = inl (c.loop-frame-test.true, none);
    }

pub loop-frame-preserved : goal.loop-frame-preserved
loop-frame-preserved g c =
    let last = port_state c.loop-frame.station c.loop-frame.wire in
    let new = port_state c.send_ready.new.station c.send_ready.new.wire in
    let sent = c.if-not-send_ready.ensures.sent refl in
    let next : SendsNext g.W.Wire.steps last new =
    record { pulled = c.pull.new.self; ready = sent.0; pulls = c.in_ok-pull.ensures.ok; asked = sent.1; sends = sent.2 } in (
      once_more (SendsNext g.W.Wire.steps) c.loop-frame._frame _ last new c.loop-frame.invariant.0 next,
      c.send_ready.ensures.fits,
    )

pub returns-clause-ok : goal.returns-clause-ok
returns-clause-ok g c = record {
  count = c.loop-frame._frame;
  last = port_state c.loop-frame.station c.loop-frame.wire;
  sent = c.loop-frame.invariant.0;
  ends = inr (omega arith, refl);
}
