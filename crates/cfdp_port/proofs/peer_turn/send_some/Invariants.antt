use Rattle.std.proofs.Common.{length}
use Rattle.cfdp_station.specs.Transmitting.{Times}
use Rattle.cfdp_port.specs.PeerTurn.{SendsNext}
use Rattle.cfdp_port.specs.Port.{FitsFrames, port_state}
use Rattle.cfdp_port.proofs.peer_turn.send_some.Given as goal

abbrev pub invariant-loop-frame : goal.invariant-loop-frame
invariant-loop-frame g l = Times (SendsNext g.W.Wire.steps) l._frame (port_state l.initial.station l.initial.wire) (port_state l.station l.wire)
    × FitsFrames (length l.frame) l.station
