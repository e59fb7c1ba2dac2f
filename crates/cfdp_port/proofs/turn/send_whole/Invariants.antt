use Rattle.std.proofs.Common.{ℕ, length}
use Rattle.cfdp_station.specs.Transmitting.{Times}
use Rattle.cfdp_port.specs.Port.{FitsFrames, all_waiting, port_state}
use Rattle.cfdp_port.specs.Turn.{SendsFrame}
use Rattle.cfdp_port.proofs.turn.send_whole.Given as goal

abbrev pub invariant-loop-side : goal.invariant-loop-side
invariant-loop-side g l = ((count : ℕ) × Times (SendsFrame g.W.Wire.steps) count (port_state l.initial.station l.initial.wire) (port_state l.station l.wire))
    × FitsFrames (length l.frame) l.station

abbrev pub decreases-loop-side : goal.decreases-loop-side
decreases-loop-side g l = all_waiting l.station.down
