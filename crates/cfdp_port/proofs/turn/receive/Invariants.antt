use Rattle.cfdp_station.specs.Transmitting.{Times}
use Rattle.cfdp_port.specs.Port.{KeepsLinks}
use Rattle.cfdp_port.specs.Turn.{AsksOn}
use Rattle.cfdp_port.proofs.turn.receive.Given as goal

abbrev pub invariant-loop-datagram : goal.invariant-loop-datagram
invariant-loop-datagram g l = Times (AsksOn g.W.Wire.steps) l._datagram
    (record { station = l.initial.station; wire = l.initial.wire }) (record { station = l.station; wire = l.wire })
    × KeepsLinks l.initial.station.down l.station.down
